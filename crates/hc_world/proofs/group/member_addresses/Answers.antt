use Rattle.std.proofs.Common.{List, [], ◌∷◌, ◌++◌, map, sym, ap, ◌∙◌, arith}
use Rattle.std.specs.List.{range_with_len}
use Rattle.std.proofs.lemmas.List.FromFn.{map-range_with_len_more}
use Rattle.r2_base.specs.declared.addr.Addr.{Addr}
use Rattle.hc_world.specs.Addresses.{member_address}
use Rattle.hc_world.proofs.group.member_addresses.Goals as goal

pub members-preserved : goal.members-preserved
members-preserved c =
    c.in_ok-push.ensures.items ∙ ap (λ (xs : List Addr). xs ++ c.member_address.result ∷ []) c.members.invariant
    ∙ ap (λ (x : Addr). map member_address (range_with_len 0 c.members.member) ++ x ∷ []) c.member_address.ensures
    ∙ sym (map-range_with_len_more member_address 0 c.members.member c.members.member (omega arith))

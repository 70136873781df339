use Rattle.std.proofs.Common.{ℕ, List, [], ◌∷◌, ◌++◌, ap, ◌∙◌}
use Rattle.r2_base.specs.declared.addr.Addr.{Addr}
use Rattle.cmd_replica.proofs.Alone.{alone}
use Rattle.cmd_replica.proofs.tests.group_of_one.Goals as goal

pub returns : goal.returns
returns c =
    let member : Addr = record { ip = 0x0A000001; port = 9000 } in
    alone member c.push.new.self c.push-2.new.self
    (c.in_ok-push.ensures.ok ∙ ap (λ (l : List Addr). l ++ member ∷ []) c.new-members.ensures)
    (c.in_ok-push-2.ensures.ok ∙ ap (λ (l : List ℕ). l ++ 64 ∷ []) c.new-bounds.ensures)

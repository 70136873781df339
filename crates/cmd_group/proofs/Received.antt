-- Who receives at the address of a member, and at that of the aggregator; and the number of what was sent.
use Rattle.std.proofs.Common.{◌≡◌, ℕ, suc, ◌<◌, Bool, true, List, [], ◌∷◌, get_or, Option, None, Some, refl, sym, ap, subst, ◌∙◌, arith, inl, inr}
use Rattle.std.specs.Prelude.{◌≢◌, All, IfSome, is_some, position, slice_get}
use Rattle.std.proofs.lemmas.List.Elements.{All-get_or}
use Rattle.std.proofs.lemmas.List.Folds.{list_any_at}
use Rattle.std.proofs.lemmas.List.Quantifiers.{position-Some}
use Rattle.std.proofs.lemmas.Option.{get_or_from_slice_get, slice_get_within}
use Rattle.r2_base.specs.declared.addr.Addr.{Addr}
use Rattle.r2_base.specs.Names.{same_addr}
use Rattle.r2_base.proofs.SameNames.{same_addr-same, same_addr-true}
use Rattle.hc_log.proofs.Logs.{is_some-position}
use Rattle.hc_member.specs.Setup.{is_from_aggregator}
use Rattle.hc_rules.specs.Log.{In}
use Rattle.hc_run.specs.Group.{Group, IsGroup, Member, Aggregator, receiver_at, receiver_by}

-- Lists --

-- the place of an item
pub record HasNumber {A : Type 0} (x : A) (l : List A) : Type 0 where
  pub number : ℕ
  pub found : slice_get l number ≡ Some x

pub number-of : {A : Type 0} (x : A) (l : List A) → In x l → HasNumber x l
number-of x [] there = absurd there
number-of x (y ∷ l) (inl same) = record { number = 0; found = ap Some (sym same) }
number-of x (y ∷ l) (inr later) = let rest = number-of x l later in record { number = suc rest.number; found = rest.found }

-- Receivers --

nobody : Addr
nobody = record { ip = 0; port = 0 }

module _ (g : Group) (is : IsGroup g) where
  -- the member at an address is found there
  at-member : (to : Addr) (v : ℕ) (b : Bool) (found : Option ℕ) → position (same_addr to) g.members ≡ found → slice_get g.members v ≡ Some to → receiver_by b found ≡ Member v
  at-member to v b None e at =
      let none = sym (is_some-position (same_addr to) g.members) ∙ ap is_some e in
      let inside = slice_get_within g.members v to at in
      let here = get_or_from_slice_get g.members v to to at in
      let some = list_any_at (same_addr to) g.members v to inside (subst (λ (a : Addr). same_addr to a ≡ true) (sym here) (same_addr-same to)) in
      cc
  at-member to v b (Some u) e at =
      let there = position-Some (same_addr to) g.members u to e in
      let same : to ≡ get_or g.members u to = same_addr-true to (get_or g.members u to) there.1 in
      let inside = slice_get_within g.members v to at in
      let here = get_or_from_slice_get g.members v to to at in
      let low : (u < v → ⊥) = λ less. is.distinct u v to less inside (sym same ∙ sym here) in
      let high : (v < u → ⊥) = λ less. is.distinct v u to less there.0 (here ∙ same) in
      let one : u ≡ v = omega (arith, low, high) in
      ap Member one

  pub received-by-member : (to : Addr) (v : ℕ) → slice_get g.members v ≡ Some to → receiver_at g to ≡ Member v
  unfolding receiver_at
  received-by-member to v at = at-member to v (is_from_aggregator g.aggregator to) (position (same_addr to) g.members) refl at

  -- no member has the address of the aggregator
  at-aggregator : (me : Addr) (found : Option ℕ) → position (same_addr me) g.members ≡ found → g.aggregator ≡ Some me → receiver_by true found ≡ Aggregator
  at-aggregator me None e at = refl
  at-aggregator me (Some u) e at =
      let there = position-Some (same_addr me) g.members u me e in
      let same : me ≡ get_or g.members u me = same_addr-true me (get_or g.members u me) there.1 in
      let apart : All (λ member. member ≢ me) g.members = subst (λ (o : Option Addr). IfSome o (λ aggregator. All (λ member. member ≢ aggregator) g.members)) at is.apart in
      absurd (All-get_or (λ member. member ≢ me) g.members u me there.0 apart (sym same))

  pub received-by-aggregator : (me : Addr) → g.aggregator ≡ Some me → receiver_at g me ≡ Aggregator
  unfolding receiver_at
  received-by-aggregator me at =
      let own : is_from_aggregator g.aggregator me ≡ true = ap (λ (o : Option Addr). is_from_aggregator o me) at ∙ same_addr-same me in
      ap (λ (b : Bool). receiver_by b (position (same_addr me) g.members)) own ∙ at-aggregator me (position (same_addr me) g.members) refl at

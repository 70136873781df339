-- What was applied is one list: a prefix of the agreed one, with the bodies of the table.
use Rattle.std.proofs.Common.{◌≡◌, ℕ, zero, suc, ◌-◌, ◌<◌, ◌≤◌, ◌==◌, Bool, true, false, List, [], ◌∷◌, length, take, get_or, refl, sym, ap, subst, ◌∙◌, arith, inl, inr}
use Rattle.std.proofs.lemmas.Bool.{cases_lt, eqb-true}
use Rattle.std.proofs.lemmas.List.{ext_get_or, get_or-take, length-take-le}
use Rattle.std.proofs.lemmas.List.FromFn.{get_or-map-range_with_len, length-map-range_with_len}
use Rattle.r2_base.specs.declared.entry.Entry.{Entry}
use Rattle.r2_base.specs.Entry.{blank_entry}
use Rattle.hc_log.specs.declared.stored.Stored.{Stored}
use Rattle.hc_log.specs.Log.{blank_of, metas_of, stored_at}
use Rattle.hc_rules.specs.Agreed.{HasAt, HasNoneTwice, agreed}
use Rattle.hc_rules.specs.Log.{In, Share, entry_at}
use Rattle.hc_rules.specs.Message.{Passed as WorldPassed}
use Rattle.hc_rules.specs.Protocol.{ProtocolState}
use Rattle.hc_rules.specs.Requests.{entry_body}
use Rattle.hc_rules.proofs.Agreement.{has_at, none_twice}
use Rattle.hc_run.specs.Held.{IsWhole}
use Rattle.hc_run.specs.Group.{Group}
use Rattle.hc_run.specs.State.{GroupState, Passed}
use Rattle.hc_run.specs.OneList.{IsItsEntry, IsOneList, applied_list, greatest_passed, passed_at}
use Rattle.hc_run.specs.Shows.{Shows}
use Rattle.hc_run.specs.Tied.{passed_in}
use Rattle.hc_run.proofs.Gaps.{HasNoGaps}
use Rattle.hc_run.proofs.Items.{IsMadeOf, holds-in, in-map, made-of}
use Rattle.hc_run.proofs.Metas.{entry-metas, length-metas}
use Rattle.hc_run.proofs.TableBodies.{IsDistinct, body-of}
use Rattle.hc_run.proofs.WholeBodies.{AreWhole}

-- What was applied at an index --

-- something was applied at an index, and is found there
pub record IsFound (l : List Passed) (index : ℕ) : Type 0 where
  pub newest : Passed
  pub there : In newest l
  pub place : newest.index ≡ index
  pub is : passed_at l index ≡ newest.stored

found-at : (l : List Passed) (index : ℕ) (x : Passed) → In x l → x.index ≡ index → IsFound l index
found-at [] index x there at = absurd there
found-at (y ∷ l) index x there at = by (y.index == index) refl there (λ later. found-at l index x later at)
  where
    not-itself : (n : ℕ) → (n == n) ≡ false → ⊥
    not-itself n e = grind (arith, e)

    by : (b : Bool) → (y.index == index) ≡ b → In x (y ∷ l) → (In x l → IsFound l index) → IsFound (y ∷ l) index
    by true e there before = record { newest = y; there = inl refl; place = eqb-true y.index index e; is = rw e refl }
    by false e (inl same) before =
        let other : (x.index == index) ≡ false = ap (λ (z : Passed). z.index == index) same ∙ e in
        absurd (not-itself index (ap (λ (n : ℕ). n == index) (sym at) ∙ other))
    by false e (inr later) before =
        let one = before later in
        record { newest = one.newest; there = inr one.there; place = one.place; is = rw e one.is }

pub greatest-over : (l : List Passed) (x : Passed) → In x l → x.index ≤ greatest_passed l
greatest-over [] x there = absurd there
greatest-over (y ∷ l) x (inl same) = let e = ap (λ (z : Passed). z.index) same in omega (arith, e)
greatest-over (y ∷ l) x (inr later) = let e = greatest-over l x later in omega (arith, e)

-- up to the greatest index there is a greater one at which something was applied
record IsBelow (l : List Passed) (index : ℕ) : Type 0 where
  greater : Passed
  there : In greater l
  below : index ≤ greater.index

greatest-some : (l : List Passed) (index : ℕ) → 1 ≤ index → index ≤ greatest_passed l → IsBelow l index
greatest-some [] index low high = absurd (omega (arith, low, high))
greatest-some (y ∷ l) index low high =
    elim (cases_lt y.index index) [
      | inl less ↦
          let one = greatest-some l index low (omega (arith, less, high)) in
          record { greater = one.greater; there = inr one.there; below = one.below }
      | inr more ↦ record { greater = y; there = inl refl; below = more }
    ]

-- what was applied has the index of what it is in the protocol
pub index-of : (y : WorldPassed) (l : List Passed) (made : IsMadeOf passed_in y l) → made.item.index ≡ y.index
index-of y l made = ap (λ (z : WorldPassed). z.index) (sym made.made)

-- One list --

-- an entry with its body
abbrev pub stored_with : Entry → List ℕ → Stored
stored_with entry body = record { entry = entry; body = body }

pub stored-equal : (d e : Entry) (a b : List ℕ) → d ≡ e → a ≡ b → stored_with d a ≡ stored_with e b
stored-equal d e a b p q = cc

abbrev passed_with : ℕ → ℕ → Stored → Passed
passed_with member index stored = record { member = member; index = index; stored = stored }

passed-equal : (v i j : ℕ) (a b : Stored) → i ≡ j → a ≡ b → passed_with v i a ≡ passed_with v j b
passed-equal v i j a b p q = cc

module _ (g : Group) (w : ProtocolState) (s : GroupState) (shows : Shows g w s) (whole : AreWhole s) (none : HasNoGaps w) where
  abbrev pub top : ℕ
  top = greatest_passed s.passed

  -- what was applied is the agreed list's
  pub agreed-at : (x : Passed) → In x s.passed → HasAt (agreed w) x.index x.stored.entry
  agreed-at x there =
      let kept = shows.kept in
      let commitments = kept.commitments in
      let passed : In (passed_in x) w.passed = rw shows.passed (in-map passed_in x s.passed there) in
      has_at w kept x.index x.stored.entry (commitments.passed_was_committed (passed_in x) passed)

  -- so it is the same at the same index
  pub same-stored : (x y : Passed) → In x s.passed → In y s.passed → x.index ≡ y.index → x.stored ≡ y.stored
  same-stored x y a b same =
      let kept = shows.kept in
      let requests = kept.requests in
      let distinct = subst IsDistinct shows.table requests.table_is_distinct in
      let one = agreed-at x a in
      let two = agreed-at y b in
      let entry : x.stored.entry ≡ y.stored.entry = sym one.is ∙ (ap (entry_at (agreed w)) same ∙ two.is) in
      let these = body-of s.table x.stored distinct (holds-in (λ (z : Passed). IsWhole s.table z.stored) x s.passed whole a) in
      let those = body-of s.table y.stored distinct (holds-in (λ (z : Passed). IsWhole s.table z.stored) y s.passed whole b) in
      stored-equal x.stored.entry y.stored.entry x.stored.body y.stored.body entry (sym these ∙ (ap (entry_body s.table) entry ∙ those))

  -- something was applied at each index up to the greatest
  pub found : (k : ℕ) → k < top → IsFound s.passed (suc k)
  found k less =
      let some = greatest-some s.passed (suc k) (omega arith) (omega (arith, less)) in
      let passed : In (passed_in some.greater) w.passed = rw shows.passed (in-map passed_in some.greater s.passed some.there) in
      let below = some.below in
      let one = none (passed_in some.greater) passed k (omega (arith, below)) in
      let that : WorldPassed = record { member = some.greater.member; index = suc k; entry = one.entry } in
      let made = made-of passed_in that s.passed (subst (λ (l : List WorldPassed). In that l) shows.passed one.done) in
      found-at s.passed (suc k) made.item made.there (index-of that s.passed made)

  -- the list --

  pub size : length (applied_list s) ≡ top
  unfolding applied_list
  size = length-map-range_with_len (passed_at s.passed) 1 top

  item : (k : ℕ) (d : Stored) → k < top → get_or (applied_list s) k d ≡ passed_at s.passed (suc k)
  unfolding applied_list
  item k d less = get_or-map-range_with_len (passed_at s.passed) 1 top k (suc k) d less (omega arith)

  pub found-item : (k : ℕ) (d : Stored) (less : k < top) → get_or (applied_list s) k d ≡ (found k less).newest.stored
  found-item k d less = let one = found k less in item k d less ∙ one.is

  pub stored-item : (k : ℕ) → k < top → stored_at (applied_list s) (suc k) ≡ passed_at s.passed (suc k)
  stored-item k less =
      let e : suc k - 1 ≡ k = omega arith in
      rw e (item k (blank_of 0) less)

  pub each-entry : (x : Passed) → In x s.passed → IsItsEntry (applied_list s) x
  each-entry x there =
      let one = agreed-at x there in
      let most = greatest-over s.passed x there in
      let all = size in
      record { first = one.first; within = omega (arith, most, all); same = by x.index refl one.first most }
    where
      by : (index : ℕ) → x.index ≡ index → 1 ≤ index → index ≤ top → stored_at (applied_list s) index ≡ x.stored
      by zero e first most = absurd (omega (arith, first))
      by (suc k) e first most =
          let one = found k (omega (arith, most)) in
          stored-item k (omega (arith, most)) ∙ one.is ∙ same-stored one.newest x one.there there (one.place ∙ sym e)

  pub only-entries : (index : ℕ) → 1 ≤ index → index ≤ length (applied_list s)
      → (member : ℕ) × In (record { member = member; index = index; stored = stored_at (applied_list s) index }) s.passed
  only-entries zero low high = absurd (omega (arith, low))
  only-entries (suc k) low high =
      let all = size in
      let less : k < top = omega (arith, high, all) in
      let one = found k less in
      let stored : stored_at (applied_list s) (suc k) ≡ one.newest.stored = stored-item k less ∙ one.is in
      (one.newest.member, subst (λ (x : Passed). In x s.passed) (passed-equal one.newest.member one.newest.index (suc k) one.newest.stored (stored_at (applied_list s) (suc k)) one.place (sym stored)) one.there)

  -- the agreed list --

  pub agreed-entry : (k : ℕ) → k < top → entry_at (metas_of (applied_list s)) (suc k) ≡ entry_at (agreed w) (suc k)
  agreed-entry k less =
      let one = found k less in
      let there = agreed-at one.newest one.there in
      entry-metas (applied_list s) k ∙ ap (λ (x : Stored). x.entry) (found-item k (blank_of 0) less) ∙ sym there.is ∙ ap (entry_at (agreed w)) one.place

  pub top-within : top ≤ length (agreed w)
  top-within = by top refl
    where
      by : (n : ℕ) → top ≡ n → n ≤ length (agreed w)
      by zero e = omega arith
      by (suc k) e =
          let one = found k (omega (arith, e)) in
          let there = agreed-at one.newest one.there in
          let within = there.within in
          let place = one.place in
          omega (arith, within, place)

  pub shared : Share (length (applied_list s)) (metas_of (applied_list s)) (agreed w)
  shared =
      let all = size in
      let metas = length-metas (applied_list s) in
      let within = top-within in
      let n = length (applied_list s) in
      let here : n ≤ length (metas_of (applied_list s)) = omega (arith, metas) in
      let there : n ≤ length (agreed w) = omega (arith, all, within) in
      let first = length-take-le n (metas_of (applied_list s)) here in
      let second = length-take-le n (agreed w) there in
      record {
        here = here;
        there = there;
        same = ext_get_or (blank_entry 0) (take n (metas_of (applied_list s))) (take n (agreed w)) (first ∙ sym second)
            (λ k inside.
            let less : k < n = omega (arith, inside, first) in
            get_or-take n (metas_of (applied_list s)) k (blank_entry 0) less ∙ agreed-entry k (omega (arith, less, all)) ∙ sym (get_or-take n (agreed w) k (blank_entry 0) less));
      }

  once-each : HasNoneTwice (metas_of (applied_list s))
  once-each zero k i_first i_within k_first k_within asks_i asks_k same = absurd (omega (arith, i_first))
  once-each (suc i) zero i_first i_within k_first k_within asks_i asks_k same = absurd (omega (arith, k_first))
  once-each (suc i) (suc k) i_first i_within k_first k_within asks_i asks_k same =
      let all = size in
      let metas = length-metas (applied_list s) in
      let within = top-within in
      let a : i < top = omega (arith, i_within, metas, all) in
      let b : k < top = omega (arith, k_within, metas, all) in
      let one = agreed-entry i a in
      let two = agreed-entry k b in
      none_twice w shows.kept (suc i) (suc k) i_first (omega (arith, a, within)) k_first (omega (arith, b, within)) (rw one at asks_i) (rw two at asks_k)
      (ap (λ (x : Entry). x.rid) (sym one) ∙ same ∙ ap (λ (x : Entry). x.rid) two)

  pub one-list : IsOneList s (agreed w)
  one-list =
      let all = size in
      record {
        each = each-entry;
        only = only-entries;
        prefix = shared;
        bodies = λ k d inside.
            let less : k < top = omega (arith, inside, all) in
            subst (IsWhole s.table) (sym (found-item k d less)) (holds-in (λ (z : Passed). IsWhole s.table z.stored) (found k less).newest s.passed whole (found k less).there);
        once = once-each;
      }

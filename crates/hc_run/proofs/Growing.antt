-- What was applied stays, so the list only grows.
use Rattle.std.proofs.Common.{◌≡◌, ℕ, zero, suc, ◌-◌, ◌<◌, ◌≤◌, List, length, take, get_or, sym, subst, ◌∙◌, arith}
use Rattle.std.proofs.lemmas.List.{ext_get_or, get_or-take, length-take-le}
use Rattle.r2_base.specs.declared.entry.Entry.{Entry}
use Rattle.hc_log.specs.Log.{blank_of, stored_at}
use Rattle.hc_rules.specs.Log.{In, Share}
use Rattle.hc_run.specs.Group.{Group}
use Rattle.hc_run.specs.State.{GroupState, Passed}
use Rattle.hc_run.specs.Events.{GroupEvent}
use Rattle.hc_run.specs.OneList.{IsOneList, applied_list}
use Rattle.hc_run.specs.Runs.{after_events}
use Rattle.hc_run.proofs.Following.{events-later}
use Rattle.hc_run.proofs.Items.{in-right}

-- what was applied in one state was in another
abbrev pub HasAll : GroupState → GroupState → Type 0
HasAll s t = (x : Passed) → In x s.passed → In x t.passed

pub events-add : (g : Group) (s : GroupState) (events : List GroupEvent) → HasAll s (after_events g s events)
events-add g s events x there =
    let passed = (events-later g s events).passed in
    subst (λ (l : List Passed). In x l) (sym passed.split) (in-right x passed.newer s.passed there)

-- an entry of a list of what was applied is one of a later list
its-entry : (s t : GroupState) (before now : List Entry) → IsOneList s before → IsOneList t now → HasAll s t → (k : ℕ) → k < length (applied_list s)
    → (suc k ≤ length (applied_list t)) × (stored_at (applied_list t) (suc k) ≡ stored_at (applied_list s) (suc k))
its-entry s t before now one two more k less =
    let some = one.only (suc k) (omega arith) (omega (arith, less)) in
    let entry = two.each _ (more _ some.1) in
    (entry.within, entry.same)

not-shorter : (n m : ℕ) → ((k : ℕ) → k < n → suc k ≤ m) → n ≤ m
not-shorter zero m each = omega arith
not-shorter (suc k) m each = each k (omega arith)

-- so it is a prefix of that
pub list-grows : (s t : GroupState) (before now : List Entry) → IsOneList s before → IsOneList t now → HasAll s t
    → Share (length (applied_list s)) (applied_list s) (applied_list t)
list-grows s t before now one two more =
    let n = length (applied_list s) in
    let its = its-entry s t before now one two more in
    let within = not-shorter n (length (applied_list t)) (λ k less. (its k less).0) in
    let first = length-take-le n (applied_list s) (omega arith) in
    let second = length-take-le n (applied_list t) within in
    record {
      here = omega arith;
      there = within;
      same = ext_get_or (blank_of 0) (take n (applied_list s)) (take n (applied_list t)) (first ∙ sym second)
          (λ k inside.
          let less : k < n = omega (arith, inside, first) in
          let e : suc k - 1 ≡ k = omega arith in
          let same : get_or (applied_list t) k (blank_of 0) ≡ get_or (applied_list s) k (blank_of 0) = rw e at (its k less).1 in
          get_or-take n (applied_list s) k (blank_of 0) less ∙ sym same ∙ sym (get_or-take n (applied_list t) k (blank_of 0) less));
    }

-- What a turn stores leads from the durable state before it to the one after it, and is there exactly where that changed.
use Rattle.std.proofs.Common.{◌≡◌, ◌≢◌, ℕ, ◌<◌, ◌≤◌, ◌==◌, Bool, true, false, List, [], ◌∷◌, length, Option, None, Some, refl, sym, ap, subst, ◌∙◌, inl, inr, arith, length-drop}
use Rattle.std.specs.Prelude.{◌&&◌, not, if◌then◌else◌}
use Rattle.std.proofs.lemmas.Bool.{and_parts, cases_lt, eq-eqb, eqb-true}
use Rattle.std.proofs.lemmas.Bool.Decides.{nat_tests}
use Rattle.std.proofs.lemmas.List.{take_all}
use Rattle.hc_log.specs.declared.stored.Stored.{Stored}
use Rattle.hc_log.specs.Durable.{State, IsValid}
use Rattle.hc_log.specs.Laws.{MayComeBehind, record_of}
use Rattle.hc_log.proofs.Changes.{changes_lead_there}
use Rattle.hc_member.specs.Laws.{IsStored}
use Rattle.hc_member.specs.Member.{Member, durable_of}
use Rattle.hc_member.specs.Turn.{is_stored, same_vote, stored_of}
use Rattle.hc_member.proofs.Goes.{Comes}

same_vote-same : (vote : Option ℕ) → same_vote vote vote ≡ true
same_vote-same None = refl
same_vote-same (Some member) = grind (arith, nat_tests)

same_vote-true : (a b : Option ℕ) → same_vote a b ≡ true → a ≡ b
same_vote-true None None e = refl
same_vote-true None (Some b) e = cc
same_vote-true (Some a) None e = cc
same_vote-true (Some a) (Some b) e = ap (λ (x : ℕ). Some x) (eqb-true a b e)

-- nothing is stored where nothing changed
unstored : (m n : Member) (keep : ℕ) → m.term ≡ n.term → n.vote ≡ m.vote → length m.log ≡ keep → length n.log ≡ keep → is_stored m keep n ≡ false
unstored m n keep term vote old new =
    let first = eq-eqb m.term n.term term in
    let second : same_vote m.vote n.vote ≡ true = subst (λ v. same_vote m.vote v ≡ true) (sym vote) (same_vote-same m.vote) in
    let third = eq-eqb (length m.log) keep old in
    let fourth = eq-eqb (length n.log) keep new in
    rw (first, second, third, fourth) refl

-- a log without terms is empty
no_terms : (d : State) → IsValid d → d.term ≡ 0 → length d.log ≡ 0
no_terms d valid none = empty d.log (λ k x h. let entry = valid.log k x h in let stored = entry.stored in omega (arith, stored.term_is_set, valid.terms k x h, none))
  where
    empty : (log : List Stored) → ((k : ℕ) (x : Stored) → k < length log → ⊥) → length log ≡ 0
    empty [] never = refl
    empty (x ∷ xs) never = absurd (never 0 x (omega arith))

-- a vote of no term is none
no_vote : (d : State) → IsValid d → d.term ≡ 0 → d.vote ≡ None
no_vote d valid none = valid.unset none

-- what is stored is of a term
stored-is_set : (m n : Member) (keep : ℕ) → IsValid (durable_of m) → IsValid (durable_of n) → Comes (durable_of m) (durable_of n) keep → is_stored m keep n ≡ true → 1 ≤ n.term
stored-is_set m n keep before behind comes e =
    elim (cases_lt 0 n.term) [
      | inl some ↦ omega arith
      | inr none ↦
          let higher = comes.term in
          let zero_now : n.term ≡ 0 = omega (arith, none) in
          let zero_before : m.term ≡ 0 = omega (arith, none, higher) in
          let votes : n.vote ≡ m.vote = no_vote (durable_of n) behind zero_now ∙ sym (no_vote (durable_of m) before zero_before) in
          let long = no_terms (durable_of n) behind zero_now in
          let short = no_terms (durable_of m) before zero_before in
          let within = comes.within in
          let nothing = unstored m n keep (omega (arith, zero_now, zero_before)) votes (omega (arith, short, within)) (omega (arith, long, short, within)) in
          absurd (let both : true ≡ false = sym e ∙ nothing in cc)
    ]

-- where nothing is stored, nothing changed
unchanged : (m n : Member) (keep : ℕ) → Comes (durable_of m) (durable_of n) keep → is_stored m keep n ≡ false → durable_of n ≡ durable_of m
unchanged m n keep comes e =
    let all = not_true (m.term == n.term && same_vote m.vote n.vote && length m.log == keep && length n.log == keep) e in
    let outer = and_parts (m.term == n.term && same_vote m.vote n.vote && length m.log == keep) (length n.log == keep) all in
    let middle = and_parts (m.term == n.term && same_vote m.vote n.vote) (length m.log == keep) outer.0 in
    let inner = and_parts (m.term == n.term) (same_vote m.vote n.vote) middle.0 in
    let term : n.term ≡ m.term = sym (eqb-true m.term n.term inner.0) in
    let vote : n.vote ≡ m.vote = sym (same_vote-true m.vote n.vote inner.1) in
    let old = eqb-true (length m.log) keep middle.1 in
    let new = eqb-true (length n.log) keep outer.1 in
    let log : n.log ≡ m.log = sym (take_all keep n.log (omega (arith, new))) ∙ sym comes.front ∙ take_all keep m.log (omega (arith, old)) in
    λ k. record { term = term k; vote = vote k; log = log k }
  where
    not_true : (b : Bool) → not b ≡ false → b ≡ true
    not_true true e = refl
    not_true false e = cc

-- where something is stored, something changed
changed : (m n : Member) (keep : ℕ) → Comes (durable_of m) (durable_of n) keep → is_stored m keep n ≡ true → durable_of n ≢ durable_of m
changed m n keep comes e same =
    let log : n.log ≡ m.log = ap (λ (d : State). d.log) same in
    let term : n.term ≡ m.term = ap (λ (d : State). d.term) same in
    let vote : n.vote ≡ m.vote = ap (λ (d : State). d.vote) same in
    elim (cases_lt keep (length m.log)) [
      | inl less ↦ comes.cut less log
      | inr whole ↦
          let within = comes.within in
          let sizes = ap length log in
          let nothing = unstored m n keep (sym term) vote (omega (arith, whole, within)) (omega (arith, whole, within, sizes)) in
          let both : true ≡ false = sym e ∙ nothing in
          cc
    ]

-- the record of a change
stored-by : (b : Bool) (m n : Member) (keep : ℕ) → is_stored m keep n ≡ b → IsValid (durable_of m) → IsValid (durable_of n) → Comes (durable_of m) (durable_of n) keep
    → IsStored (durable_of m) (if b then Some (record_of (durable_of n) keep) else None) (durable_of n)
stored-by true m n keep e before behind comes =
    let may : MayComeBehind (durable_of m) (durable_of n) keep =
    record {
      is_set = stored-is_set m n keep before behind comes e;
      term = comes.term;
      vote = comes.vote;
      within = comes.within;
      front = comes.front;
      count = (let few = comes.count in omega (arith, length-drop keep n.log, few));
    } in
    let leads = changes_lead_there (durable_of m) (durable_of n) keep before behind may in
    record { changed = changed m n keep comes e; next = leads.0; leads = leads.1 }
stored-by false m n keep e before behind comes = unchanged m n keep comes e

pub stored-right : (m n : Member) (keep : ℕ) → IsValid (durable_of m) → IsValid (durable_of n) → Comes (durable_of m) (durable_of n) keep
    → IsStored (durable_of m) (stored_of m keep n) (durable_of n)
unfolding stored_of
stored-right m n keep before behind comes = stored-by (is_stored m keep n) m n keep refl before behind comes

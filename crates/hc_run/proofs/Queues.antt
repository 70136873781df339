-- What the bound counts is in a leader's queues, also when a member has reported.
use Rattle.std.proofs.Common.{◌≡◌, ◌≢◌, ℕ, suc, ◌-◌, ◌<◌, ◌==◌, Bool, true, false, max, List, [], ◌∷◌, length, drop, refl, sym, ap, ◌∙◌, arith, inl, inr}
use Rattle.std.specs.Prelude.{filter, if◌then◌else◌, nat_lt}
use Rattle.std.proofs.lemmas.Bool.{cases_lt, lt-ltb, le-ltb}
use Rattle.std.proofs.lemmas.List.{drop-drop, get_or-set_other, get_or-set_same, length-map}
use Rattle.std.proofs.Math.Seq.{drop-nil}
use Rattle.r2_base.specs.declared.entry.Entry.{Entry}
use Rattle.hc_log.specs.Log.{metas_of}
use Rattle.hc_replier.specs.Queues.{Row, empty_row, row_at, with_reported}
use Rattle.hc_member.specs.declared.setup.Setup.{Setup}
use Rattle.hc_member.specs.Member.{Lead, Member}
use Rattle.hc_member.specs.Reports.{with_report}
use Rattle.hc_member.specs.Setup.{IsSetup}
use Rattle.hc_member.specs.Sound.{IsLeading}
use Rattle.hc_rules.specs.Message.{Report}
use Rattle.hc_rules.specs.Protocol.{indexes_of, is_to, reported}
use Rattle.hc_rules.proofs.Puts.{same_or_not, self}
use Rattle.hc_run.specs.Held.{IsAmong, IsLed, owed}

-- one more item of the longer list
among-more : (y : ℕ) (xs ys : List ℕ) → IsAmong xs ys → IsAmong xs (y ∷ ys)
among-more y [] ys among = tt
among-more y (x ∷ xs) ys among = inr among

among-rest : (x : ℕ) (xs ys : List ℕ) → IsAmong (x ∷ xs) ys → IsAmong xs ys
among-rest x xs [] among = absurd among
among-rest x xs (y ∷ ys) (inl both) = among-more y xs ys both.1
among-rest x xs (y ∷ ys) (inr later) = among-more y xs ys (among-rest x xs ys later)

-- what passes a test stays among what passes it
among-filter : (p : ℕ → Bool) (xs ys : List ℕ) → IsAmong xs ys → IsAmong (filter p xs) (filter p ys)
among-filter p [] ys among = tt
among-filter p (x ∷ xs) [] among = absurd among
among-filter p (x ∷ xs) (y ∷ ys) (inl both) = by (p x) (p y) refl refl (among-filter p xs ys both.1)
  where
    by : (b c : Bool) → p x ≡ b → p y ≡ c → IsAmong (filter p xs) (filter p ys) → IsAmong (filter p (x ∷ xs)) (filter p (y ∷ ys))
    by true true e f rest = rw (e, f) (inl (both.0, rest))
    by false false e f rest = rw (e, f) rest
    by true false e f rest = absurd (let g = rw both.0 at e in cc)
    by false true e f rest = absurd (let g = rw both.0 at e in cc)
among-filter p (x ∷ xs) (y ∷ ys) (inr later) = by (p y) refl (among-filter p (x ∷ xs) ys later)
  where
    by : (c : Bool) → p y ≡ c → IsAmong (filter p (x ∷ xs)) (filter p ys) → IsAmong (filter p (x ∷ xs)) (filter p (y ∷ ys))
    by true f rest = rw f (among-more y (filter p (x ∷ xs)) (filter p ys) rest)
    by false f rest = rw f rest

-- the indexes above a number
indexes-above : (f : Entry → Bool) (a before : ℕ) (log : List Entry)
    → indexes_of f (max a before) (drop (a - before) log) ≡ filter (λ i. nat_lt a i) (indexes_of f before log)
indexes-above f a before [] = rw (drop-nil {A = Entry} (a - before)) refl
indexes-above f a before (e ∷ log) =
    elim (cases_lt before a) [
      | inl below ↦
          let one : a - before ≡ suc (a - suc before) = omega (arith, below) in
          let most : max a before ≡ max a (suc before) = omega (arith, below) in
          let above : nat_lt a (suc before) ≡ false = le-ltb a (suc before) (omega (arith, below)) in
          rw (one, most, indexes-above f a (suc before) log) (low (f e) above)
      | inr past ↦
          let none : a - before ≡ 0 = omega (arith, past) in
          let same : max a before ≡ before = omega (arith, past) in
          let above : nat_lt a (suc before) ≡ true = lt-ltb a (suc before) (omega (arith, past)) in
          let next_none : a - suc before ≡ 0 = omega (arith, past) in
          let next_same : max a (suc before) ≡ suc before = omega (arith, past) in
          let rest : indexes_of f (suc before) log ≡ filter (λ i. nat_lt a i) (indexes_of f (suc before) log) = rw (next_none, next_same) at (indexes-above f a (suc before) log) in
          rw (none, same) (high (f e) above rest)
    ]
  where
    low : (b : Bool) → nat_lt a (suc before) ≡ false
        → filter (λ i. nat_lt a i) (indexes_of f (suc before) log) ≡ filter (λ i. nat_lt a i) (if b then suc before ∷ indexes_of f (suc before) log else indexes_of f (suc before) log)
    low true above = rw above refl
    low false above = refl

    high : (b : Bool) → nat_lt a (suc before) ≡ true → indexes_of f (suc before) log ≡ filter (λ i. nat_lt a i) (indexes_of f (suc before) log)
        → (if b then suc before ∷ indexes_of f (suc before) log else indexes_of f (suc before) log)
        ≡ filter (λ i. nat_lt a i) (if b then suc before ∷ indexes_of f (suc before) log else indexes_of f (suc before) log)
    high true above rest = rw above (ap (λ (l : List ℕ). suc before ∷ l) rest)
    high false above rest = rest

-- what is left of it after a report
owed-reported : (reports : List Report) (v : ℕ) (m : Member) (p applied : ℕ)
    → owed (record { leader = v; term = m.term; member = p; index = applied } ∷ reports) v m p ≡ filter (λ i. nat_lt applied i) (owed reports v m p)
owed-reported reports v m p applied =
    let before = reported reports v m.term p in
    let f = is_to m.term p in
    let log = metas_of m.log in
    let moved : drop (max applied before) log ≡ drop (applied - before) (drop before log) =
    ap (λ (k : ℕ). drop k log) (omega arith) ∙ sym (drop-drop (applied - before) before log) in
    rw (self v, self m.term, self p, moved) (indexes-above f applied before (drop before log))

owed-others : (reports : List Report) (v : ℕ) (m : Member) (p q applied : ℕ) → (q == p) ≡ false
    → owed (record { leader = v; term = m.term; member = p; index = applied } ∷ reports) v m q ≡ owed reports v m q
owed-others reports v m p q applied e = rw (self v, self m.term, e) refl

-- a leader that was told a report takes it into its queues
pub led-report : (s : Setup) (reports : List Report) (v : ℕ) (m : Member) (lead : Lead) (p applied : ℕ) → IsSetup s
    → IsLeading s m.term (length m.log) m.lead → p < length s.members → lead.queues ≡ m.lead.queues → IsLed reports v m
    → IsLed (record { leader = v; term = m.term; member = p; index = applied } ∷ reports) v (record m { lead = with_report lead p applied })
led-report s reports v m lead p applied is leading inside same led e = (
  (led e).0,
  λ q.
      let rows : length m.lead.queues ≡ length s.members = sym (length-map m.lead.queues (λ (row : Row). row.bound)) ∙ ap length leading.bounds ∙ is.bound_each in
      let here : p < length m.lead.queues = omega (arith, inside, rows) in
      elim (same_or_not q p) [
        | inl is_it ↦ rw (is_it, owed-reported reports v m p applied, same, get_or-set_same m.lead.queues p (with_reported (row_at m.lead.queues p) applied) (empty_row 0) here)
            (among-filter (λ i. nat_lt applied i) (owed reports v m p) (row_at m.lead.queues p).given ((led e).1 p))
        | inr differs ↦ rw (owed-others reports v m p q applied differs, same, get_or-set_other m.lead.queues p q (with_reported (row_at m.lead.queues p) applied) (empty_row 0) (not_same differs))
            ((led e).1 q)
      ],
)
  where
    not_same : {c d : ℕ} → (c == d) ≡ false → c ≢ d
    not_same {c} {d} f g = absurd (let h = rw (g, self d) at f in cc)

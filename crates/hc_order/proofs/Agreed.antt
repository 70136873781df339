-- The Order's entries that stand in the log, and those that come after them.
use Rattle.std.proofs.Common.{◌≡◌, ◌<◌, ◌≤◌, ℕ, zero, suc, ◌+◌, ◌-◌, Bool, true, false, List, [], ◌∷◌, length, get_or, take, drop, refl, sym, ap, subst, ◌∙◌, inl, inr, arith, length-drop}
use Rattle.std.specs.Prelude.{◌==◌, if◌then◌else◌}
use Rattle.std.specs.List.{common_prefix_len}
use Rattle.std.proofs.lemmas.Bool.{cases_Bool, eqb-true}
use Rattle.std.proofs.lemmas.List.{get_or-take, get_or-drop, length-take-le}
use Rattle.std.proofs.lemmas.List.Elements.{All-drop}
use Rattle.std.proofs.lemmas.List.Sorted.{IsNonDecreasingBy-drop}
use Rattle.std.proofs.lemmas.List.Sums.{common_prefix_len-le}
use Rattle.r2_base.specs.declared.entry.Entry.{Entry}
use Rattle.hc_log.specs.declared.stored.Stored.{Stored}
use Rattle.hc_log.specs.Log.{blank_of, last_term, term_at, IsLog}
use Rattle.hc_log.proofs.Logs.{IsLog-limits}
use Rattle.hc_message.specs.Entry.{IsEntry}
use Rattle.hc_message.specs.Message.{AreOrdered}
use Rattle.hc_order.specs.Taking.{AreNext, after_end, agreeing, agrees}
use Rattle.hc_order.proofs.Grown.{are-next-none}

-- those that agree are in both
pub agreed-inside : (log : List Stored) (at : ℕ) (entries : List Entry) → at ≤ length log → (agreeing log at entries ≤ length entries) × (at + agreeing log at entries ≤ length log)
unfolding agreeing
agreed-inside log at entries behind =
    let both = common_prefix_len-le agrees (drop at log) entries in
    (both.1, omega (arith, both.0, length-drop at log))

-- and of one term
agreed-same : (xs : List Stored) (ys : List Entry) (j : ℕ) (c : Stored) (d : Entry) → j < common_prefix_len agrees xs ys → (get_or xs j c).entry.term ≡ (get_or ys j d).term
agreed-same [] ys j c d h = absurd (omega arith)
agreed-same (x ∷ xs) [] j c d h = absurd (omega arith)
agreed-same (x ∷ xs) (y ∷ ys) zero c d h =
    elim (cases_Bool (agrees x y)) [
      | inl t ↦ eqb-true x.entry.term y.term t
      | inr f ↦ (let none = rw f at h in absurd (omega (arith, none)))
    ]
agreed-same (x ∷ xs) (y ∷ ys) (suc j) c d h =
    elim (cases_Bool (agrees x y)) [
      | inl t ↦ (let more = rw t at h in agreed-same xs ys j c d (omega (arith, more)))
      | inr f ↦ (let none = rw f at h in absurd (omega (arith, none)))
    ]

-- the term at an index is that of the entry after so many others
term_at-more : (log : List Stored) (j m : ℕ) → m ≡ j + 1 → term_at log m ≡ (get_or log j (blank_of 0)).entry.term
term_at-more log j m e =
    let some : (m == 0) ≡ false = grind arith in
    let place : m - 1 ≡ j = omega arith in
    rw (some, place) refl

-- the term of the last of the first entries
last_term-take : (log : List Stored) (m : ℕ) → m ≤ length log → last_term (take m log) ≡ term_at log m
last_term-take log zero h = refl
last_term-take log (suc j) h =
    let long : length (take (suc j) log) ≡ suc j = length-take-le (suc j) log h in
    let read : get_or (take (suc j) log) j (blank_of 0) ≡ get_or log j (blank_of 0) = get_or-take (suc j) log j (blank_of 0) (omega arith) in
    term_at-more (take (suc j) log) j (length (take (suc j) log)) (omega (arith, long))
    ∙ ap (λ (s : Stored). s.entry.term) read
    ∙ sym (term_at-more log j (suc j) (omega arith))

-- the entry up to which both agree has at most the term of each later one
agreed-below : (log : List Stored) (at n : ℕ) (entries : List Entry) (prev term : ℕ) → n ≤ common_prefix_len agrees (drop at log) entries → AreOrdered at prev term entries → term_at log at ≡ prev
    → (k : ℕ) (d : Entry) → n + k < length entries → term_at log (at + n) ≤ (get_or entries (n + k) d).term
agreed-below log at zero entries prev term h ordered same k d inside =
    let low = ordered.low (zero + k) d inside in
    let here : term_at log (at + zero) ≡ prev = ap (term_at log) (omega arith) ∙ same in
    omega (arith, low, here)
agreed-below log at (suc j) entries prev term h ordered same k d inside =
    let rises = ordered.never_fall j (suc j + k) d (omega arith) inside in
    let equal = agreed-same (drop at log) entries j (blank_of 0) d (omega (arith, h)) in
    let read : get_or (drop at log) j (blank_of 0) ≡ get_or log (at + j) (blank_of 0) = get_or-drop at log j (blank_of 0) in
    let there : term_at log (at + suc j) ≡ (get_or log (at + j) (blank_of 0)).entry.term = term_at-more log (at + j) (at + suc j) (omega arith) in
    omega (arith, rises, equal, there, ap (λ (s : Stored). s.entry.term) read)

-- so the others may come after it, as far as their fields tell
pub agreed-next : (log : List Stored) (at : ℕ) (entries : List Entry) (prev term : ℕ) → at ≤ length log → AreOrdered at prev term entries → term_at log at ≡ prev
    → AreNext (take (at + agreeing log at entries) log) (drop (agreeing log at entries) entries)
unfolding agreeing
agreed-next log at entries prev term behind ordered same =
    let n = common_prefix_len agrees (drop at log) entries in
    let both = agreed-inside log at entries behind in
    let long : length (take (at + n) log) ≡ at + n = length-take-le (at + n) log both.1 in
    let last : last_term (take (at + n) log) ≡ term_at log (at + n) = last_term-take log (at + n) both.1 in
    record {
      each = All-drop IsEntry n entries ordered.each;
      latest = λ k d h.
          let inside : n + k < length entries = omega (arith, h, length-drop n entries) in
          let below = agreed-below log at n entries prev term (omega arith) ordered same k d inside in
          let read : get_or (drop n entries) k d ≡ get_or entries (n + k) d = get_or-drop n entries k d in
          omega (arith, below, last, ap (λ (e : Entry). e.term) read);
      never_fall = IsNonDecreasingBy-drop (λ e. e.term) n entries ordered.never_fall;
      room = omega (arith, long, length-drop n entries, both.0, ordered.room);
    }

-- what comes after the end may follow, as far as the fields tell
pub after-end-next : (log : List Stored) (keep reach : ℕ) (rest : List Entry) → IsLog log → AreNext (take reach log) rest → keep ≤ length log → AreNext (take keep log) (after_end keep reach rest)
after-end-next log keep reach rest is_log next inside = by-test (keep == reach) refl
  where
    by-test : (b : Bool) → (keep == reach) ≡ b → AreNext (take keep log) (if b then rest else [])
    by-test true same = subst (λ (n : ℕ). AreNext (take n log) rest) (sym (eqb-true keep reach same)) next
    by-test false other = are-next-none (take keep log) (let limits = IsLog-limits log is_log in omega (arith, length-take-le keep log inside, limits.entries))

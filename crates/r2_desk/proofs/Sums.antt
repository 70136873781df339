-- What the shares of all passes hold together, and what that says of the book.
use Rattle.std.proofs.Common.{◌≡◌, ◌≤◌, ◌<◌, ◌+◌, ℕ, List, [], ◌∷◌, ◌++◌, length, sym, subst, ap, ◌∙◌, arith, length-append}
use Rattle.std.specs.Prelude.{remove, slice_index_or, sum_by}
use Rattle.std.proofs.lemmas.List.{get_or_default}
use Rattle.std.proofs.lemmas.List.Sums.{sum_by-append, sum_by-remove}
use Rattle.r2_jbsq.specs.State.{slots_of}
use Rattle.r2_desk.specs.declared.totals.Totals.{Totals}
use Rattle.r2_desk.specs.Closing.{IsAt, Settles}
use Rattle.r2_desk.specs.Counts.{Amounts, AreAtMost, counts_made, counts_of, one_part, plus, sums_made, times, totals_of}
use Rattle.r2_desk.specs.States.{BookState, PassState}
use Rattle.r2_desk.specs.Trails.{HasLength, IsTrailOf}
use Rattle.r2_desk.proofs.Counts.{amounts-same}

-- three of them together
pub plus_plus : (a b c : Amounts) → plus (plus a b) c ≡ plus a (plus b c)
plus_plus a b c = amounts-same _ _ _ _ _ _ _ _ _ _ (omega arith) (omega arith) (omega arith) (omega arith) (omega arith)

-- nothing more
pub plus_none : (a : Amounts) → plus a (times 0) ≡ a
plus_none a = amounts-same _ a.turns _ a.slots _ a.accepted _ a.forwarded _ a.answered (omega arith) (omega arith) (omega arith) (omega arith) (omega arith)

-- a part of each more
pub times_more : (n : ℕ) → plus one_part (times n) ≡ times (n + 1)
times_more n = amounts-same _ _ _ _ _ _ _ _ _ _ (omega arith) (omega arith) (omega arith) (omega arith) (omega arith)

-- a pass more
one-more : (f : PassState → ℕ) (passes : List PassState) (p : PassState) → f p + sum_by f passes ≡ sum_by f (passes ++ p ∷ [])
one-more f passes p = omega (arith, sum_by-append f passes (p ∷ []))

pub sums_more : (passes : List PassState) (p : PassState) → plus (counts_made p) (sums_made passes) ≡ sums_made (passes ++ p ∷ [])
sums_more passes p =
    amounts-same _ _ _ _ _ _ _ _ _ _ (one-more (λ (q : PassState). q.made.turns) passes p) (one-more (λ (q : PassState). q.slots) passes p)
    (one-more (λ (q : PassState). q.made.accepted) passes p) (one-more (λ (q : PassState). q.made.forwarded) passes p)
    (one-more (λ (q : PassState). q.made.answered) passes p)

-- the pass that is taken out, and all others
one-out : (f : PassState → ℕ) (passes : List PassState) (place : ℕ) (p : PassState) → place < length passes
    → f (slice_index_or passes place p) + sum_by f (remove passes place) ≡ sum_by f passes
one-out f passes place p inside = omega (arith, sum_by-remove f passes place p inside)

pub sums_removed : (passes : List PassState) (place : ℕ) (p : PassState) → place < length passes
    → plus (counts_made (slice_index_or passes place p)) (sums_made (remove passes place)) ≡ sums_made passes
sums_removed passes place p inside =
    amounts-same _ _ _ _ _ _ _ _ _ _ (one-out (λ (q : PassState). q.made.turns) passes place p inside) (one-out (λ (q : PassState). q.slots) passes place p inside)
    (one-out (λ (q : PassState). q.made.accepted) passes place p inside) (one-out (λ (q : PassState). q.made.forwarded) passes place p inside)
    (one-out (λ (q : PassState). q.made.answered) passes place p inside)

-- what one pass more, taken from the end of those that are left, makes of the parts and of what is held
pub gathered_parts : (parts : Amounts) (passes : List PassState) (p : PassState)
    → plus (plus parts one_part) (times (length passes)) ≡ plus parts (times (length (passes ++ p ∷ [])))
gathered_parts parts passes p =
    plus_plus parts one_part (times (length passes)) ∙ ap (λ (a : Amounts). plus parts a) (times_more (length passes) ∙ ap times (sym (length-append passes (p ∷ []))))

pub gathered_held : (held : Amounts) (passes : List PassState) (p : PassState)
    → plus (plus held (counts_made p)) (sums_made passes) ≡ plus held (sums_made (passes ++ p ∷ []))
gathered_held held passes p = plus_plus held (counts_made p) (sums_made passes) ∙ ap (λ (a : Amounts). plus held a) (sums_more passes p)

-- as many passes as there are parts, since there are no more
pub all_parts : (made given : ℕ) (parts : Amounts) → made ≤ given → parts ≡ times given → AreAtMost parts (times made) → parts ≡ times made
all_parts made given parts least are most =
    let few : given ≤ made = subst (λ (a : Amounts). a.turns ≤ made) are most.turns in are ∙ ap times (omega (arith, few, least))

-- the pass at a place is the same whatever stands for none
pub at_place : (passes : List PassState) (place : ℕ) (p : PassState) → place < length passes → IsAt passes place (slice_index_or passes place p).number (slice_index_or passes place p).own
at_place passes place p inside =
    record {
      number = λ q. ap (λ (r : PassState). r.number) (get_or_default passes place p q inside);
      list = λ q. ap (λ (r : PassState). r.own) (get_or_default passes place p q inside);
    }

-- a book of which the shares of all passes hold all that it counted settles with them
pub settles : (most : ℕ) (b : BookState) (passes : List PassState) (totals : Totals) → counts_of b ≡ sums_made passes → totals ≡ totals_of b
    → totals.forwarded ≤ totals.answered + slots_of b.router.setup → IsTrailOf b.router b.turns most b.trail → Settles most passes totals b.trail
settles most b passes totals counted are bounded trail =
    let slots : slots_of b.router.setup ≡ sum_by (λ (p : PassState). p.slots) passes = ap (λ (a : Amounts). a.slots) counted in
    record {
      turns = ap (λ (t : Totals). t.turns) are ∙ ap (λ (a : Amounts). a.turns) counted;
      accepted = ap (λ (t : Totals). t.accepted) are ∙ ap (λ (a : Amounts). a.accepted) counted;
      forwarded = ap (λ (t : Totals). t.forwarded) are ∙ ap (λ (a : Amounts). a.forwarded) counted;
      answered = ap (λ (t : Totals). t.answered) are ∙ ap (λ (a : Amounts). a.answered) counted;
      bounded = subst (λ (n : ℕ). totals.forwarded ≤ totals.answered + n) slots bounded;
      setup = b.router.setup;
      slots = slots;
      right = trail.right;
      long = subst (λ (n : ℕ). HasLength b.trail n most) (sym (ap (λ (t : Totals). t.turns) are)) trail.long;
    }

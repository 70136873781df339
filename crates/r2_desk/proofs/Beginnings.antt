-- The first state of a desk: a trail with nothing in it, and passes that have made no turn.
use Rattle.std.proofs.Common.{◌≡◌, ◌+◌, ℕ, zero, suc, [], ◌∷◌, ◌++◌, refl, sym, subst, ap, ◌∙◌, arith}
use native.Mathlib.Numerals.{unary_clauses}
use Rattle.std.specs.Prelude.{Bool, if◌then◌else◌, sum_by}
use Rattle.std.proofs.Math.Dec.{eqb-suc-zero}
use Rattle.std.proofs.lemmas.List.Sums.{sum_by-append}
use Rattle.r2_jbsq.specs.Answer.{history_after}
use Rattle.r2_jbsq.specs.State.{RouterState, StandsFor, begin, slots_of}
use Rattle.r2_jbsq.proofs.Runs.{begin-stands}
use Rattle.r2_desk.specs.Counts.{Amounts, amounts}
use Rattle.r2_desk.specs.Made.{FreshSlotsAddUp, fresh_pass, fresh_passes}
use Rattle.r2_desk.specs.States.{PassState}
use Rattle.r2_desk.specs.Trails.{IsBook, IsTrailOf}

-- a new router stands for the history of no steps
pub new_trail : (router : RouterState) (most : ℕ) → router ≡ begin router.setup → IsTrailOf router 0 most []
unfolding history_after
new_trail router most new =
    record {
      right = tt;
      long = record { all = λ h. refl; full = λ h. omega (arith, h) };
      stands = λ h. subst (λ (r : RouterState). StandsFor r []) (sym new) (begin-stands router.setup);
    }

pub new_book : (router : RouterState) (most : ℕ) (books : Amounts) → router ≡ begin router.setup → books ≡ amounts 0 (slots_of router.setup) 0 0 0
    → IsBook (record { router = router; turns = 0; trail = [] }) most books
new_book router most books new counted =
    record {
      counted = counted ∙ sym (ap (λ (r : RouterState). amounts 0 (slots_of router.setup) r.accepted r.forwarded r.answered) new);
      turned = ap (λ (r : RouterState). r.turns) new;
      trail = new_trail router most new;
    }

-- one pass more
pub fresh_more : (slots n : ℕ) → fresh_passes slots (n + 1) ≡ fresh_passes slots n ++ fresh_pass slots n ∷ []
fresh_more slots n = simp unary_clauses refl

-- the first pass has all slots, and the others none
no-slots : (slots n : ℕ) → (fresh_pass slots (suc n)).slots ≡ 0
no-slots slots n = ap (λ (b : Bool). if b then slots else 0) (eqb-suc-zero n)

fresh-slots : (slots n : ℕ) → sum_by (λ (p : PassState). p.slots) (fresh_passes slots (suc n)) ≡ slots
fresh-slots slots zero = omega arith
fresh-slots slots (suc n) =
    let rest = fresh-slots slots n in
    let more = sum_by-append (λ (p : PassState). p.slots) (fresh_passes slots (suc n)) (fresh_pass slots (suc n) ∷ []) in
    omega (arith, rest, more, no-slots slots n)

pub slots-add-up : FreshSlotsAddUp
slots-add-up slots zero some = absurd (omega (arith, some))
slots-add-up slots (suc n) some = fresh-slots slots n

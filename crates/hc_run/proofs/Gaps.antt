-- What a member applied has no gaps: it applied something at each index up to any at which it did.
use Rattle.std.proofs.Common.{ℕ, suc, List, [], ◌∷◌, sym, ap, subst, arith, inl, inr}
use Rattle.std.proofs.lemmas.Bool.{cases_eq}
use Rattle.hc_rules.specs.Kept.{HasApplied, Kept}
use Rattle.hc_rules.specs.Log.{In, entry_at}
use Rattle.hc_rules.specs.Message.{Passed}
use Rattle.hc_rules.specs.Protocol.{ProtocolState}
use Rattle.hc_rules.specs.Rules.{Rule, Apply, after}
use Rattle.hc_rules.specs.Runs.{AllAllowed, after_rules}
use Rattle.hc_rules.proofs.Steps.{steps_keep}

abbrev pub HasNoGaps : ProtocolState → Type 0
HasNoGaps w = (x : Passed) → In x w.passed → HasApplied w.passed x.member x.index

-- once more was applied
applied-on : (passed : List Passed) (y : Passed) (v count : ℕ) → HasApplied passed v count → HasApplied (y ∷ passed) v count
applied-on passed y v count has k less = let one = has k less in record { entry = one.entry; done = inr one.done }

-- a member applies the next entry
applied-next : (w : ProtocolState) (v : ℕ) → Kept w → HasApplied (after w (Apply v)).passed v (suc (w.applied v))
applied-next w v kept k less =
    elim (cases_eq k (w.applied v)) [
      | inl same ↦
          record {
            entry = entry_at (w.log v) (suc (w.applied v));
            done = inl (ap (λ (n : ℕ). record { member = v; index = suc n; entry = entry_at (w.log v) (suc (w.applied v)) }) same);
          }
      | inr other ↦
          record {
            entry = entry_at (w.log v) (suc k);
            done = inr (kept.commitments.applied_was_passed v k (omega (arith, less, other)));
          }
    ]

step-gaps : (w : ProtocolState) (r : Rule) → Kept w → HasNoGaps w → HasNoGaps (after w r)
step-gaps w (Apply v) kept none x (inl same) =
    subst (λ (y : Passed). HasApplied (after w (Apply v)).passed y.member y.index) (sym same) (applied-next w v kept)
step-gaps w (Apply v) kept none x (inr later) = applied-on w.passed _ x.member x.index (none x later)
step-gaps w r kept none x there = none x there

-- no rules leave one
pub rules-gaps : (w : ProtocolState) (rules : List Rule) → Kept w → HasNoGaps w → AllAllowed w rules → HasNoGaps (after_rules w rules)
rules-gaps w [] kept none allowed = none
rules-gaps w (r ∷ more) kept none allowed = rules-gaps (after w r) more (steps_keep w r kept allowed.0) (step-gaps w r kept none) allowed.1

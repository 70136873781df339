-- Each reply is at an index at which something was applied.
use Rattle.std.proofs.Common.{◌≡◌, ℕ, zero, suc, ◌<◌, ◌≤◌, List, [], ◌∷◌, refl, sym, ap, arith, inl, inr}
use Rattle.hc_rules.specs.Conditions.{Allowed}
use Rattle.hc_rules.specs.Kept.{Kept}
use Rattle.hc_rules.specs.Log.{In, entry_at}
use Rattle.hc_rules.specs.Message.{Passed, Reply}
use Rattle.hc_rules.specs.Protocol.{ProtocolState}
use Rattle.hc_rules.specs.Replies.{Answered}
use Rattle.hc_rules.specs.Rules.{Rule, Answer, AnswerAgain, Apply, after}
use Rattle.hc_rules.specs.Runs.{AllAllowed, after_rules}
use Rattle.hc_rules.proofs.RuleLists.{steps_answer}
use Rattle.hc_rules.proofs.Steps.{steps_keep}

-- something was applied at an index
pub record IsPassed (passed : List Passed) (index : ℕ) : Type 0 where
  pub x : Passed
  pub there : In x passed
  pub at : x.index ≡ index

abbrev pub RepliesWerePassed : ProtocolState → Type 0
RepliesWerePassed w = (r : Reply) → In r w.replied → IsPassed w.passed r.index

-- what a member has applied
applied-passed : (w : ProtocolState) (v index : ℕ) → Kept w → 0 < index → index ≤ w.applied v → IsPassed w.passed index
applied-passed w v zero kept set low = absurd (omega (arith, set))
applied-passed w v (suc k) kept set low =
    record {
      x = record { member = v; index = suc k; entry = entry_at (w.log v) (suc k) };
      there = kept.commitments.applied_was_passed v k (omega (arith, low));
      at = refl;
    }

step-passed : (w : ProtocolState) (r : Rule) → Kept w → Answered w → RepliesWerePassed w → Allowed w r → RepliesWerePassed (after w r)
step-passed w (Answer v index payload) kept answered were may y (inl same) =
    let now = steps_answer w (Answer v index payload) kept answered may in
    let right = now.replies_are_right y (inl same) in
    let here = ap (λ (z : Reply). z.index) same in
    let set = right.first in
    let low = may.applied in
    applied-passed w v y.index kept set (omega (arith, here, low))
step-passed w (Answer v index payload) kept answered were may y (inr later) = were y later
step-passed w (AnswerAgain v r e) kept answered were may y (inl same) =
    record { x = record { member = v; index = r.index; entry = e }; there = may.passed; at = sym (ap (λ (z : Reply). z.index) same) }
step-passed w (AnswerAgain v r e) kept answered were may y (inr later) = were y later
step-passed w (Apply v) kept answered were may y there =
    let one = were y there in record { x = one.x; there = inr one.there; at = one.at }
step-passed w r kept answered were may y there = were y there

pub rules-passed : (w : ProtocolState) (rules : List Rule) → Kept w → Answered w → RepliesWerePassed w → AllAllowed w rules → RepliesWerePassed (after_rules w rules)
rules-passed w [] kept answered were allowed = were
rules-passed w (r ∷ more) kept answered were allowed =
    rules-passed (after w r) more (steps_keep w r kept allowed.0) (steps_answer w r kept answered allowed.0) (step-passed w r kept answered were allowed.0) allowed.1

use Rattle.std.proofs.Common.{◌≡◌, ℕ, List, [], ◌∷◌, ◌+◌, ◌-◌, ◌<◌, length, take, drop, sym, ap, ◌∙◌, refl, arith}
use Rattle.std.proofs.lemmas.Grind.{common_steps}
use Rattle.std.proofs.lemmas.List.{drop-drop}
use Rattle.r2_link.specs.Moments.{moment_of, moments_after}
use Rattle.r2_link.proofs.mem_clock.MemClockClock.now.Goals as goal

-- where a second moment is left, the first one goes
moments_after-tail : (xs : List ℕ) → 1 < length xs → moments_after xs ≡ drop 1 xs
moments_after-tail [] more = absurd (omega arith)
moments_after-tail (n ∷ []) more = absurd (omega arith)
moments_after-tail (n ∷ m ∷ rest) more = refl

stepped : (moments left seen : List ℕ) (at n : ℕ) → seen ≡ drop at moments → left ≡ drop at moments → n ≡ moment_of seen → 1 < length seen
    → (n ≡ moment_of left) × (drop (at + 1) moments ≡ moments_after left)
stepped moments left seen at n is view gave more = (
  gave ∙ ap moment_of (is ∙ sym view),
  sym (ap moments_after (view ∙ sym is) ∙ moments_after-tail seen more ∙ ap (drop 1) is ∙ drop-drop 1 at moments),
)

pub returns-then-left-gt1-clause-moment : goal.returns-then-left-gt1-clause-moment
returns-then-left-gt1-clause-moment c =
    stepped c.self.inside.moments c.args.self.now.left (take (length c.as_slice-2.result.now - c.self.inside.at) (drop c.self.inside.at c.as_slice-2.result.now)) c.self.inside.at _ (grind (arith, common_steps)) (sym (ap (λ s. s.left) c.self.view_is)) c.next_moment-moment.ensures (grind (arith, common_steps))

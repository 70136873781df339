-- Batch by batch all that is committed is applied, and printed.
use Rattle.std.proofs.Common.{◌≡◌, ℕ, true, false, [], ◌++◌, ap, refl, zero, suc}
use Rattle.std.specs.Prelude.{◌==◌, if◌then◌else◌}
use Rattle.hc_member.specs.declared.setup.Setup.{Setup}
use Rattle.hc_member.specs.Finish.{finished}
use Rattle.hc_member.specs.Member.{Member}
use Rattle.cmd_replay.specs.Script.{batch_text, closing_text}

-- where all is applied, nothing more is printed
pub closing_text-end : (s : Setup) (more : ℕ) (m : Member) → (m.applied == m.commit) ≡ true → closing_text s more m ≡ []
unfolding closing_text
closing_text-end s zero m all = refl
closing_text-end s (suc more) m all = ap (λ b. if b then [] else batch_text s m ++ closing_text s more (finished s m).member) all

-- where something waits, a batch is printed, and then the rest
pub closing_text-more : (s : Setup) (more : ℕ) (m : Member) → (m.applied == m.commit) ≡ false
    → closing_text s (suc more) m ≡ batch_text s m ++ closing_text s more (finished s m).member
unfolding closing_text
closing_text-more s more m some = ap (λ b. if b then [] else batch_text s m ++ closing_text s more (finished s m).member) some

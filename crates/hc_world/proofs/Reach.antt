-- How far the first half of a turn applies.
use Rattle.std.proofs.Common.{◌≡◌, ℕ, zero, suc, ◌+◌, ◌-◌, ◌<◌, ◌≤◌, ◌^◌, min, max, Bool, true, false, List, [], ◌∷◌, length, drop, refl, ap, ◌∙◌, arith, length-drop}
use Rattle.std.specs.Prelude.{◌==◌, if◌then◌else◌, nat_lt}
use Rattle.std.proofs.lemmas.Bool.Decides.{nat_tests}
use Rattle.std.proofs.lemmas.List.{length-take}
use Rattle.hc_log.specs.declared.stored.Stored.{Stored}
use Rattle.hc_service.specs.Batch.{entries_between}
use Rattle.hc_member.specs.declared.setup.Setup.{Setup}
use Rattle.hc_member.specs.declared.role.Role.{Role}
use Rattle.hc_member.specs.declared.role.Role.TheVariants.{Follower, Candidate, Leader}
use Rattle.hc_member.specs.Finish.{applied, batch_of, batched, due, finished, reported}
use Rattle.hc_member.specs.Member.{Member}
use Rattle.hc_member.specs.Sound.{IsSound}
use Rattle.hc_run.specs.State.{Passed}
use Rattle.hc_run.specs.Steps.{passes}
use Rattle.hc_world.specs.Seen.{greatest_passed}
use Rattle.hc_world.specs.Steps.{reach}
use Rattle.hc_world.proofs.Numbers.{passed-both}

-- what is due is committed, and after what was applied
record IsDue (m d : Member) : Type 0 where
  applied : d.applied ≡ m.applied
  log : d.log ≡ m.log
  within : d.applied + d.pending ≤ length d.log

due-by : (s : Setup) (b : Bool) (m : Member) → IsSound s m → IsDue m (if b then batched m else m)
unfolding batched
due-by s true m sound =
    let committed = sound.committed in
    let batch = sound.batch in
    record { applied = refl; log = refl; within = omega (arith, committed, batch) }
due-by s false m sound =
    let committed = sound.committed in
    let batch = sound.batch in
    record { applied = refl; log = refl; within = omega (arith, committed, batch) }

due-is : (s : Setup) (m : Member) → IsSound s m → IsDue m (due m)
unfolding due
due-is s m sound = due-by s (m.pending == 0) m sound

-- the entries that are due
batch-length : (log : List Stored) (from count : ℕ) → from + count ≤ length log → length (entries_between log (from + 1) (from + count)) ≡ count
batch-length log from count within =
    let a : from + count + 1 - (from + 1) ≡ count = omega arith in
    let b : from + 1 - 1 ≡ from = omega arith in
    let c = length-take count (drop from log) in
    let d = length-drop from log in
    rw (a, b) (omega (arith, c, d, within))

-- the last of so many indexes from one on, and 0 where there is none
abbrev cond_run : ℕ → ℕ → ℕ
cond_run zero index = 0
cond_run (suc more) index = index + more

-- the greatest index of entries one after another
run-greatest : (v index : ℕ) (batch : List Stored) → greatest_passed (passes v index batch []) ≡ cond_run (length batch) index
run-greatest v index [] = refl
run-greatest v index (x ∷ xs) =
    let p : Passed = record { member = v; index = index; stored = x } in
    by index (length xs) _ _ (passed-both v (index + 1) xs (p ∷ [])) (run-greatest v (index + 1) xs)
  where
    by : (index n all more : ℕ) → all ≡ max (max index 0) more → more ≡ cond_run n (index + 1) → all ≡ index + n
    by index zero all more a b = omega (arith, a, b)
    by index (suc n) all more a b = omega (arith, a, b)

-- the member applied what was due
finished-applied : (s : Setup) (m : Member) → IsSound s m → (finished s m).member.applied ≡ m.applied + (due m).pending
unfolding finished applied
finished-applied s m sound =
    let same = due-is s m sound in
    let is = same.applied in
    by m.role ∙ ap (λ (n : ℕ). n + (due m).pending) is
  where
    by : (r : Role) → (reported s (applied s (due m)) r).applied ≡ (due m).applied + (due m).pending
    by Leader = refl
    by Follower = refl
    by Candidate = refl

pub reach-is : (s : Setup) (m : Member) (before after : ℕ) → IsSound s m → before ≡ m.applied → after ≡ (finished s m).member.applied → after < 2 ^ 64
    → (if nat_lt before after then after else 0) ≡ reach s m
unfolding reach
reach-is s m before after sound was is fits =
    let same = due-is s m sound in
    let here = same.applied in
    let long : length (batch_of (due m)) ≡ (due m).pending = batch-length (due m).log (due m).applied (due m).pending same.within in
    let run = run-greatest s.me (m.applied + 1) (batch_of (due m)) in
    by m.applied (due m).pending before after _ (2 ^ 64 - 1) was (is ∙ finished-applied s m sound) (omega (arith, fits)) (run ∙ ap (λ (n : ℕ). cond_run n (m.applied + 1)) long)
  where
    by : (from count before after all most : ℕ) → before ≡ from → after ≡ from + count → after ≤ most → all ≡ cond_run count (from + 1)
        → (if nat_lt before after then after else 0) ≡ min all most
    by from zero before after all most was is fits same = grind (arith, nat_tests)
    by from (suc count) before after all most was is fits same = grind (arith, nat_tests)

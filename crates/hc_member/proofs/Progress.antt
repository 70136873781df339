-- The first half of a turn changes nothing that is kept over a crash, and brings a member nearer to what is committed.
use Rattle.std.proofs.Common.{◌≡◌, ◌+◌, ◌<◌, true, false, refl, ◌∙◌, arith}
use Rattle.std.specs.Prelude.{Bool, ◌==◌, if◌then◌else◌}
use Rattle.std.proofs.lemmas.Bool.Decides.{nat_tests}
use Rattle.hc_member.specs.declared.setup.Setup.{Setup}
use Rattle.hc_member.specs.declared.role.Role.{Role}
use Rattle.hc_member.specs.declared.role.Role.TheVariants.{Follower, Candidate, Leader}
use Rattle.hc_member.specs.Finish.{applied, batched, due, finished, reported}
use Rattle.hc_member.specs.Member.{Member, durable_of}

-- what setting a batch aside leaves
record SameEnds (m n : Member) : Type 0 where
  durable : durable_of n ≡ durable_of m
  applied : n.applied ≡ m.applied
  commit : n.commit ≡ m.commit

due-by : (b : Bool) (m : Member) → SameEnds m (if b then batched m else m)
unfolding batched
due-by true m = record { durable = refl; applied = refl; commit = refl }
due-by false m = record { durable = refl; applied = refl; commit = refl }

due-same : (m : Member) → SameEnds m (due m)
unfolding due
due-same m = due-by (m.pending == 0) m

-- where something is committed that isn't applied, there is a batch
some-by : (b : Bool) (m : Member) → (m.pending == 0) ≡ b → m.applied < m.commit → 0 < (if b then batched m else m).pending
unfolding batched
some-by true m e waits = omega (arith, waits)
some-by false m e waits = grind (arith, nat_tests)

due-some : (m : Member) → m.applied < m.commit → 0 < (due m).pending
unfolding due
due-some m waits = some-by (m.pending == 0) m refl waits

-- and what applying it leaves
applied-is : (s : Setup) (m : Member) → (durable_of (applied s m) ≡ durable_of m) × ((applied s m).applied ≡ m.applied + m.pending) × ((applied s m).commit ≡ m.commit)
unfolding applied
applied-is s m = (refl, refl, refl)

reported-same : (s : Setup) (m : Member) (role : Role) → SameEnds m (reported s m role)
reported-same s m Leader = record { durable = refl; applied = refl; commit = refl }
reported-same s m Follower = record { durable = refl; applied = refl; commit = refl }
reported-same s m Candidate = record { durable = refl; applied = refl; commit = refl }

-- a batch changes nothing that is kept over a crash
pub finished-durable : (s : Setup) (m : Member) → durable_of (finished s m).member ≡ durable_of m
unfolding finished
finished-durable s m =
    let same = due-same m in
    let last = reported-same s (applied s (due m)) m.role in
    last.durable ∙ (applied-is s (due m)).0 ∙ same.durable

-- and brings a member nearer to what is committed
pub record Nearer (m n : Member) : Type 0 where
  pub commit : n.commit ≡ m.commit
  pub applied : m.applied < n.applied

pub finished-nearer : (s : Setup) (m : Member) → m.applied < m.commit → Nearer m (finished s m).member
unfolding finished
finished-nearer s m waits =
    let same = due-same m in
    let some = due-some m waits in
    let did = applied-is s (due m) in
    let last = reported-same s (applied s (due m)) m.role in
    let more = last.applied ∙ did.1 in
    let start = same.applied in
    record { commit = last.commit ∙ did.2 ∙ same.commit; applied = omega (arith, more, start, some) }

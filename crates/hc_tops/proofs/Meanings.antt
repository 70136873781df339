-- What holds of the commands that words mean, and of their ends.
use Rattle.std.proofs.Common.{◌≡◌, ◌≤◌, inl, inr, ℕ, List, Option, length, arith, refl, subst, sym}
use Rattle.std.proofs.Math.Nat.{eq-or-lt_of_le}
use Rattle.r2_base.specs.declared.addr.Addr.{Addr}
use Rattle.r2_link.specs.Faults.{Faults, NoneFalls}
use Rattle.r2_link.proofs.Faults.{then-Rose}
use Rattle.hc_text.specs.declared.meant.Meant.{Meant}
use Rattle.hc_text.specs.declared.meant.Meant.TheVariants.{Replica, Router, Aggregator, Server, Client, Replay, Simulate}
use Rattle.hc_text.specs.Words.{Means, SaysGroup}
use Rattle.hc_text.proofs.SameTexts.{bounds_valid}
use Rattle.hc_disk.specs.Disk.{Moments}
use Rattle.cmd_status.specs.Causes.{IsCaused}
use Rattle.cmd_status.specs.declared.status.Status.{Status}
use Rattle.cmd_status.specs.declared.status.Status.TheVariants.{BadWords}
use Rattle.cmd_loop.specs.declared.pace.Pace.{Pace}
use Rattle.cmd_loop.specs.Ends.{Ends}
use Rattle.cmd_replica.specs.Command.{RunsReplica}
use Rattle.hc_member.specs.declared.setup.Setup.{Setup}
use Rattle.hc_member.specs.Setup.{IsSetup}
use Rattle.hc_tops.specs.Commands.{Does, IsCalm, Outside, Ran, Uses, row}

-- what is said of a member's group is a group that there may be
group_within : (members : List Addr) (me : ℕ) (aggregator : Option Addr) (bounds : List ℕ) (election : ℕ) (rows : _) → SaysGroup members me aggregator bounds election rows
    → IsSetup (record { members = members; me = me; aggregator = aggregator; bounds = bounds; election = election })
group_within members me aggregator bounds election rows says =
    let valid = bounds_valid (length members) bounds _ says.group.holds.some says.group.holds.few says.bounded.holds in
    record {
      few = says.group.holds.few;
      own = says.own.holds.is_member;
      distinct = says.group.holds.distinct;
      apart = says.apart;
      bounds = valid.0;
      bound_each = valid.1;
      election_low = says.elects.holds.from_least;
      election_high = says.elects.holds.to_most;
    }

-- the numbers of a meaning are within their limits
pub means_within : (words : List (List ℕ)) (m : Meant) → Means words m → (row m).is_within
means_within words (Replica members me journal aggregator bounds election tick_ms turns) means = (
  group_within members me aggregator bounds election _ means.hold.member,
  means.hold.ticks.holds.from_least,
  omega (arith, means.hold.ends.holds.to_most),
)
means_within words (Router listen servers n workers tick_ms turns) means = (
  means.hold.targets.holds.some,
  means.hold.targets.holds.few,
  means.hold.bounded.holds.from_least,
  means.hold.bounded.holds.to_most,
  means.hold.works.holds.from_least,
  means.hold.works.holds.to_most,
  means.hold.ticks.holds.from_least,
  omega (arith, means.hold.ends.holds.to_most),
)
means_within words (Aggregator listen members turns) means = (
  means.hold.group.holds.some,
  means.hold.group.holds.few,
  means.hold.group.holds.distinct,
  means.hold.apart,
  omega (arith, means.hold.ends.holds.to_most),
)
means_within words (Server listen router tick_ms turns) means =
    (means.hold.ticks.holds.from_least, omega (arith, means.hold.ends.holds.to_most))
means_within words (Client listen to policy wait tries tick_ms turns) means =
    (means.hold.targets.holds.some, means.hold.targets.holds.few, means.hold.waits.holds.from_least, means.hold.tried.holds.from_least, means.hold.ticks.holds.from_least)
means_within words (Replay members me aggregator bounds election) means = group_within members me aggregator bounds election _ means.hold
means_within words (Simulate seed members requests loss repeat crash bounds aggregator) means =
    let valid = bounds_valid members bounds _ means.hold.group.holds.from_least means.hold.group.holds.to_most means.hold.bounded.holds in
    record {
      some = means.hold.group.holds.from_least;
      few = means.hold.group.holds.to_most;
      requests = means.hold.asked.holds.to_most;
      loss = means.hold.loses.holds.to_most;
      repeat = means.hold.repeats.holds.to_most;
      crash = means.hold.crashes.holds.to_most;
      bounds = valid.0;
      each = valid.1;
    }

-- a replica that ran doesn't refuse its words
pub takes-words : {name : List ℕ} {s : Setup} {pace : Pace} {disk after : Option Moments} {old new : Ends} {status : Status} → RunsReplica name s pace disk after old new status
    → status ≡ BadWords → ⊥
takes-words {name} {s} {pace} {disk} {after} {old} {new} ran is =
    elim (subst (λ (x : Status). RunsReplica name s pace disk after old new x) is ran) [
      | inl unrecovered ↦ unrecovered.0
      | inr served ↦ elim served.is.serves [ inl unbound ↦ unbound.0 | inr bound ↦ bound.2.ended ]
    ]

-- one or more are one, or two or more
some_or_more : {A : Type 0} (n : ℕ) → 1 ≤ n → (n ≡ 1 → A) → (2 ≤ n → A) → A
some_or_more n some one more = elim (eq-or-lt_of_le some) [ inl is ↦ one (sym is) | inr above ↦ more (omega (arith, above)) ]

-- no command that ran refuses its words
pub runs-known : (m : Meant) (a b : Outside) → (row m).is_within → (row m).runs a b BadWords → ⊥
runs-known (Replica members me journal aggregator bounds election tick_ms turns) a b within ran = takes-words ran refl
runs-known (Router listen servers n workers tick_ms turns) a b within ran = some_or_more workers within.4 ran.alone ran.shared
runs-known (Aggregator listen members turns) a b within ran = ran.1
runs-known (Server listen router tick_ms turns) a b within ran = ran.ended
runs-known (Client listen to policy wait tries tick_ms turns) a b within ran = elim ran.lines.ended [ inl between ↦ between.1 | inr within ↦ within.stops ]
runs-known (Replay members me aggregator bounds election) a b within ran = ran.did.ends
runs-known (Simulate seed members requests loss repeat crash bounds aggregator) a b within ran = ran.printed

-- a run without a fault has none after its link was bound
pub calm-after : (uses : Uses) (a b c : Faults) → NoneFalls a b → IsCalm uses a c → IsCalm uses b c
calm-after uses a b c steady calm = record {
  source = λ is rose. calm.source is (then-Rose a.source b.source c.source steady.source rose);
  sink = λ is rose. calm.sink is (then-Rose a.sink b.sink c.sink steady.sink rose);
  link = λ is rose. calm.link is (then-Rose a.link b.link c.link steady.link rose);
  clock = λ is rose. calm.clock is (then-Rose a.clock b.clock c.clock steady.clock rose);
  disk = λ is rose. calm.disk is (then-Rose a.disk b.disk c.disk steady.disk rose);
}

-- a replica runs over the journal that it is told by a name that is the same
pub runs-named : (name name' : List ℕ) {s : Setup} {pace : Pace} {disk after : Option Moments} {old new : Ends} {status : Status} → name ≡ name'
    → RunsReplica name s pace disk after old new status → RunsReplica name' s pace disk after old new status
runs-named name name' {s} {pace} {disk} {after} {old} {new} {status} same ran =
    subst (λ (n : List ℕ). RunsReplica n s pace disk after old new status) same ran

-- the command ran that alone is meant
pub ran-meant : (M : Meant → Type 0) (m : Meant) (old new : Outside) (before after : Faults) (status : Status) → M m → ((x : Meant) → M x → m ≡ x)
    → Does (row m) old new status → (IsCalm (row m).uses before after → (row m).ends_well old.ends.source status) → (status ≡ BadWords → ⊥)
    → IsCaused before after status → NoneFalls before after → Ran M old new before after status
ran-meant M m old new before after status means only did well known caused steady = record {
  refused = λ is x meant. known is;
  only_refused = λ none. absurd (none m means);
  did = λ x meant. subst (λ (y : Meant). Does (row y) old new status) (only x meant) did;
  well = λ x meant. subst (λ (y : Meant). IsCalm (row y).uses before after → (row y).ends_well old.ends.source status) (only x meant) well;
  caused = caused;
  steady = steady;
}

-- What holds of every run.
use Rattle.std.specs.Prelude.{◌≡◌, ℕ, ◌<◌, List, ◌++◌, length, IfSome, All}
use Rattle.hc_log.specs.Durable.{IsHistory, replay}
use Rattle.hc_member.specs.Member.{durable_of}
use Rattle.hc_member.specs.Setup.{IsSetup}
use Rattle.hc_run.specs.Group.{Group, IsGroup, setup_of}
use Rattle.hc_run.specs.State.{Replica}
use Rattle.hc_run.specs.Events.{GroupEvent}
use Rattle.hc_run.specs.Runs.{ArePossible, IsRun, run}

-- each member's setup is one that there may be
abbrev pub GroupsHaveSetups : Type 0
GroupsHaveSetups = (g : Group) (v : ℕ) → IsGroup g → v < length g.members → IsSetup (setup_of g v)

-- a run goes on by events that are possible where it led
abbrev pub RunsGoOn : Type 0
RunsGoOn =
    (g : Group) (events more : List GroupEvent) → IsRun g events → ArePossible g (run g events) more → IsRun g (events ++ more)

-- a journal is a history, and while its member is up the member's durable state is the journal's replay
pub record KeepsJournal (r : Replica) : Type 0 where
  pub history : IsHistory r.journal
  pub durable : IfSome r.member (λ m. durable_of m ≡ replay r.journal)

-- so it is with each member of a group that runs
abbrev pub JournalsAreKept : Type 0
JournalsAreKept = (g : Group) (events : List GroupEvent) → IsGroup g → IsRun g events → All KeepsJournal (run g events).replicas

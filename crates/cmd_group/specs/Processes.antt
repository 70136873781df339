-- The processes of a member that keeps its journal in a file, each begun on the disk that the one before left: they are lives.
use Rattle.std.specs.Prelude.{◌≡◌, ◌⊎◌, ℕ, ◌<◌, length, List, [], ◌∷◌, Option, Some, None, IfSome}
use Rattle.std.proofs.Common.{inl, inr}
use Rattle.r2_base.specs.declared.addr.Addr.{Addr}
use Rattle.r2_base.specs.declared.event.Event.{Event}
use Rattle.r2_link.specs.declared.lane.Item.{Item}
use Rattle.r2_link.specs.Links.{LinkTold}
use Rattle.hc_disk.specs.Disk.{File, Held, MayLeave, Moments, content}
use Rattle.hc_log.specs.declared.record.Record.{Record}
use Rattle.hc_log.specs.Durable.{replay}
use Rattle.hc_member.specs.declared.setup.Setup.{Setup}
use Rattle.hc_file_journal.specs.File.{IsJournal}
use Rattle.hc_file_journal.specs.FileLaws.{IsSince}
use Rattle.hc_run.specs.Group.{Group, IsGroup, setup_of}
use Rattle.hc_run.specs.State.{stopped}
use Rattle.cmd_status.specs.declared.status.Status.{Status}
use Rattle.cmd_status.specs.declared.status.Status.TheVariants.{JournalDamaged}
use Rattle.cmd_loop.specs.declared.pace.Pace.{Pace}
use Rattle.cmd_loop.specs.Ends.{Ends}
use Rattle.cmd_loop.specs.Events.{events}
use Rattle.cmd_replica.specs.Command.{RunsReplica, ServesRecovered}
use Rattle.cmd_group.specs.Lives.{AreLives, IsEnd, Life, place_of, acts_of_lives, place_of_lives, stored_in}
use Rattle.cmd_group.specs.LoopLives.{HasLife}
use Rattle.cmd_group.specs.Loops.{AllCome, ServeAsOne}
use Rattle.cmd_group.specs.Merge.{begun}
use Rattle.cmd_group.specs.Steps.{Step, acts_at, of_aggregators}
use Rattle.cmd_group.specs.AggregatorLoops.{AggregatorLife, AreAggregatorLives, steps_of_lives}
use Rattle.cmd_group.specs.Crashes.{IsCutAt, IsLeftBy, LosesItsOwn, MayBeCut, StoresAfter}

-- Disks --

-- the one thing that is asked of a disk between two processes: it loses only what no sync made stable. What the next process reads of a
-- file, and what a crash may leave of it then, is what a crash might have left when the process before it was over
pub record LosesOnlyUnsynced (before after : File) : Type 0 where
  pub read : MayLeave before (content after)
  pub left : (left : List ℕ) → MayLeave after left → MayLeave before left

-- a file as a crash leaves it
abbrev pub crashed : List ℕ → File
crashed left = record { stable = left; since = [] }

-- a file that isn't there yet
abbrev pub no_file : File
no_file = crashed []

-- a disk does so in a crash; and where a process ends and the machine goes on, the file stays, and its changes were made as asked
pub record KeepFiles : Type 0 where
  pub in_crash : (f : File) (left : List ℕ) → MayLeave f left → LosesOnlyUnsynced f (crashed left)
  pub in_place : (f : File) → MayLeave f (content f) → LosesOnlyUnsynced f f

-- The next process --

-- a file that is a journal whatever a crash leaves of it
abbrev pub StaysSomeJournal : File → Type 0
StaysSomeJournal f = (left : List ℕ) → MayLeave f left → (records : List Record) × IsJournal records left

-- the next process never finds it damaged
abbrev pub FilesAreFound : Type 0
FilesAreFound =
    (name : List ℕ) (s : Setup) (pace : Pace) (f : File) (before after : Moments) (old new : Ends) (at : ℕ) → StaysSomeJournal f → LosesOnlyUnsynced f (before.now.files name)
    → RunsReplica name s pace (Some before) (Some after) old new (JournalDamaged at) → ⊥

-- the records that were recovered are the journal of a life, as a whole or cut off
pub record AreOfLife (s : Setup) (es : List Event) (life : Life) (told : Option (List Record)) : Type 0 where
  pub cut : Life
  pub is : MayBeCut s es life cut
  pub same : told ≡ Some (place_of s cut).journal

-- and what the next process recovers is what a life left
abbrev pub TheRecoveredIsTheLeft : Type 0
TheRecoveredIsTheLeft =
    (name : List ℕ) (s : Setup) (es : List Event) (life : Life) (pace : Pace) (f : File) (before after : Moments) (old new : Ends) (status : Status)
    → ((left : List ℕ) → MayLeave f left → IsLeftBy s es life left) → LosesOnlyUnsynced f (before.now.files name)
    → (serves : ServesRecovered name s pace (Some before) (Some after) old new status) → AreOfLife s es life serves.is.records

-- Processes --

-- where a process served, its disk loses its own records alone
abbrev pub RunLosesItsOwn : (name : List ℕ) (s : Setup) (pace : Pace) (before after : Moments) (old new : Ends) (status : Status)
    → RunsReplica name s pace (Some before) (Some after) old new status → Type 0
RunLosesItsOwn name s pace before after old new status (inl refused) = Unit {0}
RunLosesItsOwn name s pace before after old new status (inr serves) = LosesItsOwn s pace serves.selected (Some after) old new status serves.is

-- a process of a member with its journal in the file of this name: what it does from its beginning to its end, as its contract says it;
-- and, where it was cut off, by which the rest isn't done any more, the moment of its disk then
pub record Process (name : List ℕ) (s : Setup) : Type 0 where
  pub pace : Pace
  pub before : Moments
  pub after : Moments
  pub old : Ends
  pub new : Ends
  pub status : Status
  pub runs : RunsReplica name s pace (Some before) (Some after) old new status
  pub own : RunLosesItsOwn name s pace before after old new status runs
  pub cut : Option Held
  pub at : IfSome cut (IsSince before after)

-- what its disk holds when it is over
abbrev pub over_at : Option Held → Moments → Held
over_at (Some held) after = held
over_at None after = after.now

abbrev pub left_by : (name : List ℕ) (s : Setup) → Process name s → File
left_by name s p = (over_at p.cut p.after).files name

-- processes one after another, of which the first begins with this file, and each other one with what the one before it left
abbrev pub AreProcesses : (name : List ℕ) (s : Setup) → File → List (Process name s) → Type 0
AreProcesses name s f [] = Unit {0}
AreProcesses name s f (p ∷ more) = LosesOnlyUnsynced f (p.before.now.files name) × AreProcesses name s (left_by name s p) more

abbrev pub left_by_all : (name : List ℕ) (s : Setup) → File → List (Process name s) → File
left_by_all name s f [] = f
left_by_all name s f (p ∷ more) = left_by_all name s (left_by name s p) more

-- Lives --

-- a life that ended: as a whole, or with the record of the turn that it lost, after all others
abbrev pub IsAtEnd : Setup → List Event → Life → Life → Type 0
IsAtEnd s es whole life =
    (life ≡ whole) ⊎ ((life.records ≡ whole.records) × ((r : Record) × (StoresAfter s (replay whole.records) es (stored_in s whole) r × IsCutAt s es r life)))

-- it is that of a process which wasn't cut off, or was
abbrev pub FitsCut : Setup → List Event → Option Held → Life → Life → Type 0
FitsCut s es None whole life = IsAtEnd s es whole life
FitsCut s es (Some held) whole life = MayBeCut s es whole life

-- a life of a replica that served between these ends, and was cut off or wasn't
pub record HasServedLife (s : Setup) (pace : Pace) (old new : Ends) (cut : Option Held) (life : Life) : Type 0 where
  pub records : List Record
  pub begins : life.records ≡ records
  pub begun : LinkTold
  pub last : Option (List Record)
  pub items : List Item
  pub moments : List ℕ
  pub has : HasLife s records pace (record old { link = begun; records = Some records }) (record new { records = last }) items moments []
  pub fits : FitsCut s (events pace.tick_ms items moments) cut has.life life

abbrev pub IsLifeOf : (name : List ℕ) (s : Setup) → Process name s → Life → Type 0
IsLifeOf name s p life = HasServedLife s p.pace p.old p.new p.cut life

-- a process was cut off before its journal was recovered
abbrev pub WasCutEarly : Option Held → Moments → Option Moments → Type 0
WasCutEarly None before recovered = ⊥
WasCutEarly (Some held) before recovered = IfSome recovered (λ u. IsSince before u held)

-- a process didn't come to serve
abbrev pub RunsUnserved : (name : List ℕ) (s : Setup) (pace : Pace) (before after : Moments) (old new : Ends) (status : Status) (cut : Option Held)
    → RunsReplica name s pace (Some before) (Some after) old new status → Type 0
RunsUnserved name s pace before after old new status cut (inl refused) = Unit {0}
RunsUnserved name s pace before after old new status cut (inr serves) = let is = serves.is in WasCutEarly cut before is.recovered

abbrev pub NeverServed : (name : List ℕ) (s : Setup) → Process name s → Type 0
NeverServed name s p = RunsUnserved name s p.pace p.before p.after p.old p.new p.status p.cut p.runs

-- the lives of processes, in their order: one of each that served
abbrev pub AreLivesOf : (name : List ℕ) (s : Setup) → List (Process name s) → List Life → Type 0
AreLivesOf name s [] [] = Unit {0}
AreLivesOf name s [] (life ∷ more) = ⊥
AreLivesOf name s (p ∷ ps) [] = NeverServed name s p × AreLivesOf name s ps []
AreLivesOf name s (p ∷ ps) (life ∷ more) =
    (NeverServed name s p × AreLivesOf name s ps (life ∷ more)) ⊎ (IsLifeOf name s p life × AreLivesOf name s ps more)

-- each of them is over
abbrev pub AreOver : List Life → Type 0
AreOver [] = Unit {0}
AreOver (life ∷ more) = IsEnd life.ending × AreOver more

-- processes have lives, each of which begins with the records that the ones before it left, and a file is the journal of them all
pub record HaveLives (name : List ℕ) (s : Setup) (ps : List (Process name s)) (left : List ℕ) : Type 0 where
  pub lives : List Life
  pub are : AreLives s [] lives
  pub over : AreOver lives
  pub each : AreLivesOf name s ps lives
  pub journal : IsJournal (place_of_lives s (stopped []) lives).journal left

-- so it is with each list of processes, whatever a crash leaves after them
abbrev pub ProcessesAreLives : Type 0
ProcessesAreLives =
    (name : List ℕ) (s : Setup) (ps : List (Process name s)) → AreProcesses name s no_file ps → (left : List ℕ) → MayLeave (left_by_all name s no_file ps) left
    → HaveLives name s ps left

-- Groups --

-- steps merge these lives of the members and the aggregator: each datagram that is taken in stands among those that earlier steps sent to
-- whom it comes, and each request is new
pub record MergeLives (g : Group) (lives : ℕ → List Life) (counting : List AggregatorLife) (steps : List Step) : Type 0 where
  pub merged : (v : ℕ) → v < length g.members → acts_at v steps ≡ acts_of_lives (lives v)
  pub counted : (me : Addr) → g.aggregator ≡ Some me → AreAggregatorLives me g.members counting
  pub aggregated : (me : Addr) → g.aggregator ≡ Some me → of_aggregators steps ≡ steps_of_lives me g.members counting
  pub unaggregated : g.aggregator ≡ None → of_aggregators steps ≡ []
  pub come : AllCome g (begun g) steps

-- the processes of the members of a group, with what a crash leaves at last, have lives of which each merge serves as one thread
pub record ServeByLives (g : Group) (names : ℕ → List ℕ) (ps : (v : ℕ) → List (Process (names v) (setup_of g v))) (left : ℕ → List ℕ) : Type 0 where
  pub lives : ℕ → List Life
  pub each : (v : ℕ) → AreLivesOf (names v) (setup_of g v) (ps v) (lives v)
  pub journal : (v : ℕ) → IsJournal (place_of_lives (setup_of g v) (stopped []) (lives v)).journal (left v)
  pub serve : (counting : List AggregatorLife) (steps : List Step) → MergeLives g lives counting steps → ServeAsOne g lives counting steps

abbrev pub ProcessesServeAsOne : Type 0
ProcessesServeAsOne =
    (g : Group) (names : ℕ → List ℕ) (ps : (v : ℕ) → List (Process (names v) (setup_of g v))) (left : ℕ → List ℕ) → IsGroup g
    → ((v : ℕ) → AreProcesses (names v) (setup_of g v) no_file (ps v)) → ((v : ℕ) → MayLeave (left_by_all (names v) (setup_of g v) no_file (ps v)) (left v))
    → ServeByLives g names ps left

-- A process of a member that serves from the journal in its file and is cut off at any moment: what a crash leaves then is the journal
-- of a life.
use Rattle.std.specs.Prelude.{◌≡◌, ◌⊎◌, ℕ, List, [], ◌∷◌, ◌++◌, Option, Some, None}
use Rattle.std.proofs.Common.{inl, inr}
use Rattle.r2_base.specs.declared.event.Event.{Event}
use Rattle.r2_link.specs.declared.lane.Item.{Item}
use Rattle.r2_link.specs.Links.{LinkTold}
use Rattle.hc_disk.specs.Disk.{Held, MayLeave, Moments, now_content}
use Rattle.hc_journal.specs.declared.journal.First.{First}
use Rattle.hc_log.specs.declared.record.Record.{Record}
use Rattle.hc_log.specs.Durable.{State, replay}
use Rattle.hc_member.specs.declared.setup.Setup.{Setup}
use Rattle.hc_member.specs.Member.{anew}
use Rattle.hc_member.specs.Turn.{turned}
use Rattle.hc_file_journal.specs.File.{IsJournal}
use Rattle.hc_file_journal.specs.FileJournal.{StaysJournal}
use Rattle.hc_file_journal.specs.FileLaws.{IsSince}
use Rattle.hc_file_journal.specs.Since.{EndsWith, Ran}
use Rattle.cmd_status.specs.declared.status.Status.{Status}
use Rattle.cmd_loop.specs.declared.pace.Pace.{Pace}
use Rattle.cmd_loop.specs.Ends.{Ends}
use Rattle.cmd_loop.specs.Events.{events}
use Rattle.cmd_loop.specs.Happenings.{came}
use Rattle.cmd_replica.specs.Command.{ServesFrom, ServesSelected}
use Rattle.cmd_replica.specs.Replica.{served}
use Rattle.cmd_group.specs.Lives.{Stopped, Broken, Life, place_of, served_in, stored_in}
use Rattle.cmd_group.specs.LoopLives.{HasLife}

-- Lives that were cut off --

-- of these events, with which a member began that was so, one is that of a turn that stores a record, after turns that stored these
pub record StoresAfter (s : Setup) (d : State) (es : List Event) (stored : List Record) (r : Record) : Type 0 where
  pub before : List Event
  pub event : Event
  pub later : List Event
  pub split : es ≡ before ++ event ∷ later
  pub earlier : (served s (anew d) (came before)).stored ≡ stored
  pub stores : (turned s (served s (anew d) (came before)).member event).stored ≡ Some r

-- a life that was cut off in the turn that stores this record: all turns before it were whole, and nothing of it was sent, since a loop
-- stores before it sends. The record stays or it doesn't
pub record IsCutAt (s : Setup) (es : List Event) (r : Record) (cut : Life) : Type 0 where
  pub event : Event
  pub later : List Event
  pub split : es ≡ cut.events ++ event ∷ later
  pub stores : (turned s (served_in s cut).member event).stored ≡ Some r
  pub ending : (cut.ending ≡ Stopped) ⊎ (cut.ending ≡ Broken event [])

-- a life as a whole, or cut off in one of its turns
abbrev pub MayBeCut : Setup → List Event → Life → Life → Type 0
MayBeCut s es life cut = (cut ≡ life) ⊎ ((cut.records ≡ life.records) × ((r : Record) × IsCutAt s es r cut))

-- a file is the journal of a life that came to these events, as a whole or cut off
pub record IsLeftBy (s : Setup) (es : List Event) (life : Life) (left : List ℕ) : Type 0 where
  pub cut : Life
  pub is : MayBeCut s es life cut
  pub journal : IsJournal (place_of s cut).journal left

-- and at the end that of all that it stored, with the record of the turn that it lost or without
abbrev pub IsLeftAtEnd : Setup → List Event → Life → List ℕ → Type 0
IsLeftAtEnd s es life left =
    IsJournal (place_of s life).journal left
    ⊎ ((r : Record) × (StoresAfter s (replay life.records) es (stored_in s life) r × IsJournal ((place_of s life).journal ++ r ∷ []) left))

-- The disk --

-- the events that came to a replica while it served
abbrev pub came_to : (s : Setup) (d : State) (pace : Pace) (old new : Ends) (status : Status) → ServesFrom s d pace old new status → List Event
came_to s d pace old new status (inl begins) = []
came_to s d pace old new status (inr run) = let serves = run.2 in events pace.tick_ms serves.items serves.moments

-- the record that a last call tried to store which failed, where one did
abbrev pub OfLast : (ended : Option First) (records : List Record) (t u : Moments) → EndsWith ended records t u → (Record → Type 0) → Type 0
OfLast None records t u ends P = Unit {0}
OfLast (Some cause) records t u (inl same) P = Unit {0}
OfLast (Some cause) records t u (inr tried) P = P tried.0

abbrev pub OfTried : (before now : ℕ) (ended : Option First) (old new : Option Moments) → Ran before now ended old new → (List Record → Record → Type 0) → Type 0
OfTried before now ended (Some t) (Some u) ran P = OfLast ended _ ran.last u ran.end (P ran.stored)
OfTried before now ended None new ran P = Unit {0}
OfTried before now ended (Some t) None ran P = Unit {0}

-- the one thing that the contract of a loop doesn't say of a disk that failed: the record that it may keep of the failed call is that of
-- the turn which the loop lost in it, and no other one
abbrev pub LosesItsOwn : (s : Setup) (pace : Pace) (selected after : Option Moments) (old new : Ends) (status : Status)
    → ServesSelected s pace selected after old new status → Type 0
LosesItsOwn s pace selected after old new status is =
    OfTried is.was_recovered.end is.kept.end is.ended is.recovered after is.since
    (StoresAfter s is.from (came_to s is.from pace (record old { records = is.records }) (record new { records = is.last }) status is.serves))

-- a replica that served from the selected file is a life which began with the records in it. A crash while they were recovered left what
-- might have been left before, or their journal; one at any later moment left the journal of the life, whole or cut off; and one at the
-- end left that of all that it stored, with the record of the turn that it lost or without
pub record LeavesLives (s : Setup) (pace : Pace) (selected : Moments) (told : Option Moments) (after : Moments) (old new : Ends) : Type 0 where
  pub records : List Record
  pub found : IsJournal records (now_content selected)
  pub begun : LinkTold
  pub last : Option (List Record)
  pub items : List Item
  pub moments : List ℕ
  pub has : HasLife s records pace (record old { link = begun; records = Some records }) (record new { records = last }) items moments []
  pub recovered : Moments
  pub is_recovered : told ≡ Some recovered
  pub recovering : (held : Held) → IsSince selected recovered held → (left : List ℕ) → MayLeave (held.files selected.now.selected) left → StaysJournal selected left
  pub serving : (held : Held) → IsSince recovered after held → (left : List ℕ) → MayLeave (held.files selected.now.selected) left
      → IsLeftBy s (events pace.tick_ms items moments) has.life left
  pub either : (held : Held) → IsSince selected after held → IsSince selected recovered held ⊎ IsSince recovered after held
  pub at_end : (left : List ℕ) → MayLeave (after.now.files selected.now.selected) left → IsLeftAtEnd s (events pace.tick_ms items moments) has.life left

abbrev pub CrashesLeaveLives : Type 0
CrashesLeaveLives =
    (s : Setup) (pace : Pace) (selected after : Moments) (old new : Ends) (status : Status)
    (serves : ServesSelected s pace (Some selected) (Some after) old new status)
    → LosesItsOwn s pace (Some selected) (Some after) old new status serves → LeavesLives s pace selected serves.recovered after old new

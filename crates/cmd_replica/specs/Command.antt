-- The command of a replica: the journal in its file is recovered, its link is bound, and then it serves.
use Rattle.std.specs.Prelude.{◌≡◌, ◌⊎◌, ℕ, List, Option, Some, IfSome, Ok, option_map}
use Rattle.hc_disk.specs.Disk.{Moments, now_content, with_selected}
use Rattle.hc_disk.specs.Calls.{Both, Makes}
use Rattle.hc_disk.specs.Runs.{LeavesOnly, SinceThen}
use Rattle.hc_log.specs.declared.record.Record.{Record}
use Rattle.hc_log.specs.Durable.{State}
use Rattle.hc_file_journal.specs.declared.recover_fault.RecoverFault.{RecoverFault}
use Rattle.hc_file_journal.specs.declared.recover_fault.RecoverFault.TheVariants as fault
use Rattle.hc_file_journal.specs.File.{IsDamaged}
use Rattle.hc_file_journal.specs.FileJournal.{LeavesJournal, StaysJournal, TellsJournal, kept_records}
use Rattle.hc_file_journal.specs.Since.{Ran}
use Rattle.hc_journal.specs.declared.journal.First.{First}
use Rattle.hc_member.specs.declared.setup.Setup.{Setup}
use Rattle.hc_member.specs.Setup.{own_address}
use Rattle.cmd_status.specs.declared.status.Status.{Status}
use Rattle.cmd_status.specs.declared.status.Status.TheVariants.{Done, JournalDamaged, Memory, DiskFault, TurnsSpent}
use Rattle.cmd_loop.specs.declared.pace.Pace.{Pace}
use Rattle.cmd_loop.specs.Bound.{RunsBound}
use Rattle.cmd_loop.specs.Ends.{Ends, Passes, nothing}
use Rattle.cmd_loop.specs.Loop.{Serves}
use Rattle.cmd_replica.specs.Replica.{ReplicaServes, ReplicaServesAll}

-- ---- the disk, where it reports its moments

-- the file of this name is selected
abbrev pub Selects : List ℕ → Option Moments → Option Moments → Type 0
Selects name old new = Makes old new (Ok tt) (with_selected name)

-- since a file was selected, a crash at any moment left what it might have left before, or the journal that the file was
abbrev pub StaysRecoverable : Option Moments → Option Moments → Type 0
StaysRecoverable selected new = SinceThen selected new (λ t held. LeavesOnly (StaysJournal t) t.now held)

-- the selected file is no journal, as shows first at this offset, and it reads as before
pub record IsSeenDamaged (at : ℕ) (selected new : Option Moments) : Type 0 where
  pub since : StaysRecoverable selected new
  pub damaged : IfSome selected (λ t. IsDamaged at (now_content t))
  pub unchanged : Both selected new (λ t u. now_content u ≡ now_content t)

-- the journal in the selected file wasn't recovered
abbrev pub IsRefused : RecoverFault → Option Moments → Option Moments → Type 0
IsRefused fault.Disk selected new = StaysRecoverable selected new
IsRefused fault.Memory selected new = StaysRecoverable selected new
IsRefused (fault.Damaged at) selected new = IsSeenDamaged at selected new

-- the file of this name was selected, and the journal in it wasn't recovered
pub record WasRefused (why : RecoverFault) (name : List ℕ) (old new : Option Moments) : Type 0 where
  pub selected : Option Moments
  pub selects : Selects name old selected
  pub is : IsRefused why selected new

-- the status of a refused recovery
abbrev pub status_of : RecoverFault → Status
status_of fault.Disk = DiskFault
status_of (fault.Damaged at) = JournalDamaged at
status_of fault.Memory = Memory

-- no journal was recovered from the file of this name, as this status says: the disk failed to select the file or in the recovery,
-- memory ran out in it, or the file is damaged
abbrev pub IsUnrecovered : List ℕ → Option Moments → Option Moments → Status → Type 0
IsUnrecovered name old new DiskFault = Both old new (λ t u. u ≡ t) ⊎ WasRefused fault.Disk name old new
IsUnrecovered name old new Memory = WasRefused fault.Memory name old new
IsUnrecovered name old new (JournalDamaged at) = WasRefused (fault.Damaged at) name old new
IsUnrecovered name old new _ = ⊥

-- the journal in the selected file was recovered: it is that of these records, which lead to this durable state, and a crash after
-- that leaves the journal of them
pub record IsRecovered (selected recovered : Option Moments) (records : Option (List Record)) (d : State) : Type 0 where
  pub since : StaysRecoverable selected recovered
  pub journal : TellsJournal selected records d
  pub end : ℕ
  pub same : records ≡ option_map (kept_records end) recovered
  pub leaves : IfSome recovered (λ u. LeavesJournal (kept_records end u) u)

-- what a journal over a disk tells: the records before its closed gate
pub record IsToldOf (disk : Option Moments) (records : Option (List Record)) : Type 0 where
  pub end : ℕ
  pub same : records ≡ option_map (kept_records end) disk

-- ---- the command

-- a replica that begins with this durable state: its link is bound at its own address first, and then it serves
abbrev pub ServesFrom : Setup → State → Pace → Ends → Ends → Status → Type 0
ServesFrom s d pace old new status =
    RunsBound (Some (own_address s)) (Serves (ReplicaServesAll s d) (ReplicaServes s d) (ReplicaServes s d) pace) old new status

-- the journal in the selected file was recovered, and a replica served from that, over the journal, which has the disk: what it
-- stored the journal tells after the records that were recovered, and it was stored one record after another. A crash at any moment
-- of that left the journal of the records before, with the one that was being stored or without
pub record ServesSelected (s : Setup) (pace : Pace) (selected after : Option Moments) (old new : Ends) (status : Status) : Type 0 where
  pub recovered : Option Moments
  pub records : Option (List Record)
  pub from : State
  pub was_recovered : IsRecovered selected recovered records from
  pub last : Option (List Record)
  pub serves : ServesFrom s from pace (record old { records = records }) (record new { records = last }) status
  pub kept : IsToldOf after last
  pub ended : Option First
  pub since : Ran was_recovered.end kept.end ended recovered after

-- the file of this name was selected, and a replica served from it
pub record ServesRecovered (name : List ℕ) (s : Setup) (pace : Pace) (disk after : Option Moments) (old new : Ends) (status : Status) : Type 0 where
  pub selected : Option Moments
  pub selects : Selects name disk selected
  pub is : ServesSelected s pace selected after old new status

-- a replica of this group that keeps its journal in the file of this name on a disk, which is so before and after: no journal was
-- recovered, and nothing else was done, or it served from what was recovered
abbrev pub RunsReplica : List ℕ → Setup → Pace → Option Moments → Option Moments → Ends → Ends → Status → Type 0
RunsReplica name s pace disk after old new status =
    (IsUnrecovered name disk after status × Passes old new nothing) ⊎ ServesRecovered name s pace disk after old new status

-- how such a replica ends where none of its objects failed
abbrev pub IsReplicaEnd : Status → Type 0
IsReplicaEnd Done = Unit {0}
IsReplicaEnd TurnsSpent = Unit {0}
IsReplicaEnd Memory = Unit {0}
IsReplicaEnd (JournalDamaged at) = Unit {0}
IsReplicaEnd _ = ⊥

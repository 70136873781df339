-- What contracts see of the journal in memory.
use Rattle.std.specs.Prelude.{Bool, true, false, ℕ, List, Option, Result, Ok, Err}
use Rattle.hc_log.specs.declared.record.Record.{Record}
use Rattle.hc_journal.specs.declared.journal.First.{First}
use Rattle.hc_journal.specs.declared.journal.JournalFault.{JournalFault}
use Rattle.hc_journal.specs.declared.journal.JournalFault.TheVariants.{Disk, Memory, Ended}

-- the records that were acknowledged, why it has ended, the calls made so far, the numbers of the calls that fail, and how
-- often it failed
pub record JournalState : Type 0 where
  pub records : List Record
  pub ended : Option First
  pub calls : ℕ
  pub fails : List ℕ
  pub faults : ℕ

-- whether an append failed by the disk
abbrev pub is_disk_fault : Result (Unit {0}) JournalFault → Bool
is_disk_fault (Err Disk) = true
is_disk_fault (Err Memory) = false
is_disk_fault (Err (Ended cause)) = false
is_disk_fault (Ok done) = false

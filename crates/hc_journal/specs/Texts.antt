-- The faults of a journal as a person reads them.
use Rattle.std.specs.Prelude.{ℕ, List, ◌++◌, codes}
use Rattle.hc_journal.specs.declared.journal.First.{First}
use Rattle.hc_journal.specs.declared.journal.First.TheVariants as first
use Rattle.hc_journal.specs.declared.journal.JournalFault.{JournalFault}
use Rattle.hc_journal.specs.declared.journal.JournalFault.TheVariants.{Disk, Memory, Ended}

-- why a journal ended
abbrev pub first_text : First → List ℕ
first_text first.Disk = codes "the disk failed"
first_text first.Memory = codes "out of memory"

-- why a record isn't acknowledged
abbrev pub fault_text : JournalFault → List ℕ
fault_text Disk = codes "the disk failed"
fault_text Memory = codes "out of memory"
fault_text (Ended cause) = codes "the journal has ended: " ++ first_text cause

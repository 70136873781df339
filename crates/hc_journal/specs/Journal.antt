-- What a journal asks of a record, and how it ends.
use Rattle.std.specs.Prelude.{◌≡◌, ⊤, List, Option, Some, None, Result, Ok, Err}
use Rattle.hc_log.specs.declared.record.Record.{Record}
use Rattle.hc_log.specs.Durable.{replay, IsNext}
use Rattle.hc_journal.specs.declared.journal.First.{First}
use Rattle.hc_journal.specs.declared.journal.First.TheVariants as first
use Rattle.hc_journal.specs.declared.journal.JournalFault.{JournalFault}
use Rattle.hc_journal.specs.declared.journal.JournalFault.TheVariants.{Disk, Memory, Ended}

-- where records are reported, this one may be the next
abbrev pub FitsTold : Option (List Record) → Record → Type 0
FitsTold None r = ⊤
FitsTold (Some records) r = IsNext (replay records) r

-- how an append leaves the end of a journal: one that has ended answers its first cause and stays so; one that hasn't is
-- ended by a failure, and by nothing else
abbrev pub EndsAs : Option First → Option First → Result (Unit {0}) JournalFault → Type 0
EndsAs None new (Ok done) = new ≡ None
EndsAs None new (Err Disk) = new ≡ Some first.Disk
EndsAs None new (Err Memory) = new ≡ Some first.Memory
EndsAs None new (Err (Ended cause)) = ⊥
EndsAs (Some cause) new (Ok done) = ⊥
EndsAs (Some cause) new (Err Disk) = ⊥
EndsAs (Some cause) new (Err Memory) = ⊥
EndsAs (Some cause) new (Err (Ended told)) = (told ≡ cause) × (new ≡ Some cause)

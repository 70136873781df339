-- What the faults say, and how a run of a script ends by them.
use Rattle.std.specs.Prelude.{ℕ, List, codes}
use Rattle.cmd_status.specs.declared.status.Status.{Status}
use Rattle.cmd_status.specs.declared.status.Status.TheVariants.{BadScript, Memory as NoMemory, SourceFault, TurnsSpent}
use Rattle.cmd_lines.specs.declared.line_fault.LineFault.{LineFault}
use Rattle.cmd_lines.specs.declared.line_fault.LineFault.TheVariants.{Source, Memory, TooLong, Limit}

abbrev pub fault_text : LineFault → List ℕ
fault_text Source = codes "the source failed"
fault_text Memory = codes "out of memory"
fault_text TooLong = codes "the line is too long"
fault_text Limit = codes "2^56 bytes were read"

-- how a run of a script ends where the line with this number can't be had
abbrev pub status_of : LineFault → ℕ → Status
status_of Source number = SourceFault
status_of Memory number = NoMemory
status_of TooLong number = BadScript number
status_of Limit number = TurnsSpent

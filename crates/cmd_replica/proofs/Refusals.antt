-- How a journal wasn't recovered.
use Rattle.std.proofs.Common.{ℕ, List, Option, inr}
use Rattle.hc_disk.specs.Disk.{Moments}
use Rattle.hc_file_journal.specs.declared.recover_fault.RecoverFault.{RecoverFault}
use Rattle.hc_file_journal.specs.declared.recover_fault.RecoverFault.TheVariants as fault
use Rattle.cmd_replica.specs.Command.{IsRefused, IsUnrecovered, Selects, status_of}

pub unrecovered : (name : List ℕ) (old selected new : Option Moments) (why : RecoverFault) → Selects name old selected → IsRefused why selected new
    → IsUnrecovered name old new (status_of why)
unrecovered name old selected new fault.Disk selects is = inr (record { selected = selected; selects = selects; is = is })
unrecovered name old selected new fault.Memory selects is = record { selected = selected; selects = selects; is = is }
unrecovered name old selected new (fault.Damaged at) selects is = record { selected = selected; selects = selects; is = is }

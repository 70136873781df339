-- What is said of a journal that isn't recovered.
use Rattle.std.specs.Prelude.{ℕ, List, ◌++◌, codes, decimal}
use Rattle.hc_file_journal.specs.declared.recover_fault.RecoverFault.{RecoverFault}
use Rattle.hc_file_journal.specs.declared.recover_fault.RecoverFault.TheVariants as recovery

-- why a journal isn't recovered
abbrev pub recover_fault_text : RecoverFault → List ℕ
recover_fault_text recovery.Disk = codes "the disk failed"
recover_fault_text (recovery.Damaged at) = codes "the journal is damaged at " ++ decimal at
recover_fault_text recovery.Memory = codes "out of memory"

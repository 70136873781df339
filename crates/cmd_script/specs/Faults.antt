-- Why a text wasn't read, as a person reads it.
use Rattle.std.specs.Prelude.{ℕ, List, codes}
use Rattle.cmd_script.specs.declared.text_fault.TextFault.{TextFault}
use Rattle.cmd_script.specs.declared.text_fault.TextFault.TheVariants.{Outside, Memory}

abbrev pub fault_text : TextFault → List ℕ
fault_text Outside = codes "outside the grammar"
fault_text Memory = codes "out of memory"

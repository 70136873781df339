-- What the faults say.
use Rattle.std.specs.Prelude.{ℕ, List, codes}
use Rattle.r2_link.specs.declared.link.LinkFault.{LinkFault}
use Rattle.r2_link.specs.declared.link.LinkFault.TheVariants.{Failed, Memory}

abbrev pub fault_text : LinkFault → List ℕ
fault_text Failed = codes "the link failed"
fault_text Memory = codes "out of memory"

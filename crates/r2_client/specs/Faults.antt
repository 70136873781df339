-- The faults of a call's beginning as a person reads them.
use Rattle.std.specs.Prelude.{ℕ, List, codes}
use Rattle.r2_client.specs.declared.begin_fault.BeginFault.{BeginFault}
use Rattle.r2_client.specs.declared.begin_fault.BeginFault.TheVariants.{Outstanding, TooLong, IdsUsed, Memory}

-- why a call can't begin
abbrev pub fault_text : BeginFault → List ℕ
fault_text Outstanding = codes "a call is open"
fault_text TooLong = codes "the body has more than 61440 bytes"
fault_text IdsUsed = codes "all request ids have been used"
fault_text Memory = codes "out of memory"

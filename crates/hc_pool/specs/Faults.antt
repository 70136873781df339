-- The faults of a pool as a person reads them.
use Rattle.std.specs.Prelude.{ℕ, List, codes}
use Rattle.hc_pool.specs.declared.put_fault.PutFault.{PutFault}
use Rattle.hc_pool.specs.declared.put_fault.PutFault.TheVariants.{Full, Memory}

-- why a request isn't taken
abbrev pub fault_text : PutFault → List ℕ
fault_text Full = codes "the pool is full"
fault_text Memory = codes "out of memory"

-- The faults of a durable state as a person reads them.
use Rattle.std.specs.Prelude.{ℕ, Bool, true, false, List, codes}
use Rattle.hc_log.specs.declared.follow_fault.FollowFault.{FollowFault}
use Rattle.hc_log.specs.declared.follow_fault.FollowFault.TheVariants.{Unfit, Memory}

-- whether a fault is that memory ran out
abbrev pub is_memory : FollowFault → Bool
is_memory Unfit = false
is_memory Memory = true

-- why a state doesn't follow a record
abbrev pub fault_text : FollowFault → List ℕ
fault_text Unfit = codes "the record doesn't fit the state"
fault_text Memory = codes "out of memory"

-- What may be sent to another thread may be sent where it is a parameter of a closure.
use Rattle.std.proofs.Common.{Bool, true, false}
use base.Shift.{Keyless}
use denote.Exit.{if_kept, left, unseen, Last}

-- nothing is kept of what isn't seen
pub unseen_keyless : {D : Type 0} (kept : Bool) (x : D) (last : Last (if_kept kept (unseen {D = D}) unseen) x) → Keyless (left (if_kept kept (unseen {D = D}) unseen) x last)
unseen_keyless true x last = tt
unseen_keyless false x last = tt

-- What holds of every session that can be reached.
use Rattle.std.specs.Prelude.{ℕ, ◌<◌, ◌≤◌, length, Option, None, Some}
use Rattle.r2_base.specs.Limits.{id_limit, most_body, most_reply}
use Rattle.r2_header.specs.Policy.{replicated_read}
use Rattle.r2_client.specs.declared.call_end.CallEnd.{CallEnd}
use Rattle.r2_client.specs.declared.call_end.CallEnd.TheVariants.{Rejected, Reply, TimedOut}
use Rattle.r2_client.specs.declared.open_call.OpenCall.{OpenCall}
use Rattle.r2_client.specs.State.{SessionState}

-- the request of a call may be sent
pub record IsRequest (call : OpenCall) : Type 0 where
  pub policy : call.policy ≤ replicated_read
  pub body : length call.body ≤ most_body

-- a call waits for less than its time, and was sent at least once, and no more often than may be
pub record IsCallWithin (wait tries : ℕ) (call : OpenCall) : Type 0 where
  pub request : IsRequest call
  pub ticks : call.ticks < wait
  pub first : 1 ≤ call.sendings
  pub sendings : call.sendings ≤ tries

-- and so where there is one
abbrev pub IsWithin : ℕ → ℕ → Option OpenCall → Type 0
IsWithin wait tries None = Unit {0}
IsWithin wait tries (Some call) = IsCallWithin wait tries call

-- a session waits for some ticks and tries some times, and has used no more ids than there are
pub record IsSound (s : SessionState) : Type 0 where
  pub wait : 1 ≤ s.wait
  pub tries : 1 ≤ s.tries
  pub next : s.next ≤ id_limit
  pub call : IsWithin s.wait s.tries s.open_call

-- the payload of a reply is no longer than it may be
abbrev pub IsShortEnd : Option CallEnd → Type 0
IsShortEnd (Some (Reply body)) = length body ≤ most_reply
IsShortEnd (Some Rejected) = Unit {0}
IsShortEnd (Some TimedOut) = Unit {0}
IsShortEnd None = Unit {0}

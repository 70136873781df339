-- What a router is at a moment, the history that it stands for, and what a step makes of it.
use Rattle.std.specs.Prelude.{◌≡◌, ℕ, ◌+◌, ◌*◌, ◌<◌, ◌≤◌, List, length, drop, count_by, sum_by, true, false, Option, Some, None}
use Rattle.std.specs.List.{All}
use Rattle.r2_base.specs.declared.event.Event.{Event}
use Rattle.r2_base.specs.declared.rid.Rid.{Rid}
use Rattle.r2_jbsq.specs.declared.routed_request.RoutedRequest.{RoutedRequest}
use Rattle.r2_jbsq.specs.declared.router_setup.RouterSetup.{RouterSetup}
use Rattle.r2_jbsq.specs.declared.decision.Decision.{Decision}
use Rattle.r2_jbsq.specs.declared.decision.Decision.TheVariants as decision
use Rattle.r2_jbsq.specs.Answer.{decision_at, standing_of}
use Rattle.r2_jbsq.specs.History.{Mark, is_accept, is_answer, is_forward}
use Rattle.r2_jbsq.specs.Limits.{greatest_n, most_servers, most_waiting}
use Rattle.r2_jbsq.specs.Packets.{HoldsRequests}
use Rattle.r2_jbsq.specs.Standing.{Standing, chosen, closed, is_for, is_known, has, next, nothing_open, put, queued, row_at}

-- its address, its servers and how many requests each may hold, what is open and waits, and how many requests it accepted,
-- forwarded and got answers to, and how many turns it had
pub record RouterState : Type 0 where
  pub setup : RouterSetup
  pub standing : Standing
  pub accepted : ℕ
  pub forwarded : ℕ
  pub answered : ℕ
  pub turns : ℕ

-- a router to which nothing came yet
abbrev pub begin : RouterSetup → RouterState
begin setup =
    record { setup = setup; standing = nothing_open (length setup.servers); accepted = 0; forwarded = 0; answered = 0; turns = 0 }

-- a router stands for a history where its open and waiting requests are those of the history, and its counts are the numbers
-- of marks of each kind
pub record StandsFor (r : RouterState) (history : List Mark) : Type 0 where
  pub standing : r.standing ≡ standing_of r.setup history
  pub accepted : r.accepted ≡ count_by is_accept history
  pub forwarded : r.forwarded ≡ count_by is_forward history
  pub answered : r.answered ≡ count_by is_answer history

-- how many requests are open, at all servers together
abbrev pub held_in : Standing → ℕ
held_in s = sum_by length s.rows

-- the router had at most so many turns
abbrev pub HadTurns : ℕ → RouterState → Type 0
HadTurns n r = r.turns ≤ n

-- a request that waited goes to a server
abbrev pub moved_on : Standing → Option (RoutedRequest × ℕ) → Standing
moved_on s (Some (request, server)) = put request server (record s { queue = drop 1 s.queue })
moved_on s None = s

-- the request that may go on does
abbrev pub passed_on : RouterState → Option (RoutedRequest × ℕ) → RouterState
passed_on r (Some (request, server)) =
    record r { standing = moved_on r.standing (Some (request, server)); forwarded = r.forwarded + 1 }
passed_on r None = r

-- a router after a step
abbrev pub carried_out : RouterState → Decision → RouterState
carried_out r decision.Nothing = r
carried_out r (decision.Reject rid) = r
carried_out r (decision.Queue request) = record r { standing = queued request r.standing; accepted = r.accepted + 1 }
carried_out r (decision.Forward request server) =
    record r { standing = put request server r.standing; accepted = r.accepted + 1; forwarded = r.forwarded + 1 }
carried_out r (decision.Close rid server) =
    passed_on (record r { standing = closed rid server r.standing; answered = r.answered + 1 }) (next r.setup.n (closed rid server r.standing))
carried_out r decision.Repeat = r

-- how often a request of this name is open or waits
abbrev pub copies : Rid → Standing → ℕ
copies rid s = sum_by (count_by (is_for rid)) s.rows + count_by (is_for rid) s.queue

-- a request waits only while each server holds n
abbrev pub IsFullWhileWaiting : ℕ → Standing → Type 0
IsFullWhileWaiting n s = 0 < length s.queue → All (λ row. length row ≡ n) s.rows

-- what holds of every router that can be reached: there is a row for each server, each holds at most n requests, a request
-- waits only while each holds n, at most so many wait as may, no request is held twice, and each that was accepted
-- waits, is open or was answered
pub record IsSound (r : RouterState) : Type 0 where
  pub rows : length r.standing.rows ≡ length r.setup.servers
  pub within : All (λ row. length row ≤ r.setup.n) r.standing.rows
  pub full : IsFullWhileWaiting r.setup.n r.standing
  pub most_waiting : length r.standing.queue ≤ most_waiting
  pub once : (rid : Rid) → copies rid r.standing ≤ 1
  pub accepted : r.accepted ≡ length r.standing.queue + held_in r.standing + r.answered
  pub forwarded : r.forwarded ≡ held_in r.standing + r.answered
  pub turns : r.accepted ≤ r.turns

-- and it has no more servers than a router may have, an n that one may have, and only packets that are requests
pub record IsFit (r : RouterState) : Type 0 where
  pub servers : length r.setup.servers ≤ most_servers
  pub n : r.setup.n ≤ greatest_n
  pub sound : IsSound r
  pub requests : HoldsRequests r.standing

-- how many requests may be open, at all servers together
abbrev pub slots_of : RouterSetup → ℕ
slots_of setup = length setup.servers * setup.n

-- a new request that waits: no server has room, and fewer wait than may
pub record IsNewAndWaits (n : ℕ) (request : RoutedRequest) (s : Standing) : Type 0 where
  pub new : is_known request.rid s ≡ false
  pub full : chosen n s.rows ≡ None
  pub room : length s.queue < most_waiting

-- a new request that goes to the chosen server
pub record IsNewAndGoes (n : ℕ) (request : RoutedRequest) (server : ℕ) (s : Standing) : Type 0 where
  pub new : is_known request.rid s ≡ false
  pub chosen : chosen n s.rows ≡ Some server

-- a request that is open at a server
pub record IsOpenAt (rid : Rid) (server : ℕ) (s : Standing) : Type 0 where
  pub is_server : server < length s.rows
  pub is_open : has rid (row_at s server) ≡ true

-- a step that may be taken: a new request isn't known, and goes where there is room; a request that is closed is open there
abbrev pub Fits : ℕ → Standing → Decision → Type 0
Fits n s decision.Nothing = Unit {0}
Fits n s (decision.Reject rid) = Unit {0}
Fits n s (decision.Queue request) = IsNewAndWaits n request s
Fits n s (decision.Forward request server) = IsNewAndGoes n request server s
Fits n s (decision.Close rid server) = IsOpenAt rid server s
Fits n s decision.Repeat = Unit {0}

-- a router after one turn more
abbrev pub counted : RouterState → RouterState
counted r = record r { turns = r.turns + 1 }

-- a router after an event
unfoldable pub turned : RouterState → Event → RouterState
turned r event = counted (carried_out r (decision_at r.setup r.standing event))

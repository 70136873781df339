-- What holds of every history of a router, whatever events come.
use Rattle.std.specs.Prelude.{◌≡◌, ℕ, ◌+◌, ◌<◌, ◌≤◌, false, true, List, [], ◌∷◌, ◌++◌, length, count_by, map, sum}
use Rattle.std.specs.List.{list_any, range_with_len}
use Rattle.r2_base.specs.declared.datagram.Datagram.{Datagram}
use Rattle.r2_base.specs.declared.event.Event.{Event}
use Rattle.r2_base.specs.declared.event.Event.TheVariants.{Datagram as DatagramEvent, Quiet, Tick}
use Rattle.r2_jbsq.specs.declared.router_setup.RouterSetup.{RouterSetup}
use Rattle.r2_base.specs.declared.rid.Rid.{Rid}
use Rattle.r2_jbsq.specs.Answer.{history_after, standing_of}
use Rattle.r2_jbsq.specs.History.{Answer, Mark, is_accept, is_answer, is_forward, open_at, waiting}
use Rattle.r2_base.specs.Names.{same_rid}
use Rattle.r2_header.specs.Reading.{header_at}
use Rattle.r2_jbsq.specs.Packets.{is_feedback, is_req0, reads_as}
use Rattle.r2_jbsq.specs.Standing.{is_known}
use Rattle.r2_jbsq.specs.State.{RouterState, counted, turned}
use Rattle.r2_jbsq.specs.Turns.{IsIgnored, sent}

-- how many requests are open, at all of so many servers together
abbrev pub open_among : ℕ → List Mark → ℕ
open_among servers history = sum (map (λ server. length (open_at server history)) (range_with_len 0 servers))

-- at most n requests are open at a server
abbrev pub HoldsAtMost : ℕ → ℕ → List Mark → Type 0
HoldsAtMost n servers history = (server : ℕ) → server < servers → length (open_at server history) ≤ n

-- a request waits only while n are open at every server
abbrev pub WaitsOnlyWhileFull : ℕ → ℕ → List Mark → Type 0
WaitsOnlyWhileFull n servers history =
    0 < length (waiting history) → (server : ℕ) → server < servers → length (open_at server history) ≡ n

-- each request that was accepted waits, is open or was answered, and each that was forwarded is open or was answered
pub record AddsUp (servers : ℕ) (history : List Mark) : Type 0 where
  pub accepted : count_by is_accept history ≡ length (waiting history) + open_among servers history + count_by is_answer history
  pub forwarded : count_by is_forward history ≡ open_among servers history + count_by is_answer history

-- so it is after any events
abbrev pub ServersHoldAtMostN : Type 0
ServersHoldAtMostN =
    (setup : RouterSetup) (events : List Event) → HoldsAtMost setup.n (length setup.servers) (history_after setup [] events)

abbrev pub RequestsWaitOnlyWhileAllAreFull : Type 0
RequestsWaitOnlyWhileAllAreFull =
    (setup : RouterSetup) (events : List Event) → WaitsOnlyWhileFull setup.n (length setup.servers) (history_after setup [] events)

abbrev pub CountsAddUp : Type 0
CountsAddUp = (setup : RouterSetup) (events : List Event) → AddsUp (length setup.servers) (history_after setup [] events)

-- a request that was open at a server is neither open nor waits, once that server has answered it: its name is a new one again
abbrev pub AnsweredRequestsAreNew : Type 0
AnsweredRequestsAreNew =
    (setup : RouterSetup) (events : List Event) (rid : Rid) (server : ℕ) → server < length setup.servers
    → list_any (same_rid rid) (open_at server (history_after setup [] events)) ≡ true
    → is_known rid (standing_of setup (history_after setup [] events ++ Answer rid server ∷ [])) ≡ false

-- what a router ignores, whatever it is
pub record IgnoresOthers (r : RouterState) : Type 0 where
  pub packets : (d : Datagram) → reads_as is_req0 (header_at d.bytes) ≡ false → reads_as is_feedback (header_at d.bytes) ≡ false → IsIgnored r (DatagramEvent d)
  pub quiet : IsIgnored r Quiet

-- bytes that are neither a request nor feedback under the policy JBSQ are ignored, and that nothing came
abbrev pub OthersAreIgnored : Type 0
OthersAreIgnored = (r : RouterState) → IgnoresOthers r

-- a tick and a wait in which nothing came change no count but that of turns; at a tick each server is sent one datagram at most,
-- and where nothing came none is sent
pub record CountsTurnsAlone (r : RouterState) : Type 0 where
  pub tick : turned r Tick ≡ counted r
  pub again : length (sent r Tick) ≤ length r.setup.servers
  pub quiet : turned r Quiet ≡ counted r
  pub silent : sent r Quiet ≡ []

-- so it is of every router
abbrev pub TicksChangeNoCount : Type 0
TicksChangeNoCount = (r : RouterState) → CountsTurnsAlone r

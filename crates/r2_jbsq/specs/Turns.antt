-- One turn of a router: what it becomes and sends, how its counts grow, and which packets make them grow.
use Rattle.std.specs.Prelude.{◌≡◌, ◌+◌, ◌<◌, ◌≤◌, true, false, List, length}
use Rattle.r2_base.specs.declared.datagram.Datagram.{Datagram}
use Rattle.r2_base.specs.declared.event.Event.{Event}
use Rattle.r2_jbsq.specs.declared.decision.Decision.TheVariants as decision
use Rattle.r2_jbsq.specs.Answer.{decision_at, sends_of}
use Rattle.r2_jbsq.specs.Packets.{answers, asks, is_tick, refusals_among, requests_among}
use Rattle.r2_jbsq.specs.State.{RouterState, turned}

-- the datagrams that a router sends at an event
unfoldable pub sent : RouterState → Event → List Datagram
sent r event = sends_of r.setup r.standing (decision_at r.setup r.standing event)

-- the router becomes what the event makes of it, and these datagrams are sent
pub record IsTurn (r : RouterState) (event : Event) (given : List Datagram) (r' : RouterState) : Type 0 where
  pub becomes : r' ≡ turned r event
  pub sends : given ≡ sent r event

-- nothing is to be done at an event: quiet, bytes that aren't a packet of the router's, a repeat of what is open or waits,
-- feedback on what isn't open there
abbrev pub IsIgnored : RouterState → Event → Type 0
IsIgnored r event = decision_at r.setup r.standing event ≡ decision.Nothing

-- each count of requests stays, or goes up by one
pub record GrowsByOne (r r' : RouterState) : Type 0 where
  pub accepted : r.accepted ≤ r'.accepted
  pub one_accepted : r'.accepted ≤ r.accepted + 1
  pub forwarded : r.forwarded ≤ r'.forwarded
  pub one_forwarded : r'.forwarded ≤ r.forwarded + 1
  pub answered : r.answered ≤ r'.answered
  pub one_answered : r'.answered ≤ r.answered + 1

-- a request is accepted only where a client makes one that isn't refused, and answered only where a server says so; one
-- datagram is sent at most, and the forwarded requests are those that are sent, but for a tick, at which each server gets at
-- most one again
pub record CountsPackets (r : RouterState) (event : Event) (given : List Datagram) (r' : RouterState) : Type 0 where
  pub asked : r.accepted < r'.accepted → asks event ≡ true
  pub taken : r.accepted < r'.accepted → refusals_among given ≡ 0
  pub answered : r.answered < r'.answered → answers r.setup.servers event ≡ true
  pub one : is_tick event ≡ false → length given ≤ 1
  pub forwarded : is_tick event ≡ false → r'.forwarded ≡ r.forwarded + requests_among given
  pub stays : is_tick event ≡ true → r'.forwarded ≡ r.forwarded
  pub repeats : is_tick event ≡ true → requests_among given ≡ length given
  pub at_most_one : is_tick event ≡ true → length given ≤ length r.setup.servers

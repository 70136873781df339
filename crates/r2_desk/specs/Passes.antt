-- What a pass counts of its turns.
use Rattle.std.specs.Prelude.{◌≡◌, ℕ, ◌+◌, ◌<◌, ◌≤◌, Bool, true, false, List, length}
use Rattle.r2_base.specs.declared.datagram.Datagram.{Datagram}
use Rattle.r2_base.specs.declared.event.Event.{Event}
use Rattle.r2_base.specs.declared.event.Event.TheVariants.{Datagram as DatagramEvent, Tick, Quiet}
use Rattle.r2_header.specs.Reading.{header_at}
use Rattle.r2_jbsq.specs.Limits.{most_servers}
use Rattle.r2_jbsq.specs.Packets.{asks, is_feedback, is_tick, reads_as, refusals_among, requests_among}
use Rattle.r2_desk.specs.States.{PassState}
use Rattle.r2_desk.specs.Turns.{TurnsSomeBook}

-- whether an event brings feedback under the policy JBSQ
abbrev pub feeds_back : Event → Bool
feeds_back (DatagramEvent d) = reads_as is_feedback (header_at d.bytes)
feeds_back Tick = false
feeds_back Quiet = false

-- a turn of a pass counts one turn, and a request as accepted only where a client makes one that isn't refused, and as answered only
-- at feedback. One datagram is sent at most, and as many requests are counted as forwarded as are sent, but for a tick, at which
-- no request is counted and each server gets at most one again
pub record CountsTurn (p : PassState) (event : Event) (sends : List Datagram) (p' : PassState) : Type 0 where
  pub turns : p'.made.turns ≡ p.made.turns + 1
  pub slots : p'.slots ≡ p.slots
  pub number : p'.number ≡ p.number
  pub seen : p.seen < p'.seen
  pub accepted : p.made.accepted ≤ p'.made.accepted
  pub one_accepted : p'.made.accepted ≤ p.made.accepted + 1
  pub asked : p.made.accepted < p'.made.accepted → asks event ≡ true
  pub taken : p.made.accepted < p'.made.accepted → refusals_among sends ≡ 0
  pub answered : p.made.answered ≤ p'.made.answered
  pub one_answered : p'.made.answered ≤ p.made.answered + 1
  pub told : p.made.answered < p'.made.answered → feeds_back event ≡ true
  pub one : is_tick event ≡ false → length sends ≤ 1
  pub forwarded : is_tick event ≡ false → p'.made.forwarded ≡ p.made.forwarded + requests_among sends
  pub stays : is_tick event ≡ true → p'.made.forwarded ≡ p.made.forwarded
  pub repeats : is_tick event ≡ true → requests_among sends ≡ length sends
  pub few : length sends ≤ most_servers

-- so it is of each turn, on whatever book
abbrev pub PassesCountTheirTurns : Type 0
PassesCountTheirTurns =
    (most number : ℕ) (p p' : PassState) (event : Event) (sends : List Datagram) → TurnsSomeBook most p event number sends p' → CountsTurn p event sends p'

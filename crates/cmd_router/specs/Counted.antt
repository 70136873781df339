-- What a pass counts over all turns of its worker.
use Rattle.std.specs.Prelude.{◌≡◌, ℕ, ◌+◌, ◌*◌, ◌≤◌, List, [], count_by, length, refl}
use Rattle.std.proofs.Common.{arith}
use Rattle.r2_base.specs.declared.datagram.Datagram.{Datagram}
use Rattle.r2_base.specs.declared.event.Event.{Event}
use Rattle.r2_jbsq.specs.Limits.{most_servers}
use Rattle.r2_jbsq.specs.Packets.{asks, is_tick, requests_among}
use Rattle.r2_desk.specs.Passes.{feeds_back}
use Rattle.r2_desk.specs.States.{PassState}

-- how many of these events bring a client's request, and how many feedback, under the policy JBSQ, and how many are ticks
abbrev pub asked_among : List Event → ℕ
asked_among events = count_by asks events

abbrev pub feedback_among : List Event → ℕ
feedback_among events = count_by feeds_back events

abbrev pub ticks_among : List Event → ℕ
ticks_among events = count_by is_tick events

-- over these events a pass counted a turn each, accepted no more than were asked, found no more answered than feedback came, and
-- forwarded as many requests as were sent, but for those that were sent again at ticks; one datagram at most was sent at each event,
-- and one more at most for each server at a tick
pub record CountsTurns (p : PassState) (events : List Event) (sends : List Datagram) (p' : PassState) : Type 0 where
  pub turns : p'.made.turns ≡ p.made.turns + length events
  pub slots : p'.slots ≡ p.slots
  pub accepted : p'.made.accepted ≤ p.made.accepted + asked_among events
  pub answered : p'.made.answered ≤ p.made.answered + feedback_among events
  pub forwarded : p'.made.forwarded ≤ p.made.forwarded + requests_among sends
  pub repeats : p.made.forwarded + requests_among sends ≤ p'.made.forwarded + most_servers * ticks_among events
  pub few : length sends ≤ length events + most_servers * ticks_among events

-- over no events nothing
pub counts_none : (p : PassState) → CountsTurns p [] [] p
counts_none p = record {
  turns = omega arith;
  slots = refl;
  accepted = omega arith;
  answered = omega arith;
  forwarded = omega arith;
  repeats = omega arith;
  few = omega arith;
}

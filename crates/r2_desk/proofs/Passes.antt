-- A pass counts what the router counts in its turn.
use Rattle.std.proofs.Common.{◌≡◌, ◌<◌, ◌+◌, ◌-◌, Bool, true, false, List, refl, ap, arith}
use Rattle.std.specs.Prelude.{◌&&◌}
use Rattle.r2_base.specs.declared.addr.Addr.{Addr}
use Rattle.r2_base.specs.declared.datagram.Datagram.{Datagram}
use Rattle.r2_base.specs.declared.event.Event.{Event}
use Rattle.r2_base.specs.declared.event.Event.TheVariants.{Datagram as DatagramEvent, Tick, Quiet}
use Rattle.r2_jbsq.specs.Packets.{answers}
use Rattle.r2_jbsq.specs.State.{RouterState}
use Rattle.r2_jbsq.specs.Turns.{CountsPackets, GrowsByOne}
use Rattle.r2_desk.specs.declared.totals.Totals.{Totals}
use Rattle.r2_desk.specs.Counts.{grown, more}
use Rattle.r2_desk.specs.Passes.{PassesCountTheirTurns, feeds_back}
use Rattle.r2_desk.specs.States.{PassState}
use Rattle.r2_desk.specs.Turns.{IsOneTurn}

and-left : (a b : Bool) → (a && b) ≡ true → a ≡ true
and-left true b e = refl
and-left false b e = cc

-- feedback of a server is feedback
feedback-told : (servers : List Addr) (event : Event) → answers servers event ≡ true → feeds_back event ≡ true
feedback-told servers (DatagramEvent d) e = and-left _ _ e
feedback-told servers Tick e = cc
feedback-told servers Quiet e = cc

-- what a pass made, where a router's counts grew so
module _ (r r' : RouterState) (event : Event) (sends : List Datagram) (made made' : Totals) (turn : IsOneTurn r event sends r') (is : made' ≡ more made (grown r r')) where
  accepted-is : made'.accepted ≡ made.accepted + (r'.accepted - r.accepted)
  accepted-is = ap (λ (t : Totals). t.accepted) is

  forwarded-is : made'.forwarded ≡ made.forwarded + (r'.forwarded - r.forwarded)
  forwarded-is = ap (λ (t : Totals). t.forwarded) is

  answered-is : made'.answered ≡ made.answered + (r'.answered - r.answered)
  answered-is = ap (λ (t : Totals). t.answered) is

pub passes-count : PassesCountTheirTurns
passes-count most number p p' event sends some =
    let r : RouterState = some.found.router in
    let r' : RouterState = some.left.router in
    let t : IsOneTurn r event sends r' = some.turn.one_turn in
    let made : p'.made ≡ more p.made (grown r r') = ap (λ (q : PassState). q.made) some.turn.pass in
    let accepted = accepted-is r r' event sends p.made p'.made t made in
    let forwarded = forwarded-is r r' event sends p.made p'.made t made in
    let answered = answered-is r r' event sends p.made p'.made t made in
    let seen : p'.seen ≡ number = ap (λ (q : PassState). q.seen) some.turn.pass in
    let above : p.seen < number = some.turn.above in
    let grows : GrowsByOne r r' = t.grows in
    let packets : CountsPackets r event sends r' = t.packets in
    record {
      turns = ap (λ (m : Totals). m.turns) made;
      slots = ap (λ (q : PassState). q.slots) some.turn.pass;
      number = ap (λ (q : PassState). q.number) some.turn.pass;
      seen = omega (arith, seen, above);
      accepted = omega (arith, accepted);
      one_accepted = omega (arith, accepted, grows.one_accepted);
      asked = λ h. packets.asked (omega (arith, h, accepted));
      taken = λ h. packets.taken (omega (arith, h, accepted));
      answered = omega (arith, answered);
      one_answered = omega (arith, answered, grows.one_answered);
      told = λ h. feedback-told r.setup.servers event (packets.answered (omega (arith, h, answered)));
      one = packets.one;
      forwarded = λ h. let same = packets.forwarded h in omega (arith, forwarded, same);
      stays = λ h. let same = packets.stays h in omega (arith, forwarded, same);
      repeats = packets.repeats;
      few = t.few;
    }

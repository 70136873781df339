use Rattle.std.proofs.Common.{◌<◌, arith, get_or, take, length}
use Rattle.cmd_simulate.specs.Courses.{Tells}
use Rattle.cmd_simulate.specs.Generator.{Course, carries, carries_all}
use Rattle.hc_world.specs.Seen.{datagrams_in}
use Rattle.cmd_simulate.proofs.Telling.{all-more, all-none, carry-goes, next-more, next-some}
use Rattle.cmd_simulate.proofs.rounds.Simulation.carry_all.Goals as goal

pub packets-init : goal.packets-init
packets-init c = record { some = c.requires.some; more = omega arith; told = λ x tells. rw (all-none c.args.plan.now x) tells }

pub packets-preserved : goal.packets-preserved
packets-preserved c =
    let plan = c.args.plan.now in
    let packets = c.args.packets.now in
    let i = c.packets.packet-index in
    let inv = c.packets.invariant in
    let packet = get_or packets i 0 in
    let inside = c.packets-test.true in
    let below = c.requires.sent i 0 inside in
    let more = inv.more in
    let sent : packet < length (datagrams_in c.packets.self.world) = omega (arith, below, more) in
    let goes = carry-goes plan packet c.packets.self.world c.packets.self.flight.items c.packets.self.lots sent in
    let told : (y : Course) → Tells plan y c.packets.self.world c.packets.self.flight.items c.packets.self.lots
    → Tells plan (carries plan y packet) c.carry.new.self.world c.carry.new.self.flight.items c.carry.new.self.lots
    = λ y tells. c.in_ok-carry.ensures.told y tells in
    let carried : Course → Course = λ y. carries plan y packet in
    let next = next-more plan carried _ _ _ c.carry.new.self.world c.carry.new.self.flight.items c.carry.new.self.lots inv.some goes told in
    record {
      some = next-some plan carried _ _ _ _ _ _ inv.some goes told;
      more = omega (arith, more, next);
      told = λ x tells. rw (all-more plan packets i 0 x inside) (told (carries_all plan (take i packets) x) (inv.told x tells));
    }

use Rattle.std.proofs.Common.{◌≤◌, length, take}
use Rattle.hc_world.specs.Seen.{datagrams_in}
use Rattle.cmd_simulate.specs.Courses.{Tells, TellsSome}
use Rattle.cmd_simulate.specs.Generator.{Course, carries_all}
use Rattle.cmd_simulate.proofs.rounds.Simulation.carry_all.Given as goal

abbrev pub invariant-packets : goal.invariant-packets
invariant-packets l = record {
  some : TellsSome l.plan l.self.world l.self.flight.items l.self.lots;
  more : length (datagrams_in l.initial.self.world) ≤ length (datagrams_in l.self.world);
  told : (x : Course) → Tells l.plan x l.initial.self.world l.initial.self.flight.items l.initial.self.lots
      → Tells l.plan (carries_all l.plan (take l.packet-index l.packets) x) l.self.world l.self.flight.items l.self.lots;
}

use Rattle.std.specs.Prelude.{fold}
use Rattle.std.specs.List.{range_with_len}
use Rattle.cmd_simulate.specs.Courses.{Tells, TellsSome}
use Rattle.cmd_simulate.specs.Generator.{Course, ticks}
use Rattle.cmd_simulate.proofs.rounds.Simulation.tick_all.Given as goal

abbrev pub invariant-members : goal.invariant-members
invariant-members l = record {
  some : TellsSome l.plan l.self.world l.self.flight.items l.self.lots;
  told : (x : Course) → Tells l.plan x l.initial.self.world l.initial.self.flight.items l.initial.self.lots
      → Tells l.plan (fold (ticks l.plan) x (range_with_len 0 l.member)) l.self.world l.self.flight.items l.self.lots;
}

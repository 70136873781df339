use Rattle.std.proofs.Common.{◌≡◌, ◌++◌, ◌≤◌, ◌-◌, max}
use Rattle.std.specs.List.{range_with_len}
use Rattle.cmd_simulate.proofs.rounds.enter.Given as goal

abbrev pub invariant-sent : goal.invariant-sent
invariant-sent l = record {
  begun : l.from ≤ l.number;
  within : l.number ≤ max l.from l.to;
  entered : l.flight.items ≡ l.initial.flight.items ++ range_with_len l.from (l.number - l.from);
}

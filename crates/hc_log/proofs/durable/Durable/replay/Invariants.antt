use Rattle.std.proofs.Common.{◌≡◌, true, take}
use Rattle.hc_log.specs.Durable.{replay, IsHistory}
use Rattle.hc_log.proofs.durable.Durable.replay.Given as goal

abbrev pub invariant-records : goal.invariant-records
invariant-records l = record {
  state : l.durable.state ≡ replay (take l.r-index l.records);
  whole : l.durable.whole ≡ true;
  history : IsHistory (take l.r-index l.records);
}

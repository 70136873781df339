use Rattle.std.proofs.Common.{sym, ap, ◌∙◌}
use Rattle.hc_log.specs.Durable.{replay}
use Rattle.hc_log.proofs.Replays.{replay_none}
use Rattle.cmd_replica.proofs.tests.run.Goals as goal

pub serve_replica-status-requires-clause-recorded : goal.serve_replica-status-requires-clause-recorded
serve_replica-status-requires-clause-recorded c κs = ap replay c.new-journal.ensures.records ∙ replay_none ∙ sym c.begin.ensures.state

use Rattle.std.proofs.Common.{ap, ◌∙◌}
use Rattle.hc_log.specs.Durable.{replay}
use Rattle.hc_log.proofs.Replays.{replay_none}
use Rattle.cmd_loop.proofs.tests.run.Goals as goal

pub serve-status-requires-clause-recorded : goal.serve-status-requires-clause-recorded
serve-status-requires-clause-recorded c = ap replay c.new-journal.ensures.records ∙ replay_none

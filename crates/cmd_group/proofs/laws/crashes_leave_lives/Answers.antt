use Rattle.cmd_group.proofs.Crashes.{crashes_leave_lives as lemma}
use Rattle.cmd_group.proofs.laws.crashes_leave_lives.Goals as goal

pub returns : goal.returns
returns c = lemma

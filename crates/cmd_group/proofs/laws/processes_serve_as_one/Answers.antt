use Rattle.cmd_group.proofs.Processes.{processes_serve_as_one as lemma}
use Rattle.cmd_group.proofs.laws.processes_serve_as_one.Goals as goal

pub returns : goal.returns
returns c = lemma

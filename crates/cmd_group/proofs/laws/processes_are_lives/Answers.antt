use Rattle.cmd_group.proofs.Processes.{processes_are_lives as lemma}
use Rattle.cmd_group.proofs.laws.processes_are_lives.Goals as goal

pub returns : goal.returns
returns c = lemma

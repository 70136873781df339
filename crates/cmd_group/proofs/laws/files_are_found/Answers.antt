use Rattle.cmd_group.proofs.Processes.{files_are_found as lemma}
use Rattle.cmd_group.proofs.laws.files_are_found.Goals as goal

pub returns : goal.returns
returns c = lemma

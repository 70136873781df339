use Rattle.cmd_group.proofs.Processes.{keep_files as lemma}
use Rattle.cmd_group.proofs.laws.disks_keep_files.Goals as goal

pub returns : goal.returns
returns c = lemma

use Rattle.cmd_group.proofs.Processes.{the_recovered_is_the_left as lemma}
use Rattle.cmd_group.proofs.laws.the_recovered_is_the_left.Goals as goal

pub returns : goal.returns
returns c = lemma

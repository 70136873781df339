use Rattle.cmd_group.proofs.ClientAnswers.{clients_ask_their_group}
use Rattle.cmd_group.proofs.laws.clients_ask_their_group.Goals as goal

pub returns : goal.returns
returns c = clients_ask_their_group

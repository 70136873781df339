use Rattle.cmd_group.proofs.Requests.{clients_may_ask}
use Rattle.cmd_group.proofs.laws.clients_may_ask.Goals as goal

pub returns : goal.returns
returns c = clients_may_ask

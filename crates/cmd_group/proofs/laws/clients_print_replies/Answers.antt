use Rattle.cmd_group.proofs.ClientAnswers.{clients_print_replies}
use Rattle.cmd_group.proofs.laws.clients_print_replies.Goals as goal

pub returns : goal.returns
returns c = clients_print_replies

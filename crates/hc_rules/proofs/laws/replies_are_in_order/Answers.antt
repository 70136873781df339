use Rattle.hc_rules.proofs.Answers.{replies_are_in_order}
use Rattle.hc_rules.proofs.laws.replies_are_in_order.Goals as goal

pub returns : goal.returns
returns c = replies_are_in_order

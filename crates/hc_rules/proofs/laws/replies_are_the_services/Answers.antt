use Rattle.hc_rules.proofs.Answers.{replies_are_the_services}
use Rattle.hc_rules.proofs.laws.replies_are_the_services.Goals as goal

pub returns : goal.returns
returns c = replies_are_the_services

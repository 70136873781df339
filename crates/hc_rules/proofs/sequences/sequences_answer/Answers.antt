use Rattle.hc_rules.proofs.RuleLists.{rules_answer}
use Rattle.hc_rules.proofs.sequences.sequences_answer.Goals as goal

pub returns : goal.returns
returns c = rules_answer

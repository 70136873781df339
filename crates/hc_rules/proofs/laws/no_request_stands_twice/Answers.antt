use Rattle.hc_rules.specs.Runs.{state_after}
use Rattle.hc_rules.proofs.Answers.{runs_keep}
use Rattle.hc_rules.proofs.Agreement.{none_twice}
use Rattle.hc_rules.proofs.laws.no_request_stands_twice.Goals as goal

pub returns : goal.returns
returns c = λ members bounds rules r. none_twice (state_after members bounds rules) (runs_keep members bounds rules r)

use Rattle.hc_aggregate.proofs.Reached.{commits_are_reached}
use Rattle.hc_aggregate.proofs.laws.commits_are_reached.Goals as goal

pub returns : goal.returns
returns c = commits_are_reached

use Rattle.hc_aggregate.proofs.Shown.{commits_were_shown}
use Rattle.hc_aggregate.proofs.laws.commits_were_shown.Goals as goal

pub returns : goal.returns
returns c = commits_were_shown

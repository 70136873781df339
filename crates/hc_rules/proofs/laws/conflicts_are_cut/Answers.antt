use Rattle.hc_rules.proofs.Examples.{conflicts_are_cut}
use Rattle.hc_rules.proofs.laws.conflicts_are_cut.Goals as goal

pub returns : goal.returns
returns c = conflicts_are_cut

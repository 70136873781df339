use Rattle.hc_world.proofs.Facts.{counts_are_of_facts}
use Rattle.hc_world.proofs.laws.counts_are_of_facts.Goals as goal

pub returns : goal.returns
returns c = counts_are_of_facts

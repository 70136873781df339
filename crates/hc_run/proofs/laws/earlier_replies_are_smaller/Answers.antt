use Rattle.hc_run.proofs.Staying.{earlier_replies_are_smaller}
use Rattle.hc_run.proofs.laws.earlier_replies_are_smaller.Goals as goal

pub returns : goal.returns
returns c = earlier_replies_are_smaller

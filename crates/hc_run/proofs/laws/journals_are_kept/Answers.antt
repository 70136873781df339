use Rattle.hc_run.proofs.Journals.{journals_are_kept}
use Rattle.hc_run.proofs.laws.journals_are_kept.Goals as goal

pub returns : goal.returns
returns c = journals_are_kept

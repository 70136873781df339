use Rattle.hc_run.proofs.Staying.{replies_have_places}
use Rattle.hc_run.proofs.laws.replies_have_places.Goals as goal

pub returns : goal.returns
returns c = replies_have_places

use Rattle.hc_world.proofs.OneThread.{groups_serve_throughout}
use Rattle.hc_world.proofs.laws.groups_serve_throughout.Goals as goal

pub returns : goal.returns
returns c = groups_serve_throughout

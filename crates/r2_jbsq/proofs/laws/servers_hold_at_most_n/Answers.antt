use Rattle.r2_jbsq.proofs.Runs.{hold-most}
use Rattle.r2_jbsq.proofs.laws.servers_hold_at_most_n.Goals as goal

pub returns : goal.returns
returns c = hold-most

use Rattle.cmd_group.proofs.Loops.{loops_serve_as_one}
use Rattle.cmd_group.proofs.laws.loops_serve_as_one.Goals as goal

pub returns : goal.returns
returns c = loops_serve_as_one

use Rattle.cmd_group.proofs.LoopLives.{loops_are_lives}
use Rattle.cmd_group.proofs.laws.loops_are_lives.Goals as goal

pub returns : goal.returns
returns c = loops_are_lives

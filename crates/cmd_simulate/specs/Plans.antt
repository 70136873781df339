-- Plans that may be simulated.
use Rattle.std.specs.Prelude.{◌≡◌, ◌≤◌, length}
use Rattle.hc_replier.specs.Bounds.{AreBounds, most_members}
use Rattle.cmd_simulate.specs.declared.plan.Plan.{Plan}

-- a plan within its limits
pub record IsPlan (plan : Plan) : Type 0 where
  pub some : 1 ≤ plan.members
  pub few : plan.members ≤ most_members
  pub requests : plan.requests ≤ 60000
  pub loss : plan.loss ≤ 90
  pub repeat : plan.repeat ≤ 90
  pub crash : plan.crash ≤ 500
  pub bounds : AreBounds plan.bounds
  pub each : length plan.bounds ≡ plan.members

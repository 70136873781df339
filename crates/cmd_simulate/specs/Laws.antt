-- What holds of every simulation.
use Rattle.hc_run.specs.Runs.{IsRun}
use Rattle.hc_world.specs.Events.{events_of}
use Rattle.hc_world.specs.Runs.{ServesThroughout}
use Rattle.cmd_simulate.specs.declared.plan.Plan.{Plan}
use Rattle.cmd_simulate.specs.Generator.{generated, group_of}
use Rattle.cmd_simulate.specs.Plans.{IsPlan}

-- all that happens in it is possible where it happens
abbrev pub SimulationsAreRuns : Type 0
SimulationsAreRuns = (plan : Plan) → IsPlan plan → IsRun (group_of plan) (events_of 0 (generated plan))

-- at each moment of it the group serves as one thread
abbrev pub SimulationsServeAsOne : Type 0
SimulationsServeAsOne = (plan : Plan) → IsPlan plan → ServesThroughout (group_of plan) (generated plan)

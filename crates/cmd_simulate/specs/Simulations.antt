-- What is written of a simulation, by how it ended.
use Rattle.std.specs.Prelude.{◌≡◌, ℕ, List, Option}
use Rattle.std.specs.Io.KnownBytes.{Appends}
use Rattle.r2_link.specs.Streams.{AppendsPrefix}
use Rattle.cmd_status.specs.declared.status.Status.{Status}
use Rattle.cmd_status.specs.declared.status.Status.TheVariants.{Done, Memory, SinkFault}
use Rattle.hc_world.specs.declared.counts.Counts.{Counts}
use Rattle.hc_world.specs.Runs.{run_of}
use Rattle.hc_world.specs.Seen.{counts_of, seen}
use Rattle.cmd_simulate.specs.declared.plan.Plan.{Plan}
use Rattle.cmd_simulate.specs.Generator.{generated, group_of}
use Rattle.cmd_simulate.specs.Lines.{summary}

-- what is counted in a plan's group after all that happens
abbrev pub counted : Plan → Counts
counted plan = counts_of (seen (group_of plan) (run_of (group_of plan) (generated plan)))

-- the lines of a plan
abbrev pub summary_of : Plan → List ℕ
summary_of plan = summary plan.seed (counted plan)

-- all of them were written; or a prefix of them, where the sink failed; or nothing, where memory ran out
abbrev pub Simulates : Plan → Option (List ℕ) → Option (List ℕ) → Status → Type 0
Simulates plan written written' Done = Appends written written' (summary_of plan)
Simulates plan written written' SinkFault = AppendsPrefix written written' (summary_of plan)
Simulates plan written written' Memory = written' ≡ written
Simulates plan written written' _ = ⊥

-- how a simulation ends whose sink doesn't fail
abbrev pub IsSimulationEnd : Status → Type 0
IsSimulationEnd Done = Unit {0}
IsSimulationEnd Memory = Unit {0}
IsSimulationEnd _ = ⊥

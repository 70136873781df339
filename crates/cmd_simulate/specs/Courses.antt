-- Simulations that go on.
use Rattle.std.specs.Prelude.{◌≡◌, ℕ, ◌<◌, ◌≤◌, true, List, length, Option, Some, All}
use Rattle.rand_pcg.specs.Lcg.{Lcg}
use Rattle.hc_world.specs.Runs.{ShowsRun}
use Rattle.hc_world.specs.Seen.{Seen, is_up}
use Rattle.cmd_simulate.specs.declared.plan.Plan.{Plan}
use Rattle.cmd_simulate.specs.Generator.{Course, group_of, packets}

-- what happened in a simulation is a run, after which all members are up, so many requests were sent, and what is in flight was sent
pub record IsCourse (plan : Plan) (number : ℕ) (x : Course) : Type 0 where
  pub world : Seen
  pub shows : ShowsRun (group_of plan) x.events (Some world)
  pub up : (v : ℕ) → v < plan.members → is_up world v ≡ true
  pub requests : world.requests ≡ number
  pub flight : All (λ packet. packet < length (packets (group_of plan) x.events)) x.flight

-- it went on, and all packets that were sent before still are
pub record GoesOn (plan : Plan) (number : ℕ) (x y : Course) : Type 0 where
  pub is : IsCourse plan number y
  pub more : length (packets (group_of plan) x.events) ≤ length (packets (group_of plan) y.events)

-- a world, a flight and lots are those of a simulation
pub record Tells (plan : Plan) (x : Course) (world : Option Seen) (flight : List ℕ) (lots : Lcg) : Type 0 where
  pub shows : ShowsRun (group_of plan) x.events world
  pub flight_is : flight ≡ x.flight
  pub lots_are : lots ≡ x.lots

-- they are those of some simulation that goes on, in which so many requests were sent
pub record TellsAt (plan : Plan) (number : ℕ) (world : Option Seen) (flight : List ℕ) (lots : Lcg) : Type 0 where
  pub course : Course
  pub is : IsCourse plan number course
  pub tells : Tells plan course world flight lots

-- or some number of requests
pub record TellsSome (plan : Plan) (world : Option Seen) (flight : List ℕ) (lots : Lcg) : Type 0 where
  pub number : ℕ
  pub at : TellsAt plan number world flight lots

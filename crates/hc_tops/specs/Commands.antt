-- The commands: what each uses, where it listens, and what it does.
use Rattle.std.specs.Prelude.{◌≡◌, ◌≢◌, ◌⊎◌, ℕ, ◌+◌, ◌*◌, ◌≤◌, Bool, true, false, List, length, All, AllPairs, Option, Some, None}
use Rattle.r2_base.specs.Limits.{greatest_member, most_turns}
use Rattle.r2_base.specs.declared.addr.Addr.{Addr}
use Rattle.r2_jbsq.specs.Limits.{greatest_n, most_servers}
use Rattle.r2_desk.specs.Limits.{most_workers}
use Rattle.r2_link.specs.Faults.{Faults, NoneFalls, Rose}
use Rattle.r2_link.specs.Links.{LinkTold}
use Rattle.hc_disk.specs.Disk.{Moments}
use Rattle.hc_text.specs.declared.meant.Meant.{Meant}
use Rattle.cmd_script.specs.declared.text_fault.TextFault.{TextFault}
use Rattle.cmd_script.specs.declared.text_fault.TextFault.TheVariants as fault
use Rattle.hc_text.specs.declared.meant.Meant.TheVariants.{Replica, Router, Aggregator, Server, Client, Replay, Simulate}
use Rattle.cmd_status.specs.declared.status.Status.{Status}
use Rattle.cmd_status.specs.declared.status.Status.TheVariants.{BadWords, Memory}
use Rattle.cmd_status.specs.Causes.{IsCaused}
use Rattle.cmd_loop.specs.declared.pace.Pace.{Pace}
use Rattle.cmd_loop.specs.Bound.{CantBegin, IsBound}
use Rattle.cmd_loop.specs.Ends.{Ends, Passes, nothing}
use Rattle.cmd_loop.specs.Loop.{IsServed, Serves}
use Rattle.cmd_loop.specs.Plain.{Unstored}
use Rattle.cmd_server.specs.Plain.{PlainSends}
use Rattle.cmd_router.specs.Routes.{Routes}
use Rattle.cmd_router.specs.Shares.{Shares}
use Rattle.cmd_aggregator.specs.Aggregates.{AggregatorSends}
use Rattle.cmd_aggregator.specs.Untimed.{ServesUntimed}
use Rattle.cmd_replica.specs.Command.{IsReplicaEnd, RunsReplica}
use Rattle.cmd_client.specs.Calls.{Calls, IsCalled}
use Rattle.cmd_client.specs.Script.{IsScript as IsCallScript}
use Rattle.cmd_replay.specs.Grammar.{IsScript}
use Rattle.cmd_replay.specs.Replay.{IsComplete, IsReplay}
use Rattle.hc_world.specs.Runs.{ServesThroughout}
use Rattle.cmd_simulate.specs.declared.plan.Plan.{Plan}
use Rattle.cmd_simulate.specs.Generator.{generated, group_of}
use Rattle.cmd_simulate.specs.Plans.{IsPlan}
use Rattle.cmd_simulate.specs.Simulations.{IsSimulationEnd, Simulates}
use Rattle.hc_member.specs.Setup.{IsSetup}

-- what all objects of the outside tell: the ends of a command, and a disk what it held at each moment, where it reports that
pub record Outside : Type 0 where
  pub ends : Ends
  pub disk : Option Moments

-- what a source, a sink, a link, a clock and a disk tell, where there is no journal
abbrev pub outside : Option (List ℕ) → Option (List ℕ) → LinkTold → Option (List ℕ) → Option Moments → Outside
outside source written link clock disk = record {
  ends = record { source = source; written = written; link = link; clock = clock; records = None };
  disk = disk;
}

-- and how often each of them has failed
abbrev pub fault_counts : ℕ → ℕ → ℕ → ℕ → ℕ → Faults
fault_counts source sink link clock disk = record { source = source; sink = sink; link = link; clock = clock; disk = disk }

-- which objects of the outside a command uses
pub record Uses : Type 0 where
  pub source : Bool
  pub sink : Bool
  pub link : Bool
  pub clock : Bool
  pub disk : Bool

-- none of the objects that a command uses failed
pub record IsCalm (uses : Uses) (old new : Faults) : Type 0 where
  pub source : uses.source ≡ true → Rose old.source new.source → ⊥
  pub sink : uses.sink ≡ true → Rose old.sink new.sink → ⊥
  pub link : uses.link ≡ true → Rose old.link new.link → ⊥
  pub clock : uses.clock ≡ true → Rose old.clock new.clock → ⊥
  pub disk : uses.disk ≡ true → Rose old.disk new.disk → ⊥

-- a command: what it uses, the address at which its link is bound before all else, where it is; whether it needs no twin of the link
-- and no disk and serves nobody; whether its numbers are within the limits of the call that runs it; what it does, and how it ends where nothing failed
pub record Row : Type 1 where
  pub uses : Uses
  pub listens : Option Addr
  pub is_plain : Type 0
  pub is_within : Type 0
  pub runs : Outside → Outside → Status → Type 0
  pub ends_well : Option (List ℕ) → Status → Type 0

-- one worker routes exactly as a router does; several share one
pub record RunsRouter (listen : Addr) (servers : List Addr) (n workers : ℕ) (pace : Pace) (old new : Ends) (status : Status) : Type 0 where
  pub alone : workers ≡ 1 → Routes (record { me = listen; servers = servers; n = n }) pace old new status
  pub shared : 2 ≤ workers → Shares (length servers * n) workers pace old new status

-- a simulation of a plan, what was written of it, and the group that was simulated: at each moment of the run the group serves as one thread
pub record SimulatesGroup (plan : Plan) (written written' : Option (List ℕ)) (status : Status) : Type 0 where
  pub printed : Simulates plan written written' status
  pub serves : ServesThroughout (group_of plan) (generated plan)

abbrev pub row : Meant → Row
row (Replica members me journal aggregator bounds election tick_ms turns) = record {
  uses = record { source = false; sink = false; link = true; clock = true; disk = true };
  listens = None;
  is_plain = ⊥;
  is_within = IsSetup (record { members = members; me = me; aggregator = aggregator; bounds = bounds; election = election }) × (1 ≤ tick_ms) × (turns ≤ most_turns);
  runs = λ old new status.
      RunsReplica journal (record { members = members; me = me; aggregator = aggregator; bounds = bounds; election = election }) (record { tick_ms = tick_ms; turns = turns })
      old.disk new.disk old.ends new.ends status;
  ends_well = λ script status. IsReplicaEnd status;
}
row (Router listen servers n workers tick_ms turns) = record {
  uses = record { source = false; sink = true; link = true; clock = true; disk = false };
  listens = Some listen;
  is_plain = ⊥;
  is_within = (1 ≤ length servers) × (length servers ≤ most_servers) × (1 ≤ n) × (n ≤ greatest_n) × (1 ≤ workers) × (workers ≤ most_workers) × (1 ≤ tick_ms) × (turns ≤ most_turns);
  runs = λ old new status. RunsRouter listen servers n workers (record { tick_ms = tick_ms; turns = turns }) old.ends new.ends status;
  ends_well = λ script status. IsServed status;
}
row (Aggregator listen members turns) = record {
  uses = record { source = false; sink = false; link = true; clock = false; disk = false };
  listens = Some listen;
  is_plain = ⊥;
  is_within = (1 ≤ length members) × (length members ≤ greatest_member + 1) × AllPairs (λ a b. a ≢ b) members × All (λ member. member ≢ listen) members × (turns ≤ most_turns);
  runs = λ old new status. ServesUntimed (AggregatorSends listen members) turns old.ends.link new.ends.link status;
  ends_well = λ script status. IsServed status;
}
row (Server listen router tick_ms turns) = record {
  uses = record { source = false; sink = false; link = true; clock = true; disk = false };
  listens = Some listen;
  is_plain = ⊥;
  is_within = (1 ≤ tick_ms) × (turns ≤ most_turns);
  runs = λ old new status.
      Serves (Unstored (PlainSends listen router)) (Unstored (PlainSends listen router)) (Unstored (PlainSends listen router)) (record { tick_ms = tick_ms; turns = turns }) old.ends new.ends status;
  ends_well = λ script status. IsServed status;
}
row (Client listen to policy wait tries tick_ms turns) = record {
  uses = record { source = true; sink = true; link = true; clock = true; disk = false };
  listens = Some listen;
  is_plain = Unit {0};
  is_within = (1 ≤ length to) × (length to ≤ 7) × (1 ≤ wait) × (1 ≤ tries) × (1 ≤ tick_ms);
  runs = λ old new status.
      Calls (record { listen = listen; to = to; policy = policy; wait = wait; tries = tries }) (record { tick_ms = tick_ms; turns = turns }) old.ends new.ends status;
  ends_well = λ told status. (script : List ℕ) → told ≡ Some script → IsCallScript script → IsCalled status;
}
row (Replay members me aggregator bounds election) = record {
  uses = record { source = true; sink = true; link = false; clock = false; disk = false };
  listens = None;
  is_plain = Unit {0};
  is_within = IsSetup (record { members = members; me = me; aggregator = aggregator; bounds = bounds; election = election });
  runs = λ old new status.
      IsReplay (record { members = members; me = me; aggregator = aggregator; bounds = bounds; election = election }) old.ends.source new.ends.source old.ends.written new.ends.written status;
  ends_well = λ told status. (script : List ℕ) → told ≡ Some script → IsScript script → IsComplete status;
}
row (Simulate seed members requests loss repeat crash bounds aggregator) = record {
  uses = record { source = false; sink = true; link = false; clock = false; disk = false };
  listens = None;
  is_plain = Unit {0};
  is_within = IsPlan (record { seed = seed; members = members; requests = requests; loss = loss; repeat = repeat; crash = crash; bounds = bounds; aggregator = aggregator });
  runs = λ old new status.
      SimulatesGroup (record { seed = seed; members = members; requests = requests; loss = loss; repeat = repeat; crash = crash; bounds = bounds; aggregator = aggregator })
      old.ends.written new.ends.written status;
  ends_well = λ script status. IsSimulationEnd status;
}

-- a command couldn't begin, and nothing was done; or its link was bound first, where it is, and then it ran so
abbrev pub Does : Row → Outside → Outside → Status → Type 0
Does r old new status =
    (CantBegin r.listens status × Passes old.ends new.ends nothing × (new.disk ≡ old.disk))
    ⊎ ((between : LinkTold) × IsBound r.listens old.ends.link between × r.runs (record old { ends = record old.ends { link = between } }) new status)

-- what is refused: words that mean nothing, if they could be read at all
abbrev pub IsRefusal : Status → Type 0
IsRefusal BadWords = Unit {0}
IsRefusal Memory = Unit {0}
IsRefusal _ = ⊥

-- how a run ends whose words couldn't be read
abbrev pub refusal_of : TextFault → Status
refusal_of fault.Outside = BadWords
refusal_of fault.Memory = Memory

-- words that may mean these commands ran so: they were refused where they mean none, and else the command ran that they mean
pub record Ran (M : Meant → Type 0) (old new : Outside) (before after : Faults) (status : Status) : Type 0 where
  pub refused : status ≡ BadWords → (m : Meant) → M m → ⊥
  pub only_refused : ((m : Meant) → M m → ⊥) → IsRefusal status
  pub did : (m : Meant) → M m → Does (row m) old new status
  pub well : (m : Meant) → M m → IsCalm (row m).uses before after → (row m).ends_well old.ends.source status
  pub caused : IsCaused before after status
  pub steady : NoneFalls before after

-- no command that is meant uses this object
abbrev pub Spares : (Meant → Type 0) → (Uses → Bool) → Type 0
Spares M pick = (m : Meant) → M m → pick (row m).uses ≡ false

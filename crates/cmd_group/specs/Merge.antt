-- The loops of a group together: a merge of their turns and of the clients' first sendings, in which nobody takes in what wasn't sent
-- to it.
use Rattle.std.specs.Prelude.{◌≡◌, ℕ, ◌<◌, List, [], ◌∷◌, ◌++◌, fold, length, replicate, slice_get, slice_index_or, slice_set, Option, Some, IfSome}
use Rattle.r2_base.specs.declared.addr.Addr.{Addr}
use Rattle.r2_base.specs.declared.datagram.Datagram.{Datagram}
use Rattle.r2_base.specs.declared.event.Event.{Event}
use Rattle.r2_base.specs.declared.event.Event.TheVariants as event
use Rattle.hc_aggregate.specs.Tally.{Tally, no_tally}
use Rattle.hc_aggregate.specs.Turn.{AggregatorState, sent, turned as aggregator_turned}
use Rattle.hc_rules.specs.Log.{In}
use Rattle.hc_rules.specs.Message.{Request}
use Rattle.hc_run.specs.Group.{Group, IsGroup, setup_of}
use Rattle.hc_run.specs.State.{GroupState, Replica, stopped}
use Rattle.hc_run.specs.Events.{GroupEvent, IsNew}
use Rattle.hc_run.specs.Runs.{IsRun, run}
use Rattle.hc_run.specs.Staying.{IsExtendedTo}
use Rattle.hc_run.specs.Steps.{request_parts}
use Rattle.cmd_group.specs.Steps.{Act, Step, Asks, Acts, Aggregates, BeginsAnew}
use Rattle.cmd_group.specs.Members.{AreFirst, MayBy, event_of, place_after, sends_by}

-- The state --

-- the loops of a group: for each member the records in its journal, and what its loop runs where it has one; what the aggregator
-- counts; all datagrams that were sent; and the requests of clients, in the order of their first sending
pub record Loops : Type 0 where
  pub replicas : List Replica
  pub tally : Tally
  pub sent : List Datagram
  pub table : List Request

-- before any loop begins: the journals are empty
abbrev pub begun : Group → Loops
begun g =
    record {
      replicas = replicate (length g.members) (stopped []);
      tally = no_tally (length g.members);
      sent = [];
      table = [];
    }

-- a member's place
abbrev pub place_at : Loops → ℕ → Replica
place_at s v = slice_index_or s.replicas v (stopped [])

-- the aggregator at an address
abbrev pub aggregator_at : Group → Addr → Tally → AggregatorState
aggregator_at g me tally = record { me = me; members = g.members; tally = tally }

-- the loops after a step
abbrev pub after_step : Group → Loops → Step → Loops
after_step g s (Asks q) = record s { sent = s.sent ++ request_parts g q; table = s.table ++ q ∷ [] }
after_step g s (Acts v act) =
    let place = place_at s v in
    record s {
      replicas = slice_set s.replicas v (place_after (setup_of g v) place act);
      sent = s.sent ++ sends_by (setup_of g v) place.member act;
    }
after_step g s (Aggregates me e sent) =
    record s { tally = (aggregator_turned (aggregator_at g me s.tally) e).tally; sent = s.sent ++ sent }
after_step g s (BeginsAnew me) = record s { tally = no_tally (length g.members) }

-- and after steps
abbrev pub after_steps : Group → Loops → List Step → Loops
after_steps g s steps = fold (after_step g) s steps

-- the loops of a group after steps from the beginning on
abbrev pub loops_after : Group → List Step → Loops
loops_after g steps = after_steps g (begun g) steps

-- Merges --

-- what is taken in at an address: a datagram stands among those that were sent to that address. A tick goes by at any time, and at any
-- time nothing comes
abbrev pub IsTakenIn : List Datagram → Option Addr → Event → Type 0
IsTakenIn sent at (event.Datagram d) = In d sent × (at ≡ Some d.to)
IsTakenIn sent at event.Tick = Unit {0}
IsTakenIn sent at event.Quiet = Unit {0}

-- member v of the group takes in what was sent to it
pub record TakesIn (g : Group) (s : Loops) (v : ℕ) (act : Act) : Type 0 where
  pub inside : v < length g.members
  pub taken : IfSome (event_of act) (λ e. IsTakenIn s.sent (slice_get g.members v) e)

-- the aggregator of the group takes in what was sent to it
pub record MayAggregate (g : Group) (s : Loops) (me : Addr) (e : Event) : Type 0 where
  pub is : g.aggregator ≡ Some me
  pub taken : IsTakenIn s.sent (Some me) e

-- a step may come next, as far as it depends on what was sent before
abbrev pub MayCome : Group → Loops → Step → Type 0
MayCome g s (Asks q) = IsNew s.table q
MayCome g s (Acts v act) = TakesIn g s v act
MayCome g s (Aggregates me e goes) = MayAggregate g s me e
MayCome g s (BeginsAnew me) = g.aggregator ≡ Some me

-- and as far as it depends on the party that its loop runs
abbrev pub MayDo : Group → Loops → Step → Type 0
MayDo g s (Acts v act) = MayBy (setup_of g v) (place_at s v).member act
MayDo g s (Aggregates me e goes) = AreFirst goes (sent (aggregator_at g me s.tally) e)
MayDo g s _ = Unit {0}

-- each of the steps may come where it comes
abbrev pub MayFollow : Group → Loops → List Step → Type 0
MayFollow g s [] = Unit {0}
MayFollow g s (step ∷ more) = MayCome g s step × MayDo g s step × MayFollow g (after_step g s step) more

-- the steps of loops and clients, merged into one list
pub record IsMerge (g : Group) (steps : List Step) : Type 0 where
  pub may : MayFollow g (begun g) steps

-- Runs --

-- what is seen of loops in a group that runs: the journals and the members are its own, so are the aggregator's counts and the
-- requests, and all that was sent is among its datagrams
pub record IsSeenIn (t : GroupState) (s : Loops) : Type 0 where
  pub replicas : s.replicas ≡ t.replicas
  pub tally : s.tally ≡ t.tally
  pub table : s.table ≡ t.table
  pub sent : (d : Datagram) → In d s.sent → In d t.datagrams

-- a moment of a run at which loops are seen in it: after its earlier events, from which it goes on by the later ones
pub record IsSeenAt (g : Group) (events : List GroupEvent) (s : Loops) : Type 0 where
  pub earlier : List GroupEvent
  pub later : List GroupEvent
  pub split : earlier ++ later ≡ events
  pub seen : IsSeenIn (run g earlier) s

-- loops are seen so after each earlier part of their steps
abbrev pub AreSeenEarlier : Group → List Step → List GroupEvent → Type 0
AreSeenEarlier g steps events = (before after : List Step) → before ++ after ≡ steps → IsSeenAt g events (loops_after g before)

-- and after more of the steps at the same moment or a later one
abbrev pub AreSeenInTurn : (g : Group) (steps : List Step) (events : List GroupEvent) → AreSeenEarlier g steps events → Type 0
AreSeenInTurn g steps events earlier =
    (before more after : List Step) (first : before ++ (more ++ after) ≡ steps) (second : (before ++ more) ++ after ≡ steps)
    → IsExtendedTo (earlier before (more ++ after) first).earlier (earlier (before ++ more) after second).earlier

-- a run of the group in which its loops are seen after these steps, and earlier after each earlier part of them
pub record HasRun (g : Group) (steps : List Step) : Type 0 where
  pub events : List GroupEvent
  pub is : IsRun g events
  pub seen : IsSeenIn (run g events) (loops_after g steps)
  pub earlier : AreSeenEarlier g steps events
  pub in_turn : AreSeenInTurn g steps events earlier

-- so it is with each merge of the loops of a group
abbrev pub MergesAreRuns : Type 0
MergesAreRuns = (g : Group) (steps : List Step) → IsGroup g → IsMerge g steps → HasRun g steps

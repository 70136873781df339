-- What holds of what is seen, in every run.
use Rattle.std.specs.Prelude.{◌≡◌, ◌↔◌, ℕ, Bool, true, List, length, map, count_by}
use Rattle.std.specs.List.{list_any}
use Rattle.r2_base.specs.declared.rid.Rid.{Rid}
use Rattle.r2_base.specs.Names.{same_rid}
use Rattle.hc_rules.specs.Log.{In}
use Rattle.hc_rules.specs.Message.{Reply, Request}
use Rattle.hc_run.specs.Events.{GroupEvent}
use Rattle.hc_run.specs.Group.{Group, IsGroup}
use Rattle.hc_run.specs.Runs.{IsRun, run}
use Rattle.hc_run.specs.State.{GroupState}
use Rattle.hc_world.specs.declared.counts.Counts.{Counts}
use Rattle.hc_world.specs.declared.event.WorldEvent.{WorldEvent}
use Rattle.hc_world.specs.Addresses.{rid_of}
use Rattle.hc_world.specs.Events.{events_of}
use Rattle.hc_world.specs.Notes.{capped, is_answered, replies_in}
use Rattle.hc_world.specs.Runs.{ServesThroughout, run_of}
use Rattle.hc_world.specs.Seen.{counts_of, greatest, greatest_passed, seen, term_of}

-- Replies --

-- after every run of every group there are as many first parts of replies among the datagrams as replies were sent
abbrev pub RepliesAreCounted : Type 0
RepliesAreCounted =
    (g : Group) (events : List GroupEvent) → IsGroup g → IsRun g events → replies_in (run g events).datagrams ≡ length (run g events).replied

-- one of these replies answers the request with this id
pub record IsReplied (replied : List Reply) (rid : Rid) : Type 0 where
  pub reply : Reply
  pub sent : In reply replied
  pub named : reply.request ≡ rid

-- and by the datagrams the client's request with an id is answered exactly where a reply to it was sent
abbrev pub IdsAreAnswered : Type 0
IdsAreAnswered =
    (g : Group) (events : List GroupEvent) (id : ℕ)
    → IsGroup g → IsRun g events → (is_answered (run g events).datagrams id ≡ true) ↔ IsReplied (run g events).replied (rid_of id)

-- Counts --

-- whether a reply to a request was sent
abbrev pub has_reply : List Reply → Request → Bool
has_reply replied q = list_any (λ r. same_rid r.request q.rid) replied

-- what is to be counted of a group, by what happened in it: the events; the requests of the table, and how many of them have a reply;
-- the replies that were sent; the greatest index of an entry that was applied; the greatest term of a member, up or down; the crashes
abbrev pub facts_of : GroupState → Counts
facts_of s =
    record {
      events = capped s.events;
      requests = capped (length s.table);
      replied = count_by (has_reply s.replied) s.table;
      replies = capped (length s.replied);
      passed = capped (greatest_passed s.passed);
      terms = greatest (map term_of s.replicas);
      crashes = capped s.crashes;
    }

-- after every run of a world's events this is what is counted
abbrev pub CountsAreOfFacts : Type 0
CountsAreOfFacts =
    (g : Group) (events : List WorldEvent)
    → IsGroup g → IsRun g (events_of 0 events) → counts_of (seen g (run_of g events)) ≡ facts_of (run_of g events)

-- One thread --

-- in every run of a world's events the group serves as one thread, at each moment
abbrev pub GroupsServeThroughout : Type 0
GroupsServeThroughout = (g : Group) (events : List WorldEvent) → IsGroup g → IsRun g (events_of 0 events) → ServesThroughout g events

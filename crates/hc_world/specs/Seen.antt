-- What is seen of a group that runs.
use Rattle.std.specs.Prelude.{ℕ, Bool, true, false, max, slice_get, List, [], ◌∷◌, length, map, take, slice_index_or, Option, Some, None, count_by, is_some}
use Rattle.r2_base.specs.declared.datagram.Datagram.{Datagram}
use Rattle.hc_log.specs.Durable.{replay}
use Rattle.hc_member.specs.Member.{Member}
use Rattle.hc_aggregate.specs.Tally.{Tally}
use Rattle.hc_run.specs.Group.{Group, Receiver, Member as MemberAt, Aggregator, Outside, receiver_at}
use Rattle.hc_run.specs.State.{GroupState, Passed, Replica, stopped}
use Rattle.hc_world.specs.declared.counts.Counts.{Counts}
use Rattle.hc_world.specs.Notes.{answered_in, capped, replies_in}

-- what is seen of a group: who is in it; its members, up or down, with their journals; what its aggregator counts; all datagrams that
-- were ever sent; of each id that the client has, whether a reply to its request was sent; and, each at most the greatest number that
-- its field holds, the events, the requests, the replies, the greatest index of an entry that was applied, and the crashes
pub record Seen : Type 0 where
  pub group : Group
  pub replicas : List Replica
  pub tally : Tally
  pub datagrams : List Datagram
  pub answered : List Bool
  pub events : ℕ
  pub requests : ℕ
  pub replies : ℕ
  pub passed : ℕ
  pub crashes : ℕ

-- the greatest of some numbers, and 0 where there are none
abbrev pub greatest : List ℕ → ℕ
greatest [] = 0
greatest (n ∷ more) = max n (greatest more)

-- the greatest index at which an entry was applied
abbrev pub greatest_passed : List Passed → ℕ
greatest_passed passed = greatest (map (λ p. p.index) passed)

-- what is seen of a state
unfoldable pub seen : Group → GroupState → Seen
seen g s =
    record {
      group = g;
      replicas = s.replicas;
      tally = s.tally;
      datagrams = s.datagrams;
      answered = answered_in s.datagrams;
      events = capped s.events;
      requests = capped (length s.table);
      replies = capped (replies_in s.datagrams);
      passed = capped (greatest_passed s.passed);
      crashes = capped s.crashes;
    }

-- the place of the member with this number
abbrev pub place_of : Seen → ℕ → Replica
place_of w v = slice_index_or w.replicas v (stopped [])

-- whether it is up
abbrev pub is_up : Seen → ℕ → Bool
is_up w v = is_some (place_of w v).member

-- the term of a member, up or down
abbrev pub term_in : Replica → Option Member → ℕ
term_in r (Some m) = m.term
term_in r None = (replay r.journal).term

abbrev pub term_of : Replica → ℕ
term_of r = term_in r r.member

-- what is counted
unfoldable pub counts_of : Seen → Counts
counts_of w =
    record {
      events = w.events;
      requests = w.requests;
      replied = count_by (λ answered. answered) (take w.requests w.answered);
      replies = w.replies;
      passed = w.passed;
      terms = greatest (map term_of w.replicas);
      crashes = w.crashes;
    }

-- a receiver is a member or the aggregator
abbrev pub is_inside : Receiver → Bool
is_inside (MemberAt v) = true
is_inside Aggregator = true
is_inside Outside = false

-- a packet is for a member or for the aggregator
abbrev pub is_for_group : Seen → Option Datagram → Bool
is_for_group w (Some d) = is_inside (receiver_at w.group d.to)
is_for_group w None = false

-- the datagrams, whether a member is up, and what is counted, in a world that memory sufficed for
abbrev pub datagrams_in : Option Seen → List Datagram
datagrams_in (Some w) = w.datagrams
datagrams_in None = []

abbrev pub is_up_in : Option Seen → ℕ → Bool
is_up_in (Some w) v = is_up w v
is_up_in None v = false

abbrev pub is_for_group_in : Option Seen → ℕ → Bool
is_for_group_in (Some w) packet = is_for_group w (slice_get w.datagrams packet)
is_for_group_in None packet = false

abbrev pub counts_in : Option Seen → Counts
counts_in (Some w) = counts_of w
counts_in None =
    record {
      events = 0;
      requests = 0;
      replied = 0;
      replies = 0;
      passed = 0;
      terms = 0;
      crashes = 0;
    }

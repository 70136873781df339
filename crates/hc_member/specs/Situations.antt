-- Single situations of a member, and what it does in each.
use Rattle.std.specs.Prelude.{◌≡◌, ℕ, true, false, [], ◌∷◌, Some, None}
use Rattle.r2_base.specs.declared.addr.Addr.{Addr}
use Rattle.r2_base.specs.declared.entry.Kind.TheVariants.{Read}
use Rattle.r2_base.specs.Entry.{blank_entry}
use Rattle.r2_frag.specs.declared.kept.KeptReply.{KeptReply}
use Rattle.hc_log.specs.Log.{blank_of}
use Rattle.hc_message.specs.declared.msg.Msg.TheVariants.{VoteReq, Vote, Order, Ack, Nack, AggCommit}
use Rattle.hc_member.specs.declared.setup.Setup.{Setup}
use Rattle.hc_member.specs.declared.role.Role.TheVariants.{Follower}
use Rattle.hc_member.specs.declared.heard.Heard.{Heard}
use Rattle.hc_member.specs.declared.heard.Heard.TheVariants.{Nothing, Whole, Told, Time}
use Rattle.hc_member.specs.Finish.{finished}
use Rattle.hc_member.specs.Member.{Member, beginning, restarted}
use Rattle.hc_member.specs.Sending.{Tell, Reply}
use Rattle.hc_member.specs.Worked.{Does, address, candidate, first, follower, get_a, leader, next, ones, other_ordered, reacts, reads, record_of, rid, second, stored}

-- the only member of a group
abbrev pub alone : Setup
alone =
    record {
      members = address 1 ∷ [];
      me = 0;
      aggregator = None;
      bounds = 64 ∷ [];
      election = 1;
    }

abbrev pub alone_leads : Member
alone_leads = next alone beginning Time

abbrev pub alone_asked : Member
alone_asked = next alone alone_leads (Whole (reads 7))

abbrev pub alone_answered : Member
alone_answered = next alone alone_asked Nothing

-- the reply of the seventh request, whose key isn't there
abbrev pub absent_reply : KeptReply
absent_reply = record { rid = rid 7; policy = 3; payload = 0 ∷ 0 ∷ 0 ∷ 0 ∷ 0 ∷ 0 ∷ 0 ∷ 2 ∷ 1 ∷ [] }

-- a group of one: its member wins at its first tick, commits alone, and answers in the next turn; a request that comes again is
-- answered again
pub record OneIsEnough : Type 0 where
  pub wins : Does (reacts alone beginning Time) (record_of (Some 0) 0 (blank_of 1 ∷ [])) []
  pub orders : Does (reacts alone alone_leads (Whole (reads 7))) (record_of (Some 0) 1 (stored Read 7 0 get_a ∷ [])) []
  pub answers : (finished alone alone_asked).sends ≡ Reply absent_reply ∷ []
  pub again : Does (reacts alone alone_answered (Whole (reads 7))) None (Reply absent_reply ∷ [])

-- a leader that begins again keeps its term, its vote and its log
pub record LeaderRestarts : Type 0 where
  pub term : (restarted (leader ones)).term ≡ 1
  pub vote : (restarted (leader ones)).vote ≡ Some 0
  pub log : (restarted (leader ones)).log ≡ blank_of 1 ∷ []
  pub role : (restarted (leader ones)).role ≡ Follower

abbrev pub aggregator : Addr
aggregator = record { ip = 0x0A000064; port = 9100 }

-- a member of a group with an aggregator
abbrev pub aggregated : ℕ → Setup
aggregated me =
    record {
      members = address 1 ∷ address 2 ∷ address 3 ∷ [];
      me = me;
      aggregator = Some aggregator;
      bounds = ones;
      election = 1;
    }

abbrev pub aggregated_candidate : Member
aggregated_candidate = next (aggregated 0) beginning Time

abbrev pub by_aggregator : Heard
by_aggregator = Told aggregator (Order 1 0 0 0 1 0 true (blank_entry 1 ∷ []))

abbrev pub aggregated_follower : Member
aggregated_follower = next (aggregated 1) beginning by_aggregator

-- Orders go by way of the aggregator, and come from it; what it found is committed as far as it is matched, and nobody else's word is
pub record AggregatorIsBetween : Type 0 where
  pub ordered :
      Does (reacts (aggregated 0) aggregated_candidate (Told (address 2) (Vote 1 1 true))) (record_of (Some 0) 0 (blank_of 1 ∷ []))
      (Tell aggregator (Order 1 0 0 0 1 0 true (blank_entry 1 ∷ [])) ∷ [])
  pub taken : Does (reacts (aggregated 1) beginning by_aggregator) (record_of None 0 (blank_of 1 ∷ [])) (Tell aggregator (Ack 1 1 1 0) ∷ [])
  pub committed : (next (aggregated 1) aggregated_follower (Told aggregator (AggCommit 1 5))).commit ≡ 1
  pub not_by_another : (next (aggregated 1) aggregated_follower (Told (address 1) (AggCommit 1 5))).commit ≡ 0
  pub not_from_another : Does (reacts (aggregated 1) beginning (Told (address 1) (Order 1 0 0 0 1 0 true (blank_entry 1 ∷ [])))) None []

-- Orders that aren't taken: from another address than the leader's, after an entry that is missing, and of an earlier term
pub record OrderIsRefused : Type 0 where
  pub stranger : Does (reacts second beginning (Told (address 3) (Order 1 0 0 0 1 0 false (blank_entry 1 ∷ [])))) None []
  pub missing : Does (reacts second follower (Told (address 1) (Order 1 0 3 1 1 0 false []))) None (Tell (address 1) (Nack 1 1 1) ∷ [])
  pub earlier :
      Does (reacts second (next second follower other_ordered) (Told (address 1) (Order 1 0 0 0 1 0 false (blank_entry 1 ∷ [])))) None
      (Tell (address 1) (Nack 2 1 0) ∷ [])

-- a candidate that hears the leader of its term follows it, also where it refuses the Order
abbrev pub yielding : Heard
yielding = Told (address 3) (Order 1 2 5 1 1 0 false [])

pub record CandidateYields : Type 0 where
  pub does : Does (reacts (first ones) (candidate ones) yielding) None (Tell (address 3) (Nack 1 0 0) ∷ [])
  pub role : (next (first ones) (candidate ones) yielding).role ≡ Follower

-- a leader goes back for a member that refused its Order
pub record LeaderGoesBack : Type 0 where
  pub does :
      Does (reacts (first ones) (leader ones) (Told (address 3) (Nack 1 2 0))) None
      (Tell (address 3) (Order 1 0 0 0 1 0 false (blank_entry 1 ∷ [])) ∷ [])

-- a member with a longer log doesn't vote for a candidate, but rises to its term
pub record LongerLogIsKept : Type 0 where
  pub does :
      Does (reacts second follower (Told (address 3) (VoteReq 2 2 0 0))) (Some (record { term = 2; vote = None; keep = 1; entries = [] }))
      (Tell (address 3) (Vote 2 1 false) ∷ [])

-- all of these
pub record WorkedSituations : Type 0 where
  pub alone : OneIsEnough
  pub restarts : LeaderRestarts
  pub aggregated : AggregatorIsBetween
  pub refused : OrderIsRefused
  pub yields : CandidateYields
  pub back : LeaderGoesBack
  pub longer : LongerLogIsKept

-- What holds of every member that can be reached.
use Rattle.std.specs.Prelude.{◌≡◌, ℕ, ◌+◌, ◌<◌, ◌≤◌, Bool, true, false, List, length, take, map, slice_index_or, slice_get, Some, All}
use Rattle.r2_base.specs.Limits.{greatest_number}
use Rattle.r2_frag.specs.declared.kept.KeptReply.{KeptReply}
use Rattle.r2_frag.specs.Sizes.{IsShort}
use Rattle.hc_store.specs.Short.{AreShort}
use Rattle.hc_store.specs.Replies.{reply_at}
use Rattle.hc_log.specs.declared.stored.Stored.{Stored}
use Rattle.hc_log.specs.Log.{stands_in}
use Rattle.hc_log.specs.Durable.{IsValid}
use Rattle.hc_pool.specs.Pool.{IsPool}
use Rattle.hc_replier.specs.Queues.{IsRow, Row}
use Rattle.hc_member.specs.declared.setup.Setup.{Setup}
use Rattle.hc_member.specs.declared.role.Role.{Role}
use Rattle.hc_member.specs.declared.role.Role.TheVariants.{Follower, Candidate, Leader}
use Rattle.hc_member.specs.Heard.{policy_of}
use Rattle.hc_member.specs.Member.{Member, Lead, durable_of}
use Rattle.hc_service.specs.Entries.{IsReplayed, operations}

-- a reply that is one to the entry at an index: this member is its replier, and one thread gives the same payload
pub record IsReplyTo (me : ℕ) (log : List Stored) (index : ℕ) (stored : Stored) (reply : KeptReply) : Type 0 where
  pub rid : reply.rid ≡ stored.entry.rid
  pub policy : reply.policy ≡ policy_of stored.entry.kind
  pub replier : stored.entry.replier ≡ me
  pub payload : reply_at (operations log) index ≡ Some reply.payload

-- a reply to an entry that was applied
pub record IsRightReply (me applied : ℕ) (log : List Stored) (reply : KeptReply) : Type 0 where
  pub before : ℕ
  pub is_applied : before < applied
  pub stored : Stored
  pub placed : slice_get log before ≡ Some stored
  pub right : IsReplyTo me log (before + 1) stored reply

-- a row of the queues of a leader, of whose log each index that was given is one
pub record IsQueue (last : ℕ) (row : Row) : Type 0 where
  pub bounded : IsRow row
  pub ordered : All (λ index. index ≤ last) row.given

-- what a leader keeps, by its term and the length of its log
pub record IsLeading (s : Setup) (term last : ℕ) (lead : Lead) : Type 0 where
  pub term_is_set : 1 ≤ term
  pub start_low : 1 ≤ lead.term_start
  pub start_high : lead.term_start ≤ last
  pub reached_each : length lead.reached ≡ length s.members
  pub next_each : length lead.next ≡ length s.members
  pub reached : All (λ index. index ≤ last) lead.reached
  pub next_low : All (λ index. 1 ≤ index) lead.next
  pub next_high : All (λ index. index ≤ last + 1) lead.next
  pub bounds : map (λ (row : Row). row.bound) lead.queues ≡ s.bounds
  pub queues : All (IsQueue last) lead.queues

-- a candidate that can still win, by its term, the length of its log and its votes: its blank entry has an index
pub record IsStanding (s : Setup) (term last : ℕ) (votes : List Bool) : Type 0 where
  pub term_is_set : 1 ≤ term
  pub has_index : last < greatest_number
  pub votes_each : length votes ≡ length s.members
  pub votes_own : slice_index_or votes s.me false ≡ true

-- what holds of a member in its role
abbrev pub IsInRole : Setup → ℕ → ℕ → List Bool → Lead → Role → Type 0
IsInRole s term last votes lead Follower = Unit {0}
IsInRole s term last votes lead Candidate = IsStanding s term last votes
IsInRole s term last votes lead Leader = IsLeading s term last lead

-- what holds of every member that can be reached: its durable state is valid; what it applied is committed, and what is committed
-- or matched stands in its log; each request of its pool may still be ordered; its service is what one thread's is
pub record IsSound (s : Setup) (m : Member) : Type 0 where
  pub durable : IsValid (durable_of m)
  pub batch : m.applied + m.pending ≤ m.commit
  pub committed : m.commit ≤ length m.log
  pub matched : m.matched ≤ length m.log
  pub pool : IsPool m.pool
  pub apart : All (λ r. stands_in r.rid m.log ≡ false) m.pool
  pub unfinished : All IsShort m.unfinished
  pub values : AreShort m.service.contents
  pub service : IsReplayed s.me (take m.applied m.log) m.service
  pub kept : All (IsRightReply s.me m.applied m.log) m.kept
  pub role : IsInRole s m.term (length m.log) m.votes m.lead m.role

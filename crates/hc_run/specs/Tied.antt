-- A member that runs, as the protocol's state has it: what is the same in both.
use Rattle.std.specs.Prelude.{◌≡◌, ℕ, true, false, slice_index_or, List}
use Rattle.r2_base.specs.declared.rid.Rid.{Rid}
use Rattle.r2_base.specs.declared.entry.Kind.{Kind}
use Rattle.hc_log.specs.Durable.{State}
use Rattle.hc_log.specs.Log.{metas_of}
use Rattle.hc_pool.specs.declared.request.Request.{Request as PoolRequest}
use Rattle.hc_member.specs.declared.role.Role.{Role as MemberRole}
use Rattle.hc_member.specs.declared.role.Role.TheVariants as member
use Rattle.hc_member.specs.Member.{Member}
use Rattle.hc_member.specs.Reports.{reached_by}
use Rattle.hc_aggregate.specs.Tally.{Tally, reached_by as tally_reached}
use Rattle.hc_rules.specs.Message.{Aggregator, Passed as ProtocolPassed, Request}
use Rattle.hc_rules.specs.Parts.{MemberOf}
use Rattle.hc_rules.specs.Protocol.{Role, Follower, Candidate, Leader}
use Rattle.hc_run.specs.State.{Passed}

-- a role, by its name in the protocol
abbrev pub role_in : MemberRole → Role
role_in member.Follower = Follower
role_in member.Candidate = Candidate
role_in member.Leader = Leader

-- a request, as a client sent it
abbrev pub request_of : Rid → Kind → List ℕ → Request
request_of rid kind body = record { rid = rid; kind = kind; body = body }

-- a request that waits in a pool
abbrev pub request_in : PoolRequest → Request
request_in r = request_of r.rid r.kind r.body

-- an entry that was applied, without its body
abbrev pub passed_in : Passed → ProtocolPassed
passed_in x = record { member = x.member; index = x.index; entry = x.stored.entry }

-- a member that is up: its durable state without bodies, its role, how far its log is matched, committed and applied; as a candidate
-- the votes that it counted, and as a leader where it began and up to where each member has its log
pub record IsTied (x : MemberOf) (m : Member) : Type 0 where
  pub up : x.up ≡ true
  pub term : x.term ≡ m.term
  pub vote : x.vote ≡ m.vote
  pub log : x.log ≡ metas_of m.log
  pub role : x.role ≡ role_in m.role
  pub matched : x.matched ≡ m.matched
  pub commit : x.commit ≡ m.commit
  pub applied : x.applied ≡ m.applied
  pub counted : m.role ≡ member.Candidate → (c : ℕ) → x.counted c ≡ slice_index_or m.votes c false
  pub start : m.role ≡ member.Leader → x.start ≡ m.lead.term_start
  pub reached : m.role ≡ member.Leader → (p : ℕ) → x.reached p ≡ reached_by m.lead p

-- a member that is down: what its journal leads to
pub record IsTiedDown (x : MemberOf) (d : State) : Type 0 where
  pub down : x.up ≡ false
  pub term : x.term ≡ d.term
  pub vote : x.vote ≡ d.vote
  pub log : x.log ≡ metas_of d.log

-- the aggregator
pub record IsTiedTally (a : Aggregator) (t : Tally) : Type 0 where
  pub term : a.term ≡ t.term
  pub leader : a.leader ≡ t.leader
  pub start : a.start ≡ t.term_start
  pub reached : (p : ℕ) → a.reached p ≡ tally_reached t p

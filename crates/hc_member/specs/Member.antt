-- A member of a group: what it keeps over a crash, what Raft keeps in memory, and the service (Raft, figure 2).
use Rattle.std.specs.Prelude.{ℕ, ◌==◌, ◌&&◌, Bool, true, false, List, [], Option}
use Rattle.r2_frag.specs.declared.kept.KeptReply.{KeptReply}
use Rattle.r2_frag.specs.declared.unfinished.Unfinished.{Unfinished}
use Rattle.hc_log.specs.declared.stored.Stored.{Stored}
use Rattle.hc_log.specs.Durable as durable
use Rattle.hc_pool.specs.declared.request.Request.{Request}
use Rattle.hc_replier.specs.Queues.{Row}
use Rattle.hc_store.specs.State as service
use Rattle.hc_member.specs.declared.role.Role.{Role}
use Rattle.hc_member.specs.declared.role.Role.TheVariants.{Follower, Candidate, Leader}

-- what a leader keeps: the index of its first entry, and by number of a member up to where that has the leader's log, the index
-- of the next entry to send to it, and the entries that it was given to answer
pub record Lead : Type 0 where
  pub term_start : ℕ
  pub reached : List ℕ
  pub next : List ℕ
  pub queues : List Row

-- a member. By number of a member, `votes` says who voted for it; up to `matched` its log is that of the term's leader; `silent`
-- counts the ticks without word from a leader; `pending` is how many entries after `applied` the next turn applies
pub record Member : Type 0 where
  pub term : ℕ
  pub vote : Option ℕ
  pub log : List Stored
  pub role : Role
  pub votes : List Bool
  pub matched : ℕ
  pub silent : ℕ
  pub commit : ℕ
  pub applied : ℕ
  pub pending : ℕ
  pub pool : List Request
  pub unfinished : List Unfinished
  pub kept : List KeptReply
  pub service : service.State
  pub lead : Lead

-- nothing that a leader keeps
abbrev pub no_lead : Lead
no_lead = record { term_start = 0; reached = []; next = []; queues = [] }

-- a member that begins with this durable state: all else is new
unfoldable pub anew : durable.State → Member
anew d =
    record {
      term = d.term;
      vote = d.vote;
      log = d.log;
      role = Follower;
      votes = [];
      matched = 0;
      silent = 0;
      commit = 0;
      applied = 0;
      pending = 0;
      pool = [];
      unfinished = [];
      kept = [];
      service = service.new_state;
      lead = no_lead;
    }

-- a member that has stored nothing yet
abbrev pub beginning : Member
beginning = anew durable.begun

-- what a member keeps over a crash: its term, its vote in it, and its log
abbrev pub durable_of : Member → durable.State
durable_of m = record { term = m.term; vote = m.vote; log = m.log }

-- a member after a crash and a restart
abbrev pub restarted : Member → Member
restarted m = anew (durable_of m)

-- the tests of a role
abbrev pub is_follower : Role → Bool
is_follower Follower = true
is_follower _ = false

abbrev pub is_candidate : Role → Bool
is_candidate Candidate = true
is_candidate _ = false

abbrev pub is_leader : Role → Bool
is_leader Leader = true
is_leader _ = false

-- whether a member leads this term
abbrev pub leads : ℕ → Member → Bool
leads term m = is_leader m.role && (m.term == term)

-- What one rule of a member does to the member that is tied to it.
use Rattle.std.proofs.Common.{◌≡◌, ℕ, max, List, [], None, Some, ap, ◌∙◌}
use Rattle.r2_frag.specs.declared.kept.KeptReply.{KeptReply}
use Rattle.r2_frag.specs.declared.unfinished.Unfinished.{Unfinished}
use Rattle.hc_pool.specs.declared.request.Request.{Request}
use Rattle.hc_replier.specs.Queues.{Row}
use Rattle.hc_store.specs.State.{State as Service}
use Rattle.hc_member.specs.declared.role.Role.{Role as MemberRole}
use Rattle.hc_member.specs.declared.role.Role.TheVariants as member
use Rattle.hc_member.specs.Member.{Member}
use Rattle.hc_rules.specs.Message.{VoteRequest, Order}
use Rattle.hc_rules.specs.Parts.{MemberOf, member_of}
use Rattle.hc_rules.specs.Protocol.{ProtocolState, Follower}
use Rattle.hc_rules.specs.Rules.{after, Rise, GrantVote, Yield, committed}
use Rattle.hc_rules.proofs.Puts.{put_same}
use Rattle.hc_run.specs.Tied.{IsTied}

-- a member that doesn't lead, and one that doesn't stand
pub not_leader : {A : Type 0} (r : MemberRole) → r ≡ member.Follower → r ≡ member.Leader → A
not_leader r e f = absurd cc

pub not_candidate : {A : Type 0} (r : MemberRole) → r ≡ member.Follower → r ≡ member.Candidate → A
not_candidate r e f = absurd cc

module _ (w : ProtocolState) (v : ℕ) (m : Member) (t : IsTied (member_of w v) m) where
  -- v rises to a term
  pub tie-rise : (term : ℕ) → IsTied (member_of (after w (Rise v term)) v) (record m { term = term; vote = None; role = member.Follower; votes = []; matched = 0 })
  tie-rise term =
      record {
        up = t.up;
        term = put_same w.term v term;
        vote = put_same w.vote v None;
        log = t.log;
        role = put_same w.role v Follower;
        matched = put_same w.matched v 0;
        commit = t.commit;
        applied = t.applied;
        counted = λ e c. absurd cc;
        start = λ e. absurd cc;
        reached = λ e p. absurd cc;
      }

  -- v votes
  pub tie-vote : (q : VoteRequest) (candidate silent : ℕ) → q.candidate ≡ candidate → m.role ≡ member.Follower
      → IsTied (member_of (after w (GrantVote v q)) v) (record m { vote = Some candidate; silent = silent })
  tie-vote q candidate silent e follows =
      record {
        up = t.up;
        term = t.term;
        vote = put_same w.vote v (Some q.candidate) ∙ ap (λ (c : ℕ). Some c) e;
        log = t.log;
        role = t.role;
        matched = t.matched;
        commit = t.commit;
        applied = t.applied;
        counted = t.counted;
        start = t.start;
        reached = t.reached;
      }

  -- v knows that so much is committed
  pub tie-commit : (index commit : ℕ) → max m.commit index ≡ commit → IsTied (member_of (committed w v index) v) (record m { commit = commit })
  tie-commit index commit e =
      record {
        up = t.up;
        term = t.term;
        vote = t.vote;
        log = t.log;
        role = t.role;
        matched = t.matched;
        commit = put_same w.commit v (max (w.commit v) index) ∙ ap (λ (c : ℕ). max c index) t.commit ∙ e;
        applied = t.applied;
        counted = t.counted;
        start = t.start;
        reached = t.reached;
      }

  -- v yields to a leader
  pub tie-yield : (o : Order) (silent : ℕ) → IsTied (member_of (after w (Yield v o)) v) (record m { role = member.Follower; silent = silent })
  tie-yield o silent =
      record {
        up = t.up;
        term = t.term;
        vote = t.vote;
        log = t.log;
        role = put_same w.role v Follower;
        matched = t.matched;
        commit = t.commit;
        applied = t.applied;
        counted = λ e c. absurd cc;
        start = λ e. absurd cc;
        reached = λ e p. absurd cc;
      }

-- what isn't tied may be anything
pub tie-rest : (x : MemberOf) (m : Member) (silent pending : ℕ) (pool : List Request) (unfinished : List Unfinished) (kept : List KeptReply) (service : Service) (next : List ℕ) (queues : List Row)
    → IsTied x m
    → IsTied x (record m { silent = silent; pending = pending; pool = pool; unfinished = unfinished; kept = kept; service = service; lead = record m.lead { next = next; queues = queues } })
tie-rest x m silent pending pool unfinished kept service next queues t =
    record {
      up = t.up;
      term = t.term;
      vote = t.vote;
      log = t.log;
      role = t.role;
      matched = t.matched;
      commit = t.commit;
      applied = t.applied;
      counted = t.counted;
      start = t.start;
      reached = t.reached;
    }

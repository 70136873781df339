-- What each row of the table leads to: a sound member whose durable state may come after the one before, and what it sends.
use Rattle.std.proofs.Common.{◌≡◌, ◌≢◌, ℕ, ◌+◌, ◌<◌, ◌≤◌, List, [], length, take, Option, None, Some, refl, sym, ap, subst, arith}
use Rattle.std.specs.Prelude.{All}
use Rattle.std.proofs.lemmas.List.Elements.{All-nil}
use Rattle.r2_base.specs.Limits.{most_entries}
use Rattle.hc_log.specs.Durable.{State, KeepsVote}
use Rattle.hc_member.specs.declared.setup.Setup.{Setup}
use Rattle.hc_member.specs.declared.role.Role.TheVariants.{Follower}
use Rattle.hc_member.specs.Member.{Member, durable_of}
use Rattle.hc_member.specs.Outcome.{Outcome, nothing, stays}
use Rattle.hc_member.specs.Sending.{Sending, IsSent}
use Rattle.hc_member.specs.Sound.{IsSound}

-- a durable state may come after another one, of whose log so much is left: where that is less, the log is another one
pub record Comes (d e : State) (keep : ℕ) : Type 0 where
  pub term : d.term ≤ e.term
  pub vote : d.term ≡ e.term → KeepsVote d.vote e.vote
  pub within : keep ≤ length d.log
  pub front : take keep d.log ≡ take keep e.log
  pub count : length e.log ≤ keep + most_entries
  pub cut : keep < length d.log → e.log ≢ d.log

-- what a row leads to: only a follower's log is cut, and nothing that is committed
pub record Goes (s : Setup) (m : Member) (o : Outcome) : Type 0 where
  pub sound : IsSound s o.member
  pub comes : Comes (durable_of m) (durable_of o.member) o.keep
  pub cut : o.keep < length m.log → o.member.role ≡ Follower
  pub commit : m.commit ≤ o.member.commit
  pub stands : m.commit ≤ o.keep
  pub applied : o.member.applied ≡ m.applied
  pub sends : All IsSent o.sends

-- an equal vote is a kept one
pub keeps_vote : (old new : Option ℕ) → new ≡ old → KeepsVote old new
keeps_vote None new same = tt
keeps_vote (Some member) new same = same

-- a member as it goes on from another one with the same log: neither its term nor its commit index is lower, and a vote of the term
-- and what is applied stay
pub record Advances (m n : Member) : Type 0 where
  pub log : n.log ≡ m.log
  pub term : m.term ≤ n.term
  pub vote : m.term ≡ n.term → KeepsVote m.vote n.vote
  pub commit : m.commit ≤ n.commit
  pub applied : n.applied ≡ m.applied

-- the log stays as it is
pub goes-stays : (s : Setup) (m n : Member) (sends : List Sending) → IsSound s n → Advances m n → All IsSent sends → Goes s m (stays m n sends)
goes-stays s m n sends sound on all =
    let log = on.log in
    let size = ap length log in
    let grows = on.commit in
    let committed = sound.committed in
    record {
      sound = sound;
      comes =
          record {
            term = on.term;
            vote = on.vote;
            within = omega arith;
            front = ap (take (length m.log)) (sym log);
            count = omega (arith, size);
            cut = λ less. absurd (omega (arith, less));
          };
      cut = λ less. absurd (omega (arith, less));
      commit = on.commit;
      stands = omega (arith, grows, committed, size);
      applied = on.applied;
      sends = all;
    }

-- the durable state stays as it is
pub goes-kept : (s : Setup) (m n : Member) (sends : List Sending) → IsSound s n → durable_of n ≡ durable_of m → m.commit ≤ n.commit → n.applied ≡ m.applied
    → All IsSent sends → Goes s m (stays m n sends)
goes-kept s m n sends sound same commit applied all =
    let term : n.term ≡ m.term = ap (λ (d : State). d.term) same in
    goes-stays s m n sends sound
    (record {
      log = ap (λ (d : State). d.log) same;
      term = omega (arith, term);
      vote = λ e. keeps_vote m.vote n.vote (ap (λ (d : State). d.vote) same);
      commit = commit;
      applied = applied;
    })
    all

pub goes-sends : (s : Setup) (m : Member) (sends : List Sending) → IsSound s m → All IsSent sends → Goes s m (stays m m sends)
goes-sends s m sends sound all = goes-kept s m m sends sound refl (omega arith) refl all

pub goes-nothing : (s : Setup) (m : Member) → IsSound s m → Goes s m (nothing m)
goes-nothing s m sound = goes-sends s m [] sound (All-nil IsSent)

-- the log stays as it is, by way of a member with the same log
pub goes-by : (s : Setup) (m way n : Member) (sends : List Sending) → way.log ≡ m.log → IsSound s n → Advances m n → All IsSent sends → Goes s m (stays way n sends)
goes-by s m way n sends same sound on all =
    subst (λ (k : ℕ). Goes s m (record { member = n; keep = k; sends = sends })) (sym (ap length same)) (goes-stays s m n sends sound on all)

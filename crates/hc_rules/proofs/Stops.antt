-- What a member that is down has.
use Rattle.std.proofs.Common.{◌≡◌, ℕ, false, refl, sym, ◌∙◌}
use Rattle.std.proofs.lemmas.Bool.{true≢false}
use Rattle.hc_rules.specs.Rules.{Rule, Rise, Stand, GrantVote, CountVote, Win, OrderRequest, Confirm, Take, CommitByCount, CommitByOrder, CommitByAggregate, Apply, Yield, NoteAck, Hold, Crash, Restart, after}
use Rattle.hc_rules.specs.Conditions.{Allowed, CanAct}
use Rattle.hc_rules.specs.Protocol.{ProtocolState}
use Rattle.hc_rules.specs.Kept.{Kept, StoppedMembersForgot}
use Rattle.hc_rules.proofs.Puts.{split, self}

module _ (w : ProtocolState) (k : Kept w) where
  -- a member that makes a step isn't down
  acting : {A : Type 0} (x : ℕ) → CanAct w x → w.up x ≡ false → A
  acting x a e = absurd (true≢false (sym a.runs ∙ e))

  pub stopped_members_forgot : (r : Rule) → Allowed w r → StoppedMembersForgot (after w r)
  stopped_members_forgot (Rise x s) a = split x (acting x a.acts) (λ u e. rw e (k.stopped_members_forgot u))
  stopped_members_forgot (Stand x) a = split x (acting x a.acts) (λ u e. rw e (k.stopped_members_forgot u))
  stopped_members_forgot (GrantVote x q) a = split x (acting x a.acts) (λ u e. rw e (k.stopped_members_forgot u))
  stopped_members_forgot (CountVote x c) a = split x (acting x a.competes.acts) (λ u e. rw e (k.stopped_members_forgot u))
  stopped_members_forgot (Win x) a = split x (acting x a.competes.acts) (λ u e. rw e (k.stopped_members_forgot u))
  stopped_members_forgot (OrderRequest x q p) a = split x (acting x a.leads.acts) (λ u e. rw e (k.stopped_members_forgot u))
  stopped_members_forgot (Confirm x o n) a = split x (acting x a.hears.acts) (λ u e. rw e (k.stopped_members_forgot u))
  stopped_members_forgot (Take x o i n) a = split x (acting x a.hears.acts) (λ u e. rw e (k.stopped_members_forgot u))
  stopped_members_forgot (CommitByCount x m) a = split x (acting x a.leads.acts) (λ u e. rw e (k.stopped_members_forgot u))
  stopped_members_forgot (CommitByOrder x o m) a = split x (acting x a.acts) (λ u e. rw e (k.stopped_members_forgot u))
  stopped_members_forgot (CommitByAggregate x y m) a = split x (acting x a.acts) (λ u e. rw e (k.stopped_members_forgot u))
  stopped_members_forgot (Apply x) a = split x (acting x a.acts) (λ u e. rw e (k.stopped_members_forgot u))
  stopped_members_forgot (Yield x o) a = split x (acting x a.competes.acts) (λ u e. rw e (k.stopped_members_forgot u))
  stopped_members_forgot (NoteAck x y) a = split x (acting x a.leads.acts) (λ u e. rw e (k.stopped_members_forgot u))
  stopped_members_forgot (Hold x rids) a = split x (acting x a.acts) (λ u e. rw e (k.stopped_members_forgot u))
  stopped_members_forgot (Crash x) a = split x (rw (self x) (λ e. refl)) (λ u e. rw e (k.stopped_members_forgot u))
  stopped_members_forgot (Restart x) a = split x (rw (self x) (λ e. absurd (true≢false e))) (λ u e. rw e (k.stopped_members_forgot u))
  stopped_members_forgot r a = k.stopped_members_forgot

-- What each rule leaves, and that it spares the other members.
use Rattle.std.proofs.Common.{◌≡◌, ℕ, true, false, refl}
use Rattle.std.proofs.lemmas.Bool.{true≢false}
use Rattle.hc_rules.specs.Rules.{Rule, Rise, Stand, AskVotes, GrantVote, SendVote, CountVote, Win, OrderRequest, SendOrder, Confirm, Take, Acknowledge, CommitByCount, CommitByOrder, CommitByAggregate, Aggregate, Apply, Answer, AnswerAgain, AskBody, GiveBody, Yield, NoteReport, NoteOwnReport, NoteAck, Hold, Refuse, RejectOrder, Follow, NoteOrder, Collect, Forget, Crash, Restart, SendRequest, after}
use Rattle.hc_rules.specs.Parts.{Part, Terms, VoteOfTerm, Logs, Up, Roles, Counted, Matched, Commits, Applied, Starts, Reached, Pools, TheAggregator, VoteRequests, Votes, Orders, Acks, Aggregates, Refusals, Nacks, Asked, Bodies, Table, Winners, Bases, Books, Grants, Reports, Passes, Replies, Same, Leaves, IsOther, is_named, changed_by, member_of}
use Rattle.hc_rules.specs.Protocol.{ProtocolState}
use Rattle.hc_rules.proofs.Puts.{other}

changed : {A : Type 0} → true ≡ false → A
changed h = absurd (true≢false h)

part_left : (w : ProtocolState) (r : Rule) (p : Part) → is_named p (changed_by r) ≡ false → Same p w (after w r)
part_left w (Rise v s) Terms h = changed h
part_left w (Rise v s) VoteOfTerm h = changed h
part_left w (Rise v s) Roles h = changed h
part_left w (Rise v s) Counted h = changed h
part_left w (Rise v s) Matched h = changed h
part_left w (Stand v) Terms h = changed h
part_left w (Stand v) VoteOfTerm h = changed h
part_left w (Stand v) Roles h = changed h
part_left w (Stand v) Counted h = changed h
part_left w (Stand v) Matched h = changed h
part_left w (Stand v) Grants h = changed h
part_left w (AskVotes v) VoteRequests h = changed h
part_left w (GrantVote v q) VoteOfTerm h = changed h
part_left w (GrantVote v q) Grants h = changed h
part_left w (SendVote v c) Votes h = changed h
part_left w (CountVote v c) Counted h = changed h
part_left w (Win v) Roles h = changed h
part_left w (Win v) Winners h = changed h
part_left w (Win v) Bases h = changed h
part_left w (Win v) Books h = changed h
part_left w (Win v) Logs h = changed h
part_left w (Win v) Matched h = changed h
part_left w (Win v) Starts h = changed h
part_left w (Win v) Reached h = changed h
part_left w (OrderRequest v q p) Logs h = changed h
part_left w (OrderRequest v q p) Books h = changed h
part_left w (OrderRequest v q p) Matched h = changed h
part_left w (SendOrder v previous count) Orders h = changed h
part_left w (Confirm v o k) Roles h = changed h
part_left w (Confirm v o k) Matched h = changed h
part_left w (Take v o i k) Roles h = changed h
part_left w (Take v o i k) Logs h = changed h
part_left w (Take v o i k) Matched h = changed h
part_left w (Acknowledge v m) Acks h = changed h
part_left w (CommitByCount v m) Commits h = changed h
part_left w (CommitByOrder v o m) Commits h = changed h
part_left w (CommitByAggregate v a m) Commits h = changed h
part_left w (Aggregate o m) Aggregates h = changed h
part_left w (Apply v) Applied h = changed h
part_left w (Apply v) Passes h = changed h
part_left w (Answer v index payload) Replies h = changed h
part_left w (AnswerAgain v r e) Replies h = changed h
part_left w (AskBody v rid) Asked h = changed h
part_left w (GiveBody v rid) Bodies h = changed h
part_left w (Yield v o) Roles h = changed h
part_left w (NoteReport v a) Reports h = changed h
part_left w (NoteOwnReport v) Reports h = changed h
part_left w (NoteAck v a) Reached h = changed h
part_left w (Hold v rids) Pools h = changed h
part_left w (Refuse v) Refusals h = changed h
part_left w (RejectOrder v hint) Nacks h = changed h
part_left w (Follow o) TheAggregator h = changed h
part_left w (NoteOrder o) TheAggregator h = changed h
part_left w (Collect a) TheAggregator h = changed h
part_left w Forget TheAggregator h = changed h
part_left w (Crash v) Up h = changed h
part_left w (Crash v) Roles h = changed h
part_left w (Crash v) Counted h = changed h
part_left w (Crash v) Matched h = changed h
part_left w (Crash v) Commits h = changed h
part_left w (Crash v) Applied h = changed h
part_left w (Crash v) Starts h = changed h
part_left w (Crash v) Reached h = changed h
part_left w (Crash v) Pools h = changed h
part_left w (Restart v) Up h = changed h
part_left w (SendRequest q) Table h = changed h
part_left w r p h = refl

-- a rule leaves all but the parts that it names
pub leaves : (w : ProtocolState) (r : Rule) → Leaves w r (after w r)
leaves w r = record { size = size_left w r; bound = bound_left w r; part = part_left w r }
  where
    size_left : (w : ProtocolState) (r : Rule) → (after w r).size ≡ w.size
    size_left w (Rise v s) = refl
    size_left w r = refl

    bound_left : (w : ProtocolState) (r : Rule) → (after w r).bound ≡ w.bound
    bound_left w (Rise v s) = refl
    bound_left w r = refl

-- a rule of one member spares the others
pub spares : (w : ProtocolState) (r : Rule) (u : ℕ) → IsOther u r → member_of (after w r) u ≡ member_of w u
spares w (Rise v s) u h = rw (other u v h) refl
spares w (Stand v) u h = rw (other u v h) refl
spares w (GrantVote v q) u h = rw (other u v h) refl
spares w (CountVote v c) u h = rw (other u v h) refl
spares w (Win v) u h = rw (other u v h) refl
spares w (OrderRequest v q p) u h = rw (other u v h) refl
spares w (Confirm v o k) u h = rw (other u v h) refl
spares w (Take v o i k) u h = rw (other u v h) refl
spares w (CommitByCount v m) u h = rw (other u v h) refl
spares w (CommitByOrder v o m) u h = rw (other u v h) refl
spares w (CommitByAggregate v a m) u h = rw (other u v h) refl
spares w (Apply v) u h = rw (other u v h) refl
spares w (Yield v o) u h = rw (other u v h) refl
spares w (NoteAck v a) u h = rw (other u v h) refl
spares w (Hold v rids) u h = rw (other u v h) refl
spares w (Crash v) u h = rw (other u v h) refl
spares w (Restart v) u h = rw (other u v h) refl
spares w r u h = refl

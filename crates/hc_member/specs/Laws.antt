-- What holds of every turn of a sound member.
use Rattle.std.specs.Prelude.{◌≡◌, ◌≢◌, ◌+◌, ◌≤◌, ℕ, List, map, fold, length, All, Option, Some, None, take, ◌<◌, slice_index_or}
use Rattle.r2_base.specs.Numbers.{AreBytes}
use Rattle.r2_base.specs.declared.rid.Rid.{Rid}
use Rattle.r2_base.specs.declared.event.Event.{Event}
use Rattle.r2_base.specs.declared.event.Event.TheVariants as event
use Rattle.r2_header.specs.Layout.{short}
use Rattle.r2_frag.specs.declared.kept.KeptReply.{KeptReply}
use Rattle.r2_frag.specs.Kept.{kept_with, newest}
use Rattle.hc_log.specs.declared.record.Record.{Record}
use Rattle.hc_log.specs.Durable.{State, IsNext, IsValid, after}
use Rattle.hc_service.specs.declared.answer.Answer.{Answer}
use Rattle.hc_service.specs.Laws.{AreAnswers}
use Rattle.hc_message.specs.Laws.{most_order_bytes}
use Rattle.hc_replier.specs.Queues.{unreported}
use Rattle.hc_member.specs.declared.setup.Setup.{Setup}
use Rattle.hc_member.specs.declared.role.Role.TheVariants.{Leader}
use Rattle.hc_member.specs.Finish.{due, finished, reply_to}
use Rattle.hc_member.specs.Member.{Member, anew, durable_of, restarted}
use Rattle.hc_member.specs.Sending.{Sending, Reply, IsSent, datagrams_of}
use Rattle.hc_member.specs.Setup.{IsSetup}
use Rattle.hc_member.specs.Sound.{IsRightReply, IsSound}
use Rattle.hc_member.specs.Turn.{turned}

-- a durable state changed, and its record, which is in its ranges, may come next and leads to the new one
pub record IsChange (old : State) (r : Record) (new : State) : Type 0 where
  pub changed : new ≢ old
  pub next : IsNext old r
  pub leads : after old r ≡ new

-- what was stored is the record of the change, and nothing was where the durable state stayed
abbrev pub IsStored : State → Option Record → State → Type 0
IsStored old (Some r) new = IsChange old r new
IsStored old None new = new ≡ old

-- the bytes of an event are bytes
abbrev pub HasBytes : Event → Type 0
HasBytes (event.Datagram d) = AreBytes d.bytes
HasBytes event.Tick = Unit {0}
HasBytes event.Quiet = Unit {0}

-- a member that begins with a valid durable state is sound
abbrev pub MembersBeginSound : Type 0
MembersBeginSound = (s : Setup) (d : State) → IsValid d → IsSound s (anew d)

-- so is one that begins again
abbrev pub RestartsAreSound : Type 0
RestartsAreSound = (s : Setup) (m : Member) → IsSound s m → IsSound s (restarted m)

-- what a turn comes to: a sound member, all that it sends is as it may be, and what it stores is the change of the durable state
pub record GoesWell (s : Setup) (m : Member) (event : Event) : Type 0 where
  pub sound : IsSound s (turned s m event).member
  pub sends : All IsSent (turned s m event).sends
  pub stores : IsStored (durable_of m) (turned s m event).stored (durable_of (turned s m event).member)

-- each turn of a sound member does, whatever the event is
abbrev pub TurnsGoWell : Type 0
TurnsGoWell = (s : Setup) (m : Member) (event : Event) → IsSetup s → IsSound s m → HasBytes event → GoesWell s m event

-- the first half of a turn sends and keeps these answers, the one-thread service's replies to exactly the member's own entries of
-- the batch that is due, in their order
pub record AnswersAsOneThread (s : Setup) (m : Member) (answers : List Answer) : Type 0 where
  pub are : AreAnswers s.me m.log (m.applied + 1) (m.applied + (due m).pending) answers
  pub sends : (finished s m).sends ≡ map (λ answer. Reply (reply_to answer)) answers
  pub kept : (finished s m).member.kept ≡ fold kept_with m.kept (map reply_to answers)

abbrev pub RepliesAreOneThread : Type 0
RepliesAreOneThread = (s : Setup) (m : Member) → IsSetup s → IsSound s m → (answers : List Answer) × AnswersAsOneThread s m answers

-- a request that is in the log is answered again by a right reply to it
abbrev pub RepeatedRepliesAreRight : Type 0
RepeatedRepliesAreRight =
    (s : Setup) (m : Member) (rid : Rid) (reply : KeptReply) → IsSound s m → newest rid m.kept ≡ Some reply
    → (reply.rid ≡ rid) × IsRightReply s.me m.applied m.log reply

-- the greatest number of bytes of a datagram: an Order after its header
abbrev pub most_datagram_bytes : ℕ
most_datagram_bytes = short.size + most_order_bytes

-- no datagram of what is sent has more
abbrev pub DatagramsAreShort : Type 0
DatagramsAreShort = (s : Setup) (x : Sending) → IsSent x → All (λ d. length d.bytes ≤ most_datagram_bytes) (datagrams_of s x)

-- neither what is committed nor what is applied is taken back
pub record KeepsCommitted (m n : Member) : Type 0 where
  pub commit : m.commit ≤ n.commit
  pub applied : m.applied ≤ n.applied
  pub log : take m.commit n.log ≡ take m.commit m.log

abbrev pub TurnsKeepCommitted : Type 0
TurnsKeepCommitted =
    (s : Setup) (m : Member) (event : Event) → IsSetup s → IsSound s m → HasBytes event → KeepsCommitted m (turned s m event).member

-- a leader gives no member more than its bound to answer
abbrev pub QueuesAreBounded : Type 0
QueuesAreBounded =
    (s : Setup) (m : Member) (member : ℕ) → IsSetup s → IsSound s m → m.role ≡ Leader → member < length s.members
    → unreported m.lead.queues member ≤ slice_index_or s.bounds member 0

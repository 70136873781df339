-- The definitions at work: conversations of a member with its group, message by message.
use Rattle.std.specs.Prelude.{◌≡◌, ℕ, true, false, List, [], ◌∷◌, ◌++◌, Some, None}
use Rattle.r2_base.specs.declared.entry.Kind.TheVariants.{Write, Read}
use Rattle.r2_base.specs.Entry.{blank_entry}
use Rattle.hc_log.specs.Log.{blank_of}
use Rattle.hc_message.specs.declared.msg.Msg.TheVariants.{VoteReq, Vote, Order, Ack, RecoverAsk, RecoverBody}
use Rattle.hc_member.specs.declared.heard.Heard.{Heard}
use Rattle.hc_member.specs.declared.heard.Heard.TheVariants.{Nothing, Whole, Told, Recovered, Time}
use Rattle.hc_member.specs.Finish.{finished}
use Rattle.hc_member.specs.Member.{Member, beginning}
use Rattle.hc_member.specs.Sending.{Tell, Recover, Reply, datagrams_of}
use Rattle.hc_member.specs.Worked.{address, rid, get_a, put_a, reads, writes, entry, stored, reacts, next, Does, record_of, second, ones, first, candidate, leader, to_both, ordered, other_ordered, follower}

abbrev pub three_ordered : Heard
three_ordered = Told (address 1) (Order 1 0 0 0 1 0 false (blank_entry 1 ∷ entry Write 2 0 ∷ entry Write 3 1 ∷ []))

abbrev pub with_third : Member
with_third = next second beginning (Whole (writes 3))

abbrev pub with_blank : Member
with_blank = next second with_third three_ordered

abbrev pub with_second : Member
with_second = next second with_blank (Recovered (address 1) (rid 2) (RecoverBody Write put_a))

-- it has the body of one request and lacks that of another, which it asks for; then it takes both
pub record BodyIsRecovered : Type 0 where
  pub pooled : Does (reacts second beginning (Whole (writes 3))) None []
  pub lacks :
      Does (reacts second with_third three_ordered) (record_of None 0 (blank_of 1 ∷ []))
      (Tell (address 1) (Ack 1 1 1 0) ∷ Recover (address 1) (rid 2) (RecoverAsk 1) ∷ [])
  pub given : Does (reacts second with_blank (Recovered (address 1) (rid 2) (RecoverBody Write put_a))) None []
  pub takes :
      Does (reacts second with_second three_ordered) (record_of None 1 (stored Write 2 0 put_a ∷ stored Write 3 1 put_a ∷ []))
      (Tell (address 1) (Ack 1 1 3 0) ∷ [])

pub record LeaderIsElected (bounds : List ℕ) : Type 0 where
  pub stands : Does (reacts (first bounds) beginning Time) (record_of (Some 0) 0 []) (to_both (VoteReq 1 0 0 0))
  pub wins :
      Does (reacts (first bounds) (candidate bounds) (Told (address 2) (Vote 1 1 true))) (record_of (Some 0) 0 (blank_of 1 ∷ []))
      (to_both (ordered 0 0 (blank_entry 1 ∷ [])))
  pub tells : Does (reacts (first bounds) (leader bounds) Time) None (to_both (ordered 0 0 (blank_entry 1 ∷ [])))

-- the first member is given nothing to answer, and the others one request each
abbrev pub drained : List ℕ
drained = 0 ∷ 1 ∷ 1 ∷ []

abbrev pub after_seventh : Member
after_seventh = next (first drained) (leader drained) (Whole (reads 7))

abbrev pub after_eighth : Member
after_eighth = next (first drained) after_seventh (Whole (reads 8))

pub record MemberIsDrained : Type 0 where
  pub seventh :
      Does (reacts (first drained) (leader drained) (Whole (reads 7))) (record_of (Some 0) 1 (stored Read 7 1 get_a ∷ []))
      (to_both (ordered 1 1 (entry Read 7 1 ∷ [])))
  pub eighth :
      Does (reacts (first drained) after_seventh (Whole (reads 8))) (record_of (Some 0) 2 (stored Read 8 2 get_a ∷ []))
      (to_both (ordered 2 1 (entry Read 8 2 ∷ [])))
  pub ninth : Does (reacts (first drained) after_eighth (Whole (reads 9))) None []
  pub waits : (next (first drained) after_eighth (Whole (reads 9))).pool ≡ reads 9 ∷ []

pub record EntryIsCut : Type 0 where
  pub cut :
      Does (reacts second follower other_ordered)
      (Some (record { term = 2; vote = None; keep = 0; entries = blank_of 2 ∷ [] })) (Tell (address 3) (Ack 2 1 1 0) ∷ [])
  pub log : (next second follower other_ordered).log ≡ blank_of 2 ∷ []

abbrev pub after_three : Member
after_three =
    next (first ones) (next (first ones) (next (first ones) (leader ones) (Whole (reads 1))) (Whole (reads 2))) (Whole (reads 3))

abbrev pub after_four : Member
after_four = next (first ones) after_three (Whole (reads 4))

abbrev pub acknowledged : Member
acknowledged = next (first ones) after_four (Told (address 2) (Ack 1 1 4 0))

-- the leader applies what the other member's acknowledgement commits, answers its own request and orders the next one
pub record ReplierIsFree : Type 0 where
  pub waits : Does (reacts (first ones) after_three (Whole (reads 4))) None []
  pub counts : Does (reacts (first ones) after_four (Told (address 2) (Ack 1 1 4 0))) None []
  pub answers :
      (finished (first ones) acknowledged).sends
      ≡ Reply (record { rid = rid 1; policy = 3; payload = 0 ∷ 0 ∷ 0 ∷ 0 ∷ 0 ∷ 0 ∷ 0 ∷ 2 ∷ 1 ∷ [] }) ∷ []
  pub orders :
      Does (reacts (first ones) acknowledged Nothing) (record_of (Some 0) 4 (stored Read 4 0 get_a ∷ []))
      (to_both (Order 1 0 4 1 1 4 false (entry Read 4 0 ∷ [])))

-- a member that voted for another candidate of the term
abbrev pub voter : Member
voter = next second beginning (Told (address 1) (VoteReq 1 0 0 0))

pub record SecondVoteIsRefused : Type 0 where
  pub grants : Does (reacts second beginning (Told (address 1) (VoteReq 1 0 0 0))) (record_of (Some 0) 0 []) (Tell (address 1) (Vote 1 1 true) ∷ [])
  pub refuses : Does (reacts second voter (Told (address 3) (VoteReq 1 2 0 0))) None (Tell (address 3) (Vote 1 1 false) ∷ [])

-- what is told in one datagram: its header, then the message
pub record MessageIsSent : Type 0 where
  pub bytes :
      datagrams_of second (Tell (address 1) (Vote 1 1 false))
      ≡ record {
        from = address 2;
        to = address 1;
        bytes =
            (0x52 ∷ 0x08 ∷ 0x62 ∷ 0xC0 ∷ 0 ∷ 0 ∷ 0 ∷ 1 ∷ [])
            ++ (2 ∷ 0 ∷ 0 ∷ 0 ∷ 0 ∷ 0 ∷ 0 ∷ 0 ∷ 1 ∷ 1 ∷ 0 ∷ []);
      } ∷ []

-- all of these
pub record WorkedTurns : Type 0 where
  pub recovered : BodyIsRecovered
  pub elected : LeaderIsElected ones
  pub drained : MemberIsDrained
  pub cut : EntryIsCut
  pub free : ReplierIsFree
  pub refused : SecondVoteIsRefused
  pub sent : MessageIsSent

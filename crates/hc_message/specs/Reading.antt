-- What bytes read as: the message whose fields they are, from left to right, or the first fault that is met.
use Rattle.std.specs.Prelude.{ℕ, zero, suc, ◌-◌, ◌==◌, if◌then◌else◌, List, [], ◌∷◌, length, max, min, nat_le, Result, Ok, Err}
use Rattle.r2_base.specs.declared.entry.Entry.{Entry}
use Rattle.r2_base.specs.Limits.{greatest_member, greatest_number, most_body, most_entries}
use Rattle.hc_message.specs.declared.field_fault.FieldFault.{FieldFault}
use Rattle.hc_message.specs.declared.field_fault.FieldFault.TheVariants as field
use Rattle.hc_message.specs.declared.msg.Msg.{Msg}
use Rattle.hc_message.specs.declared.msg.Msg.TheVariants.{VoteReq, Vote, Order, Ack, Nack, AggCommit, RecoverAsk, RecoverBody}
use Rattle.hc_message.specs.declared.order_head.OrderHead.{OrderHead}
use Rattle.hc_message.specs.declared.msg_fault.MsgFault.{MsgFault}
use Rattle.hc_message.specs.declared.msg_fault.MsgFault.TheVariants.{Short, Tag, Extra}
use Rattle.hc_message.specs.Faults.{msg_fault_of}
use Rattle.hc_message.specs.Fields.{◌>>=◌, of_fields, front_entry, front_flag, front_kind, front_number, front_small}

-- a term
unfoldable pub front_term : List ℕ → Result (ℕ × List ℕ) FieldFault
front_term bytes = front_number 1 greatest_number bytes

-- an index, or 0
unfoldable pub front_index : List ℕ → Result (ℕ × List ℕ) FieldFault
front_index bytes = front_number 0 greatest_number bytes

-- the number of a member
unfoldable pub front_member : List ℕ → Result (ℕ × List ℕ) FieldFault
front_member bytes = front_small 0 greatest_member bytes

-- so many entries, whose terms are from least to most and never fall
unfoldable pub front_entries : ℕ → ℕ → ℕ → List ℕ → Result (List Entry × List ℕ) FieldFault
front_entries zero least most bytes = Ok ([], bytes)
front_entries (suc count) least most bytes = do
  first ← front_entry least most bytes
  others ← front_entries count first.0.term most first.1
  Ok (first.0 ∷ others.0, others.1)

-- the fields of each message, and the bytes after them

unfoldable pub front_vote_request : List ℕ → Result (Msg × List ℕ) FieldFault
front_vote_request bytes = do
  term ← front_term bytes
  member ← front_member term.1
  last_index ← front_index member.1
  last_term ← front_number 0 term.0 last_index.1
  Ok (VoteReq term.0 member.0 last_index.0 last_term.0, last_term.1)

unfoldable pub front_vote : List ℕ → Result (Msg × List ℕ) FieldFault
front_vote bytes = do
  term ← front_term bytes
  member ← front_member term.1
  granted ← front_flag member.1
  Ok (Vote term.0 member.0 granted.0, granted.1)

-- what an Order has before its entries; their count is at most what there is room for after the previous index
unfoldable pub front_order_head : List ℕ → Result (OrderHead × List ℕ) FieldFault
front_order_head bytes = do
  term ← front_term bytes
  leader ← front_member term.1
  prev_index ← front_index leader.1
  prev_term ← front_number 0 term.0 prev_index.1
  term_start ← front_term prev_term.1
  commit ← front_index term_start.1
  via ← front_flag commit.1
  count ← front_small 0 (min most_entries (greatest_number - prev_index.0)) via.1
  Ok (
    record {
      term = term.0;
      leader = leader.0;
      prev_index = prev_index.0;
      prev_term = prev_term.0;
      term_start = term_start.0;
      commit = commit.0;
      via = via.0;
      count = count.0;
    },
    count.1,
  )

-- the Order of a head and entries
abbrev pub order_of : OrderHead → List Entry → Msg
order_of h entries = Order h.term h.leader h.prev_index h.prev_term h.term_start h.commit h.via entries

unfoldable pub front_order : List ℕ → Result (Msg × List ℕ) FieldFault
front_order bytes = do
  head ← front_order_head bytes
  entries ← front_entries head.0.count (max 1 head.0.prev_term) head.0.term head.1
  Ok (order_of head.0 entries.0, entries.1)

unfoldable pub front_ack : List ℕ → Result (Msg × List ℕ) FieldFault
front_ack bytes = do
  term ← front_term bytes
  member ← front_member term.1
  index ← front_index member.1
  applied ← front_index index.1
  Ok (Ack term.0 member.0 index.0 applied.0, applied.1)

unfoldable pub front_nack : List ℕ → Result (Msg × List ℕ) FieldFault
front_nack bytes = do
  term ← front_term bytes
  member ← front_member term.1
  hint ← front_index member.1
  Ok (Nack term.0 member.0 hint.0, hint.1)

unfoldable pub front_commit : List ℕ → Result (Msg × List ℕ) FieldFault
front_commit bytes = do
  term ← front_term bytes
  index ← front_index term.1
  Ok (AggCommit term.0 index.0, index.1)

unfoldable pub front_ask : List ℕ → Result (Msg × List ℕ) FieldFault
front_ask bytes = do
  member ← front_member bytes
  Ok (RecoverAsk member.0, member.1)

-- the body goes to the end
unfoldable pub front_body : List ℕ → Result (Msg × List ℕ) FieldFault
front_body bytes = do
  kind ← front_kind 1 bytes
  if nat_le (length kind.1) most_body then Ok (RecoverBody kind.0 kind.1, []) else Err field.Range

-- the fields after the tag, by the tag
unfoldable pub front_fields : ℕ → List ℕ → Result (Msg × List ℕ) MsgFault
front_fields tag bytes =
    if tag == 1 then of_fields msg_fault_of (front_vote_request bytes)
    else (if tag == 2 then of_fields msg_fault_of (front_vote bytes)
    else (if tag == 3 then of_fields msg_fault_of (front_order bytes)
    else (if tag == 4 then of_fields msg_fault_of (front_ack bytes)
    else (if tag == 5 then of_fields msg_fault_of (front_nack bytes)
    else (if tag == 6 then of_fields msg_fault_of (front_commit bytes)
    else (if tag == 7 then of_fields msg_fault_of (front_ask bytes)
    else (if tag == 8 then of_fields msg_fault_of (front_body bytes)
    else Err Tag)))))))

-- a message whose fields were read, where nothing follows them
abbrev pub ended : Result (Msg × List ℕ) MsgFault → Result Msg MsgFault
ended (Ok (m, [])) = Ok m
ended (Ok (m, b ∷ rest)) = Err Extra
ended (Err fault) = Err fault

-- what the bytes read as: a message, or the first fault from left to right
unfoldable pub decode_message : List ℕ → Result Msg MsgFault
decode_message [] = Err Short
decode_message (tag ∷ bytes) = ended (front_fields tag bytes)

-- Runs by computation.
use Rattle.std.proofs.Common.{◌≡◌, ℕ, zero, suc, true, List, [], ◌∷◌, ◌++◌, ◌∙◌, ◌<◌, slice_index, Some, refl, sym, ap, subst, arith, inl}
use Rattle.std.specs.Prelude.{slice_get}
use Rattle.std.specs.FinMap as map
use Rattle.r2_base.specs.declared.datagram.Datagram.{Datagram}
use Rattle.r2_base.specs.declared.entry.Kind.TheVariants.{Read}
use Rattle.r2_base.specs.Numbers.{u16_bytes, u32_bytes, u64_bytes}
use Rattle.r2_header.specs.Header.{client_bytes, kind_bytes, spelling}
use Rattle.r2_header.specs.Reading.{header_at, fields_at, client_at, u16_at, u32_at}
use Rattle.r2_frag.specs.Assembly.{added, added_to, begin, begun, go_on, has_all, is_begun, joined, message_under, put, refusal, settle, with_part, without}
use Rattle.r2_frag.specs.Keys.{key_at, same_key}
use Rattle.r2_frag.specs.Parts.{part_count, part_datagram, part_header, parts_of, piece}
use Rattle.r2_frag.specs.Replies.{reply_parts}
use Rattle.hc_log.specs.Durable.{replay}
use Rattle.hc_log.specs.Log.{body_bytes_of, has_room, requests_of, stands_in}
use Rattle.hc_message.specs.declared.msg.Msg.TheVariants.{VoteReq, Vote, Ack, AggCommit}
use Rattle.hc_message.specs.Message.{message_bytes}
use Rattle.hc_message.specs.Fields.{front_entry, front_flag, front_kind, front_number, front_replier, front_rid, front_rid_of_kind, front_small, front_u16, front_u32, front_u64}
use Rattle.hc_message.specs.Reading.{decode_message, front_ack, front_commit, front_entries, front_fields, front_index, front_member, front_order, front_order_head, front_term, front_vote, front_vote_request}
use Rattle.hc_message.specs.Entry.{narrow_entry_bytes, narrow_rid_bytes}
use Rattle.hc_packet.specs.Packet.{message_datagram, message_in}
use Rattle.hc_order.specs.Counting.{counted}
use Rattle.hc_order.specs.Ordering.{next_ordered, ordered}
use Rattle.hc_order.specs.Taking.{agreeing, appending, missing, released, taken}
use Rattle.hc_pool.specs.Pool.{request_of, waits_in}
use Rattle.hc_replier.specs.Queues.{choose}
use Rattle.hc_service.specs.Batch.{run_all, run_one}
use Rattle.hc_store.specs.Replies.{payload_of, reply_of}
use Rattle.hc_store.specs.Service.{Served, absent, answered, serve}
use Rattle.hc_member.specs.Bodies.{hear_request, pooled}
use Rattle.hc_member.specs.Finish.{applied, batched, due, finished}
use Rattle.hc_member.specs.Heard.{receive, with_received}
use Rattle.hc_member.specs.Member.{anew}
use Rattle.hc_member.specs.Orders.{follows, fresh_orders, hear_order, refuse, take_order}
use Rattle.hc_member.specs.Reports.{hear_ack, hear_commit}
use Rattle.hc_member.specs.Sending.{datagrams_of}
use Rattle.hc_member.specs.Ticks.{campaigns, ticked, waited, waits}
use Rattle.hc_member.specs.Turn.{counting, ordering, reacted, reacted_to, row, settled, stored_of, turned}
use Rattle.hc_member.specs.Votes.{hear_vote, hear_vote_request, rise_to, stands, votes_on, wins}
use Rattle.hc_member.specs.Worked.{address, get_a, rid}
use Rattle.hc_member.proofs.Examples.{nothing_there}
use Rattle.hc_aggregate.specs.Tally.{found}
use Rattle.hc_aggregate.specs.Turn.{hear_ack as ack_counted, hear_order as order_counted, reacted as aggregator_reacted}
use Rattle.hc_rules.specs.Message.{Reply}
use Rattle.hc_run.specs.Group.{Group, Aggregator, Member, receiver_at}
use Rattle.hc_run.specs.Steps.{asked, crashes_in_turn, ends, index_in, makes_turn, request_parts, step, with_finished, with_heard, with_sent}
use Rattle.hc_run.specs.Runs.{run}
use Rattle.hc_run.specs.State.{GroupState, is_up}
use Rattle.hc_run.specs.ReplyParts.{IsReplyPart, ReadsAsReply}
use Rattle.hc_run.specs.Events.{IsDeliverable, IsNew}
use Rattle.hc_run.specs.Examples.{IsAnswered, IsAggregated, IsEnded, IsKept, IsLedAgain, IsLost, WorkedRuns, aggregator, alone, alone_events, absent_reply, answered_packet, asked_packet, asks, aggregated, aggregated_events, aggregated_order, ended_events, kept_events, lost_events, three}

-- the packets, where the reply to the entry at an index is what was served
abbrev packets_by : ℕ → Served → List Datagram
packets_by index served = asked_packet ∷ reply_parts (address 1) (rid 7) 3 (reply_of index served) ++ []

-- and the reply
abbrev replied_by : ℕ → Served → List Reply
replied_by index served =
    record { request = rid 7; index = index_in (reply_of index served); payload = reply_of index served; place = 1 } ∷ []

answered_parts : packets_by 2 (answered map.empty absent []) ≡ asked_packet ∷ answered_packet 2 ∷ []
unfolding reply_parts payload_of u64_bytes parts_of part_datagram part_header part_count piece spelling kind_bytes client_bytes u16_bytes index_in
answered_parts = refl

answered_reply : replied_by 2 (answered map.empty absent []) ≡ absent_reply 2 ∷ []
unfolding reply_parts payload_of u64_bytes parts_of part_datagram part_header part_count piece spelling kind_bytes client_bytes u16_bytes index_in
answered_reply = refl

-- what goes out reads as a part of a reply, and what came in doesn't
answered_reads : ReadsAsReply (answered_packet 2)
unfolding header_at fields_at client_at u16_at u32_at
answered_reads = refl

asked_silent : ReadsAsReply asked_packet → ⊥
unfolding header_at fields_at client_at u16_at u32_at
asked_silent reads = absurd cc

-- it is the only part of the reply
answered_part : (replied : List Reply) → replied ≡ replied_by 2 (serve map.empty Read get_a) → IsReplyPart alone replied (answered_packet 2)
unfolding reply_parts u64_bytes parts_of part_datagram part_header part_count piece spelling kind_bytes client_bytes u16_bytes
answered_part replied made =
    subst (λ (l : List Reply). IsReplyPart alone l (answered_packet 2)) (sym (made ∙ ap (replied_by 2) nothing_there ∙ answered_reply))
    (record { reply = absent_reply 2; there = inl refl; part = record { from = inl refl; policy = 3; part = inl refl } })

lost_parts : packets_by 3 (answered map.empty absent []) ≡ asked_packet ∷ answered_packet 3 ∷ []
unfolding reply_parts payload_of u64_bytes parts_of part_datagram part_header part_count piece spelling kind_bytes client_bytes u16_bytes index_in
lost_parts = refl

lost_reply : replied_by 3 (answered map.empty absent []) ≡ absent_reply 3 ∷ []
unfolding reply_parts payload_of u64_bytes parts_of part_datagram part_header part_count piece spelling kind_bytes client_bytes u16_bytes index_in
lost_reply = refl

bytes_of_get : (i : ℕ) → slice_index get_a i < 256
bytes_of_get zero = omega arith
bytes_of_get (suc zero) = omega arith
bytes_of_get (suc (suc zero)) = omega arith
bytes_of_get (suc (suc (suc zero))) = omega arith
bytes_of_get (suc (suc (suc (suc i)))) = omega arith

-- the request may be sent, and its packet comes to the member
asks_is_new : IsNew [] asks
asks_is_new =
    record {
      fits = record { id = omega arith; client = record { ip = omega arith; port = omega arith } };
      fresh = λ known. known.sent;
      asks = refl;
      short = omega arith;
      bytes = λ i. bytes_of_get i;
    }

is_answered : IsAnswered
unfolding step asked makes_turn with_finished with_heard with_sent request_parts receiver_at turned reacted reacted_to row settled stored_of finished due batched run_all run_one applied anew replay ticked waits waited campaigns stands wins ordering ordered next_ordered choose fresh_orders counting counted hear_request pooled stands_in waits_in has_room requests_of body_bytes_of datagrams_of with_received receive header_at fields_at client_at u16_at u32_at key_at same_key added added_to begin begun go_on has_all is_begun joined message_under put refusal settle with_part without parts_of part_datagram part_header part_count piece spelling kind_bytes client_bytes u16_bytes
is_answered =
    let made : (run alone alone_events).replied ≡ replied_by 2 (serve map.empty Read get_a) = refl in
    let packets : (run alone alone_events).datagrams ≡ packets_by 2 (serve map.empty Read get_a) = refl in
    record {
      possible = record { possible = (refl, (asks_is_new, (record { receiver = Member 0; sent = record { datagram = asked_packet; sent = refl; to = refl }; takes = refl }, (refl, tt)))) };
      datagrams = packets ∙ ap (packets_by 2) nothing_there ∙ answered_parts;
      replied = made ∙ ap (replied_by 2) nothing_there ∙ answered_reply;
      passed = refl;
      reports = refl;
      journal = refl;
      reads = answered_reads;
      part = answered_part _ made;
      silent = asked_silent;
    }

is_lost : IsLost
unfolding step asked makes_turn with_finished with_heard with_sent request_parts receiver_at turned reacted reacted_to row settled stored_of finished due batched run_all run_one applied anew replay ticked waits waited campaigns stands wins ordering ordered next_ordered choose fresh_orders counting counted hear_request pooled stands_in waits_in has_room requests_of body_bytes_of datagrams_of with_received receive header_at fields_at client_at u16_at u32_at key_at same_key added added_to begin begun go_on has_all is_begun joined message_under put refusal settle with_part without parts_of part_datagram part_header part_count piece spelling kind_bytes client_bytes u16_bytes crashes_in_turn
is_lost =
    let made : (run alone lost_events).replied ≡ replied_by 3 (serve map.empty Read get_a) = refl in
    let packets : (run alone lost_events).datagrams ≡ packets_by 3 (serve map.empty Read get_a) = refl in
    record {
      possible = record { possible = (refl, (asks_is_new, (record { runs = refl; sent = record { datagram = asked_packet; sent = refl; to = refl } }, (record { member = omega arith; down = refl }, (refl, (record { receiver = Member 0; sent = record { datagram = asked_packet; sent = refl; to = refl }; takes = refl }, (refl, tt))))))) };
      datagrams = packets ∙ ap (packets_by 3) nothing_there ∙ lost_parts;
      replied = made ∙ ap (replied_by 3) nothing_there ∙ lost_reply;
      passed = refl;
      reports = refl;
      journal = refl;
      crashes = refl;
    }

is_kept : IsKept
unfolding step asked makes_turn with_finished with_heard with_sent request_parts receiver_at turned reacted reacted_to row settled stored_of finished due batched run_all run_one applied anew replay ticked waits waited campaigns stands wins ordering ordered next_ordered choose fresh_orders counting counted hear_request pooled stands_in waits_in has_room requests_of body_bytes_of datagrams_of with_received receive header_at fields_at client_at u16_at u32_at key_at same_key added added_to begin begun go_on has_all is_begun joined message_under put refusal settle with_part without parts_of part_datagram part_header part_count piece spelling kind_bytes client_bytes u16_bytes crashes_in_turn
is_kept =
    let made : (run alone kept_events).replied ≡ replied_by 2 (serve map.empty Read get_a) = refl in
    let packets : (run alone kept_events).datagrams ≡ packets_by 2 (serve map.empty Read get_a) = refl in
    record {
      possible = record { possible = (refl, (asks_is_new, (record { runs = refl; sent = record { datagram = asked_packet; sent = refl; to = refl } }, (record { member = omega arith; down = refl }, (refl, (refl, tt)))))) };
      datagrams = packets ∙ ap (packets_by 2) nothing_there ∙ answered_parts;
      replied = made ∙ ap (replied_by 2) nothing_there ∙ answered_reply;
      passed = refl;
      reports = refl;
      journal = refl;
      crashes = refl;
    }

is_ended : IsEnded
unfolding step asked makes_turn with_finished with_heard with_sent request_parts receiver_at turned reacted reacted_to row settled stored_of finished due batched run_all run_one applied anew replay ticked waits waited campaigns stands wins ordering ordered next_ordered choose fresh_orders counting counted hear_request pooled stands_in waits_in has_room requests_of body_bytes_of datagrams_of with_received receive header_at fields_at client_at u16_at u32_at key_at same_key added added_to begin begun go_on has_all is_begun joined message_under put refusal settle with_part without parts_of part_datagram part_header part_count piece spelling kind_bytes client_bytes u16_bytes ends
is_ended =
    let made : (run alone ended_events).replied ≡ replied_by 2 (serve map.empty Read get_a) = refl in
    let packets : (run alone ended_events).datagrams ≡ packets_by 2 (serve map.empty Read get_a) = refl in
    record {
      possible = record { possible = (refl, (asks_is_new, (record { receiver = Member 0; sent = record { datagram = asked_packet; sent = refl; to = refl }; takes = refl }, (record { runs = refl; once = omega arith }, tt)))) };
      datagrams = packets ∙ ap (packets_by 2) nothing_there ∙ answered_parts;
      replied = made ∙ ap (replied_by 2) nothing_there ∙ answered_reply;
      passed = refl;
      reports = refl;
      place = refl;
      crashes = refl;
    }

-- a datagram comes to a member
comes : (g : Group) (s : GroupState) (number v : ℕ) (d : Datagram) → slice_get s.datagrams number ≡ Some d → receiver_at g d.to ≡ Member v
    → is_up s v ≡ true → IsDeliverable g s number
comes g s number v d sent to up =
    record { receiver = Member v; sent = record { datagram = d; sent = sent; to = to }; takes = up }

is_led_again : IsLedAgain
unfolding step asked makes_turn with_finished with_heard with_sent request_parts receiver_at turned reacted reacted_to row settled stored_of finished due batched run_all run_one applied anew replay ticked waits waited campaigns stands wins ordering ordered next_ordered choose fresh_orders counting counted hear_request pooled stands_in waits_in has_room requests_of body_bytes_of datagrams_of with_received receive header_at fields_at client_at u16_at u32_at key_at same_key added added_to begin begun go_on has_all is_begun joined message_under put refusal settle with_part without parts_of part_datagram part_header part_count piece spelling kind_bytes client_bytes u16_bytes hear_vote_request votes_on rise_to hear_vote hear_order follows take_order refuse taken agreeing appending released missing hear_ack decode_message front_fields front_vote_request front_vote front_order front_order_head front_entries front_ack front_term front_index front_member front_number front_small front_flag front_kind front_entry front_rid_of_kind front_rid front_replier front_u64 front_u32 front_u16 message_bytes narrow_entry_bytes narrow_rid_bytes u64_bytes u32_bytes
is_led_again =
    record {
      possible = record {
        possible = (
          refl,
          (
            comes three _ 0 1 _ refl refl refl,
            (
              comes three _ 2 0 _ refl refl refl,
              (
                comes three _ 3 1 _ refl refl refl,
                (
                  comes three _ 5 0 _ refl refl refl,
                  (refl, (refl, (refl, (refl, (refl, (comes three _ 7 2 _ refl refl refl, (comes three _ 8 1 _ refl refl refl, tt))))))),
                ),
              ),
            ),
          ),
        );
      };
      passed = refl;
      leads = refl;
    }

is_aggregated : IsAggregated
unfolding step asked makes_turn with_finished with_heard with_sent request_parts receiver_at turned reacted reacted_to row settled stored_of finished due batched run_all run_one applied anew replay ticked waits waited campaigns stands wins ordering ordered next_ordered choose fresh_orders counting counted hear_request pooled stands_in waits_in has_room requests_of body_bytes_of datagrams_of with_received receive header_at fields_at client_at u16_at u32_at key_at same_key added added_to begin begun go_on has_all is_begun joined message_under put refusal settle with_part without parts_of part_datagram part_header part_count piece spelling kind_bytes client_bytes u16_bytes hear_vote_request votes_on rise_to hear_vote hear_order follows take_order refuse taken agreeing appending released missing hear_ack decode_message front_fields front_vote_request front_vote front_order front_order_head front_entries front_ack front_term front_index front_member front_number front_small front_flag front_kind front_entry front_rid_of_kind front_rid front_replier front_u64 front_u32 front_u16 message_bytes narrow_entry_bytes narrow_rid_bytes u64_bytes u32_bytes hear_commit order_counted ack_counted aggregator_reacted found message_in request_of front_commit
is_aggregated =
    let packet : slice_get (run aggregated aggregated_events).datagrams 13 ≡ slice_get (packets_by 2 (serve map.empty Read get_a)) 1 = refl in
    let made : (run aggregated aggregated_events).replied ≡ replied_by 2 (serve map.empty Read get_a) = refl in
    record {
      possible = record {
        possible = (
          asks_is_new,
          (
            record { receiver = Member 0; sent = record { datagram = asked_packet; sent = refl; to = refl }; takes = refl },
            (
              record { receiver = Member 1; sent = record { datagram = record asked_packet { to = address 2 }; sent = refl; to = refl }; takes = refl },
              (
                refl,
                (
                  record { receiver = Member 1; sent = record { datagram = message_datagram (address 1) (address 2) (VoteReq 1 0 0 0); sent = refl; to = refl }; takes = refl },
                  (
                    record { receiver = Member 0; sent = record { datagram = message_datagram (address 2) (address 1) (Vote 1 1 true); sent = refl; to = refl }; takes = refl },
                    (
                      record { receiver = Aggregator; sent = record { datagram = message_datagram (address 1) aggregator aggregated_order; sent = refl; to = refl }; takes = tt },
                      (
                        record { receiver = Member 1; sent = record { datagram = message_datagram aggregator (address 2) aggregated_order; sent = refl; to = refl }; takes = refl },
                        (record { receiver = Aggregator; sent = record { datagram = message_datagram (address 2) aggregator (Ack 1 1 2 0); sent = refl; to = refl }; takes = tt }, (record { receiver = Member 0; sent = record { datagram = message_datagram aggregator (address 1) (AggCommit 1 2); sent = refl; to = refl }; takes = refl }, (refl, tt))),
                      ),
                    ),
                  ),
                ),
              ),
            ),
          ),
        );
      };
      ordered = refl;
      handed_on = refl;
      acknowledged = refl;
      committed = refl;
      answered = packet ∙ ap (λ served. slice_get (packets_by 2 served) 1) nothing_there ∙ ap (λ (l : List Datagram). slice_get l 1) answered_parts;
      replied = made ∙ ap (replied_by 2) nothing_there ∙ answered_reply;
      passed = refl;
      counts = refl;
    }

pub worked_runs : WorkedRuns
worked_runs = record { answered = is_answered; lost = is_lost; kept = is_kept; ended = is_ended; led_again = is_led_again; aggregated = is_aggregated }

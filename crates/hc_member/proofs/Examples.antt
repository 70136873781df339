-- The worked conversations, by computation.
use Rattle.std.proofs.Common.{◌≡◌, ℕ, List, [], ◌∷◌, refl, ap}
use Rattle.std.specs.FinMap as map
use Rattle.r2_base.specs.declared.entry.Kind.TheVariants.{Read}
use Rattle.r2_base.specs.Numbers.{u16_bytes, u64_bytes}
use Rattle.r2_header.specs.Header.{client_bytes, kind_bytes, spelling}
use Rattle.hc_message.specs.Message.{message_bytes}
use Rattle.hc_log.specs.Log.{stands_in, has_room, requests_of, body_bytes_of}
use Rattle.hc_pool.specs.Pool.{request_of, waits_in, without}
use Rattle.hc_replier.specs.Queues.{choose}
use Rattle.hc_store.specs.Command.{command_of}
use Rattle.hc_store.specs.Replies.{payload_of}
use Rattle.hc_store.specs.Service.{Served, absent, answered, looked_up, serve}
use Rattle.hc_store.proofs.Maps.{R}
use Rattle.hc_order.specs.Counting.{counted}
use Rattle.hc_order.specs.Ordering.{next_ordered, ordered}
use Rattle.hc_order.specs.Taking.{agreeing, appending, missing, released, taken}
use Rattle.hc_service.specs.Batch.{answer_of, run_all, run_one}
use Rattle.hc_member.specs.Bodies.{hear_request, pooled, take_body}
use Rattle.hc_member.specs.Examples.{BodyIsRecovered, EntryIsCut, LeaderIsElected, MemberIsDrained, MessageIsSent, ReplierIsFree, SecondVoteIsRefused, WorkedTurns}
use Rattle.hc_member.specs.Worked.{get_a, ones, stored}
use Rattle.hc_member.specs.Finish.{applied, batched, due, finished, reply_to}
use Rattle.hc_member.specs.Member.{anew}
use Rattle.hc_member.specs.Orders.{follows, fresh_orders, hear_order, take_order}
use Rattle.hc_member.specs.Reports.{hear_ack}
use Rattle.hc_member.specs.Sending.{Sending, Reply, datagrams_of}
use Rattle.hc_member.specs.Ticks.{campaigns, ticked, waited, waits}
use Rattle.hc_member.specs.Turn.{counting, ordering, reacted_to, row, settled, stored_of}
use Rattle.hc_member.specs.Votes.{hear_vote, hear_vote_request, rise_to, stands, votes_on, wins}

message_is_sent : MessageIsSent
unfolding datagrams_of spelling kind_bytes client_bytes u16_bytes u64_bytes message_bytes
message_is_sent = record { bytes = refl }

second_vote_is_refused : SecondVoteIsRefused
unfolding reacted_to row settled stored_of finished due batched run_all run_one applied hear_vote_request votes_on rise_to anew
second_vote_is_refused =
    record { grants = record { stored = refl; sent = refl }; refuses = record { stored = refl; sent = refl } }

leader_is_elected : LeaderIsElected ones
unfolding reacted_to row settled stored_of finished due batched run_all run_one applied anew ticked waits waited campaigns stands wins hear_vote rise_to ordering ordered next_ordered choose fresh_orders counting counted
leader_is_elected =
    record {
      stands = record { stored = refl; sent = refl };
      wins = record { stored = refl; sent = refl };
      tells = record { stored = refl; sent = refl };
    }

body_is_recovered : BodyIsRecovered
unfolding reacted_to row settled stored_of finished due batched run_all run_one applied anew hear_request pooled stands_in waits_in request_of without has_room requests_of body_bytes_of hear_order rise_to follows take_order taken agreeing released appending missing take_body
body_is_recovered =
    record {
      pooled = record { stored = refl; sent = refl };
      lacks = record { stored = refl; sent = refl };
      given = record { stored = refl; sent = refl };
      takes = record { stored = refl; sent = refl };
    }

entry_is_cut : EntryIsCut
unfolding reacted_to row settled stored_of finished due batched run_all run_one applied anew hear_request stands_in waits_in hear_order rise_to follows take_order taken agreeing released appending missing
entry_is_cut = record { cut = record { stored = refl; sent = refl }; log = refl }

member_is_drained : MemberIsDrained
unfolding reacted_to row settled stored_of finished due batched run_all run_one applied anew ticked waits waited campaigns stands wins hear_vote rise_to ordering ordered next_ordered choose fresh_orders counting counted hear_request pooled stands_in waits_in has_room requests_of body_bytes_of
member_is_drained =
    record {
      seventh = record { stored = refl; sent = refl };
      eighth = record { stored = refl; sent = refl };
      ninth = record { stored = refl; sent = refl };
      waits = refl;
    }

-- nothing is kept yet
pub nothing_there : serve map.empty Read get_a ≡ answered map.empty absent []
unfolding serve command_of
nothing_there = ap (looked_up map.empty) (map.get-empty {K = List ℕ} {X = List ℕ} R (0x61 ∷ []))

-- what goes out where this was served
answered_by : Served → List Sending
answered_by served = Reply (reply_to (answer_of 2 (stored Read 1 0 get_a) served)) ∷ []

replier_is_free : ReplierIsFree
unfolding reacted_to row settled stored_of finished due batched run_all run_one applied anew ticked waits waited campaigns stands wins hear_vote rise_to ordering ordered next_ordered choose fresh_orders counting counted hear_request hear_ack pooled stands_in waits_in has_room requests_of body_bytes_of payload_of u64_bytes answered_by
replier_is_free =
    record {
      waits = record { stored = refl; sent = refl };
      counts = record { stored = refl; sent = refl };
      answers = ap answered_by nothing_there;
      orders = record { stored = refl; sent = refl };
    }

pub worked_turns : WorkedTurns
worked_turns =
    record {
      recovered = body_is_recovered;
      elected = leader_is_elected;
      drained = member_is_drained;
      cut = entry_is_cut;
      free = replier_is_free;
      refused = second_vote_is_refused;
      sent = message_is_sent;
    }

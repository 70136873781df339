-- The single situations, by computation.
use Rattle.std.proofs.Common.{List, [], ◌∷◌, refl, ap}
use Rattle.r2_base.specs.Numbers.{u64_bytes}
use Rattle.r2_base.specs.declared.entry.Kind.TheVariants.{Read}
use Rattle.r2_frag.specs.Kept.{newest}
use Rattle.hc_log.specs.Log.{body_bytes_of, has_room, requests_of, stands_in}
use Rattle.hc_pool.specs.Pool.{waits_in}
use Rattle.hc_replier.specs.Queues.{choose}
use Rattle.hc_store.specs.Replies.{payload_of}
use Rattle.hc_store.specs.Service.{Served}
use Rattle.hc_order.specs.Counting.{counted}
use Rattle.hc_order.specs.Ordering.{next_ordered, ordered}
use Rattle.hc_order.specs.Taking.{agreeing, appending, missing, released, taken}
use Rattle.hc_service.specs.Batch.{answer_of, run_all, run_one}
use Rattle.hc_member.specs.Bodies.{hear_request, pooled}
use Rattle.hc_member.specs.Finish.{applied, batched, due, finished, reply_to}
use Rattle.hc_member.specs.Member.{anew}
use Rattle.hc_member.specs.Orders.{follows, fresh_orders, hear_order, refuse, take_order}
use Rattle.hc_member.specs.Reports.{hear_commit, hear_nack}
use Rattle.hc_member.specs.Sending.{Sending, Reply}
use Rattle.hc_member.specs.Situations.{AggregatorIsBetween, CandidateYields, LeaderGoesBack, LeaderRestarts, LongerLogIsKept, OneIsEnough, OrderIsRefused, WorkedSituations}
use Rattle.hc_member.specs.Ticks.{campaigns, ticked, waited, waits}
use Rattle.hc_member.specs.Turn.{counting, ordering, reacted_to, row, settled, stored_of}
use Rattle.hc_member.specs.Votes.{hear_vote, hear_vote_request, rise_to, stands, votes_on, wins}
use Rattle.hc_member.specs.Worked.{get_a, stored}
use Rattle.hc_member.proofs.Examples.{nothing_there}

-- what goes out where this was served
answered_by : Served → List Sending
answered_by served = Reply (reply_to (answer_of 2 (stored Read 7 0 get_a) served)) ∷ []

one_is_enough : OneIsEnough
unfolding reacted_to row settled stored_of finished due batched run_all run_one applied anew ticked waits waited campaigns stands wins ordering ordered next_ordered choose fresh_orders counting counted hear_request pooled stands_in waits_in has_room requests_of body_bytes_of payload_of u64_bytes newest answered_by
one_is_enough =
    record {
      wins = record { stored = refl; sent = refl };
      orders = record { stored = refl; sent = refl };
      answers = ap answered_by nothing_there;
      again = record { stored = refl; sent = ap answered_by nothing_there };
    }

leader_restarts : LeaderRestarts
unfolding reacted_to row settled stored_of finished due batched run_all run_one applied anew ticked waits waited campaigns stands wins hear_vote ordering ordered next_ordered choose fresh_orders counting counted
leader_restarts = record { term = refl; vote = refl; log = refl; role = refl }

aggregator_is_between : AggregatorIsBetween
unfolding reacted_to row settled stored_of finished due batched run_all run_one applied anew ticked waits waited campaigns stands wins hear_vote ordering ordered next_ordered choose fresh_orders counting counted hear_order rise_to follows take_order taken agreeing released appending missing stands_in waits_in hear_commit
aggregator_is_between =
    record {
      ordered = record { stored = refl; sent = refl };
      taken = record { stored = refl; sent = refl };
      committed = refl;
      not_by_another = refl;
      not_from_another = record { stored = refl; sent = refl };
    }

order_is_refused : OrderIsRefused
unfolding reacted_to row settled stored_of finished due batched run_all run_one applied anew hear_order rise_to follows refuse take_order taken agreeing released appending missing stands_in waits_in
order_is_refused =
    record {
      stranger = record { stored = refl; sent = refl };
      missing = record { stored = refl; sent = refl };
      earlier = record { stored = refl; sent = refl };
    }

candidate_yields : CandidateYields
unfolding reacted_to row settled stored_of finished due batched run_all run_one applied anew ticked waits waited campaigns stands hear_order rise_to follows refuse
candidate_yields = record { does = record { stored = refl; sent = refl }; role = refl }

leader_goes_back : LeaderGoesBack
unfolding reacted_to row settled stored_of finished due batched run_all run_one applied anew ticked waits waited campaigns stands wins hear_vote hear_nack ordering ordered next_ordered choose fresh_orders counting counted
leader_goes_back = record { does = record { stored = refl; sent = refl } }

longer_log_is_kept : LongerLogIsKept
unfolding reacted_to row settled stored_of finished due batched run_all run_one applied anew hear_order rise_to follows take_order taken agreeing released appending missing stands_in waits_in hear_vote_request votes_on
longer_log_is_kept = record { does = record { stored = refl; sent = refl } }

pub worked_situations : WorkedSituations
worked_situations =
    record {
      alone = one_is_enough;
      restarts = leader_restarts;
      aggregated = aggregator_is_between;
      refused = order_is_refused;
      yields = candidate_yields;
      back = leader_goes_back;
      longer = longer_log_is_kept;
    }

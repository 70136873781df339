-- Loops by computation.
use Rattle.std.proofs.Common.{◌≡◌, ℕ, zero, suc, List, [], ◌∷◌, ◌++◌, ◌∙◌, ◌<◌, slice_index, refl, sym, ap, arith, inl, inr}
use Rattle.std.specs.FinMap as map
use Rattle.r2_base.specs.declared.datagram.Datagram.{Datagram}
use Rattle.r2_base.specs.declared.rid.Rid.{Rid}
use Rattle.r2_base.specs.declared.entry.Kind.TheVariants.{Read}
use Rattle.r2_base.specs.Numbers.{u16_bytes, u64_bytes}
use Rattle.r2_header.specs.Header.{client_bytes, kind_bytes, spelling}
use Rattle.r2_header.specs.Reading.{header_at, fields_at, client_at, u16_at, u32_at}
use Rattle.r2_frag.specs.Assembly.{added, added_to, begin, begun, go_on, has_all, is_begun, joined, message_under, put, refusal, settle, with_part, without}
use Rattle.r2_frag.specs.Keys.{key_at, same_key}
use Rattle.r2_frag.specs.Parts.{part_count, part_datagram, part_header, parts_of, piece}
use Rattle.r2_frag.specs.Replies.{reply_parts}
use Rattle.hc_log.specs.Durable.{replay}
use Rattle.hc_log.specs.Log.{body_bytes_of, has_room, requests_of, stands_in}
use Rattle.hc_order.specs.Counting.{counted}
use Rattle.hc_order.specs.Ordering.{next_ordered, ordered}
use Rattle.hc_pool.specs.Pool.{waits_in}
use Rattle.hc_replier.specs.Queues.{choose}
use Rattle.hc_service.specs.Batch.{run_all, run_one}
use Rattle.hc_store.specs.Replies.{payload_of, reply_of}
use Rattle.hc_store.specs.Service.{Served, absent, answered, serve}
use Rattle.hc_member.specs.Bodies.{hear_request, pooled}
use Rattle.hc_member.specs.Finish.{applied, batched, due, finished}
use Rattle.hc_member.specs.Heard.{receive, with_received}
use Rattle.hc_member.specs.Member.{anew}
use Rattle.hc_member.specs.Orders.{fresh_orders}
use Rattle.hc_member.specs.Sending.{datagrams_of}
use Rattle.hc_member.specs.Ticks.{campaigns, ticked, waited, waits}
use Rattle.hc_member.specs.Turn.{counting, ordering, reacted, reacted_to, row, settled, stored_of, turned}
use Rattle.hc_member.specs.Votes.{stands, wins}
use Rattle.hc_member.specs.Worked.{address, get_a, rid}
use Rattle.hc_member.proofs.Examples.{nothing_there}
use Rattle.hc_rules.specs.Message.{Request}
use Rattle.hc_rules.specs.Requests.{IsKnown}
use Rattle.hc_run.specs.Group.{receiver_at}
use Rattle.hc_run.specs.Events.{IsNew}
use Rattle.hc_run.specs.Examples.{alone, answered_packet, asked_packet, asks}
use Rattle.hc_run.specs.Group.{setup_of}
use Rattle.hc_run.specs.ReplyParts.{ReadsAsReply}
use Rattle.hc_run.specs.Steps.{request_parts}
use Rattle.hc_run.proofs.Items.{in-right}
use Rattle.cmd_replica.specs.Replica.{served}
use Rattle.cmd_group.specs.Steps.{acts_at}
use Rattle.cmd_group.specs.Lives.{AreLives, acts_of_lives, served_in}
use Rattle.cmd_group.specs.Loops.{AllCome}
use Rattle.cmd_group.specs.Members.{closing_sends}
use Rattle.cmd_group.specs.Merge.{begun as all_begun, loops_after}
use Rattle.cmd_group.specs.Examples.{IsWorked, again_answered, again_packet, asks_again, earlier_steps, later_steps, second_life, worked_lives}

-- the packet of the reply to a request at an index, where the reply is what was served
abbrev packets_by : ℕ → ℕ → Served → List Datagram
packets_by id index served = reply_parts (address 1) (rid id) 3 (reply_of index served) ++ []

answered_parts : packets_by 7 2 (answered map.empty absent []) ≡ answered_packet 2 ∷ []
unfolding reply_parts payload_of u64_bytes parts_of part_datagram part_header part_count piece spelling kind_bytes client_bytes u16_bytes
answered_parts = refl

again_parts : packets_by 8 4 (answered map.empty absent []) ≡ again_answered ∷ []
unfolding reply_parts payload_of u64_bytes parts_of part_datagram part_header part_count piece spelling kind_bytes client_bytes u16_bytes
again_parts = refl

closing_parts : closing_sends (setup_of alone 0) (served_in (setup_of alone 0) second_life).member 1 ≡ packets_by 8 4 (serve map.empty Read get_a) ++ []
unfolding request_parts receiver_at turned reacted reacted_to row settled stored_of finished due batched run_all run_one applied anew replay ticked waits waited campaigns stands wins ordering ordered next_ordered choose fresh_orders counting counted hear_request pooled stands_in waits_in has_room requests_of body_bytes_of datagrams_of with_received receive header_at fields_at client_at u16_at u32_at key_at same_key added added_to begin begun go_on has_all is_begun joined message_under put refusal settle with_part without parts_of part_datagram part_header part_count piece spelling kind_bytes client_bytes u16_bytes served closing_sends
closing_parts = refl

bytes_of_get : (i : ℕ) → slice_index get_a i < 256
bytes_of_get zero = omega arith
bytes_of_get (suc zero) = omega arith
bytes_of_get (suc (suc zero)) = omega arith
bytes_of_get (suc (suc (suc zero))) = omega arith
bytes_of_get (suc (suc (suc (suc i)))) = omega arith

asks_is_new : IsNew [] asks
asks_is_new =
    record {
      fits = record { id = omega arith; client = record { ip = omega arith; port = omega arith } };
      fresh = λ known. known.sent;
      asks = refl;
      short = omega arith;
      bytes = λ i. bytes_of_get i;
    }

again_is_new : IsNew (asks ∷ []) asks_again
again_is_new =
    record {
      fits = record { id = omega arith; client = record { ip = omega arith; port = omega arith } };
      fresh = known_none;
      asks = refl;
      short = omega arith;
      bytes = λ i. bytes_of_get i;
    }
  where
    known_none : IsKnown (asks ∷ []) (rid 8) → ⊥
    known_none known = elim known.sent [
      | inl same ↦ let e = ap (λ (q : Request). q.rid.id) (sym same) ∙ ap (λ (r : Rid). r.id) known.named in absurd (omega (arith, e))
      | inr none ↦ none
    ]

lives_are : AreLives (setup_of alone 0) [] (worked_lives 0)
unfolding request_parts receiver_at turned reacted reacted_to row settled stored_of finished due batched run_all run_one applied anew replay ticked waits waited campaigns stands wins ordering ordered next_ordered choose fresh_orders counting counted hear_request pooled stands_in waits_in has_room requests_of body_bytes_of datagrams_of with_received receive header_at fields_at client_at u16_at u32_at key_at same_key added added_to begin begun go_on has_all is_begun joined message_under put refusal settle with_part without parts_of part_datagram part_header part_count piece spelling kind_bytes client_bytes u16_bytes served closing_sends
lives_are = (
  refl,
  record { unsent = _; split = refl },
  tt,
  (
    refl,
    (omega arith, record { unsent = []; split = closing_parts ∙ ap (λ served. packets_by 8 4 served ++ []) nothing_there ∙ ap (λ (l : List Datagram). l ++ []) again_parts }),
    tt,
    tt,
  ),
)

-- what was sent by then
earlier_parts : (loops_after alone earlier_steps).sent ≡ asked_packet ∷ packets_by 7 2 (serve map.empty Read get_a)
unfolding request_parts receiver_at turned reacted reacted_to row settled stored_of finished due batched run_all run_one applied anew replay ticked waits waited campaigns stands wins ordering ordered next_ordered choose fresh_orders counting counted hear_request pooled stands_in waits_in has_room requests_of body_bytes_of datagrams_of with_received receive header_at fields_at client_at u16_at u32_at key_at same_key added added_to begin begun go_on has_all is_begun joined message_under put refusal settle with_part without parts_of part_datagram part_header part_count piece spelling kind_bytes client_bytes u16_bytes served closing_sends
earlier_parts = refl

sent_is : (loops_after alone earlier_steps).sent ≡ asked_packet ∷ answered_packet 2 ∷ []
sent_is = earlier_parts ∙ ap (λ served. asked_packet ∷ packets_by 7 2 served) nothing_there ∙ ap (λ (l : List Datagram). asked_packet ∷ l) answered_parts

all_parts : (loops_after alone (earlier_steps ++ later_steps)).sent ≡ (((loops_after alone earlier_steps).sent ++ again_packet ∷ []) ++ []) ++ again_answered ∷ []
unfolding request_parts receiver_at turned reacted reacted_to row settled stored_of finished due batched run_all run_one applied anew replay ticked waits waited campaigns stands wins ordering ordered next_ordered choose fresh_orders counting counted hear_request pooled stands_in waits_in has_room requests_of body_bytes_of datagrams_of with_received receive header_at fields_at client_at u16_at u32_at key_at same_key added added_to begin begun go_on has_all is_begun joined message_under put refusal settle with_part without parts_of part_datagram part_header part_count piece spelling kind_bytes client_bytes u16_bytes served closing_sends
all_parts = refl

come : AllCome alone (all_begun alone) (earlier_steps ++ later_steps)
unfolding request_parts receiver_at turned reacted reacted_to row settled stored_of finished due batched run_all run_one applied anew replay ticked waits waited campaigns stands wins ordering ordered next_ordered choose fresh_orders counting counted hear_request pooled stands_in waits_in has_room requests_of body_bytes_of datagrams_of with_received receive header_at fields_at client_at u16_at u32_at key_at same_key added added_to begin begun go_on has_all is_begun joined message_under put refusal settle with_part without parts_of part_datagram part_header part_count piece spelling kind_bytes client_bytes u16_bytes served closing_sends
come = (
  record { inside = omega arith; taken = tt },
  (
    record { inside = omega arith; taken = tt },
    (
      asks_is_new,
      (
        record { inside = omega arith; taken = (inl refl, refl) },
        (
          record { inside = omega arith; taken = tt },
          (
            record { inside = omega arith; taken = tt },
            (
              record { inside = omega arith; taken = tt },
              (
                again_is_new,
                (
                  record {
                    inside = omega arith;
                    taken = (in-right again_packet (loops_after alone earlier_steps).sent (again_packet ∷ []) (inl refl), refl);
                  },
                  (record { inside = omega arith; taken = tt }, tt),
                ),
              ),
            ),
          ),
        ),
      ),
    ),
  ),
)

reads : ReadsAsReply (answered_packet 2)
unfolding header_at fields_at client_at u16_at u32_at
reads = refl

pub is_worked : IsWorked
unfolding request_parts receiver_at turned reacted reacted_to row settled stored_of finished due batched run_all run_one applied anew replay ticked waits waited campaigns stands wins ordering ordered next_ordered choose fresh_orders counting counted hear_request pooled stands_in waits_in has_room requests_of body_bytes_of datagrams_of with_received receive header_at fields_at client_at u16_at u32_at key_at same_key added added_to begin begun go_on has_all is_begun joined message_under put refusal settle with_part without parts_of part_datagram part_header part_count piece spelling kind_bytes client_bytes u16_bytes served closing_sends
is_worked =
    record {
      loops =
          record {
            lived = only;
            merged = one;
            counted = λ me e. absurd cc;
            aggregated = λ me e. refl;
            unaggregated = λ e. refl;
            come = come;
          };
      place = refl;
      asked_earlier = refl;
      asked_later = refl;
      sent_earlier = sent_is;
      sent = all_parts ∙ ap (λ (l : List Datagram). ((l ++ again_packet ∷ []) ++ []) ++ again_answered ∷ []) sent_is;
      reads = reads;
    }
  where
    only : (v : ℕ) → v < 1 → AreLives (setup_of alone v) [] (worked_lives v)
    only zero inside = lives_are
    only (suc v) inside = absurd (omega (arith, inside))

    one : (v : ℕ) → v < 1 → acts_at v (earlier_steps ++ later_steps) ≡ acts_of_lives (worked_lives v)
    one zero inside = refl
    one (suc v) inside = absurd (omega (arith, inside))

-- Clients by computation.
use Rattle.std.proofs.Common.{◌≡◌, ◌≢◌, ℕ, zero, suc, ◌<◌, ◌≤◌, Bool, true, false, List, [], ◌∷◌, ◌++◌, ◌∙◌, slice_index, Some, refl, sym, ap, subst, append-nil, arith, inl, inr}
use Rattle.std.specs.Prelude.{◌⊎◌, if◌then◌else◌, All, codes}
use Rattle.std.proofs.lemmas.List.Elements.{All-cons, All-nil}
use Rattle.r2_base.specs.Names.{FitsAddr, same_addr}
use Rattle.r2_base.specs.declared.addr.Addr.{Addr}
use Rattle.r2_base.proofs.SameNames.{same_addr-true}
use Rattle.r2_link.specs.declared.lane.Item.TheVariants.{Datagram as ADatagram}
use Rattle.hc_member.specs.Worked.{address, client, get_a, put_a, rid}
use Rattle.hc_rules.specs.Log.{In}
use Rattle.hc_run.specs.Examples.{absent_payload, alone}
use Rattle.hc_store.specs.Command.{Get}
use Rattle.hc_store.specs.Spelling as store
use Rattle.hc_text.specs.Call.{IsPrinting, Says}
use Rattle.hc_text.specs.declared.policy.Policy.TheVariants.{Replicated}
use Rattle.hc_text.specs.End.{end_text}
use Rattle.r2_client.specs.declared.call_end.CallEnd.{CallEnd}
use Rattle.r2_client.specs.declared.call_end.CallEnd.TheVariants.{Reply as ByReply}
use Rattle.r2_client.specs.Sendings.{first_part_to, request_to, sending}
use Rattle.r2_client.specs.Session.{began, part_added, received, ticked as session_ticked}
use Rattle.cmd_lines.specs.Script.{IsWhole}
use Rattle.cmd_lines.specs.Texts.{IsText, fed}
use Rattle.cmd_status.specs.declared.status.Status.TheVariants.{Done}
use Rattle.cmd_loop.specs.Events.{elapsed}
use Rattle.cmd_client.specs.Calls as calls
use Rattle.cmd_client.specs.Outside.{Talks, beside}
use Rattle.cmd_client.specs.Script.{AsksFor}
use Rattle.cmd_client.specs.Talk as talk
use Rattle.cmd_client.specs.Talk.{Asked}
use Rattle.cmd_group.specs.Answers.{BringSent}
use Rattle.cmd_group.specs.Asked.{AreInTheirOrder, AreItsOwn, IsCallFrom, MayBeMade, of_client, request_of_call, requests_of as requests_of_calls}
use Rattle.cmd_group.specs.ClientExamples.{IsWorkedAsking, IsWorkedCall, absent_packet, after_call, answered_calling, answered_pace, before_call, answering_lives, answering_steps, get_call, get_packet, other, put_call, worked_calls, worked_requests}
use Rattle.cmd_group.specs.Lives.{AreLives, acts_of_lives}
use Rattle.cmd_group.specs.Loops.{AllCome, AreLoops}
use Rattle.cmd_group.specs.Members.{closing_sends}
use Rattle.cmd_group.specs.Merge.{begun as all_begun, loops_after}
use Rattle.cmd_group.specs.Steps.{acts_at}
use Rattle.cmd_group.proofs.Requests.{clients_may_ask}
use Rattle.std.specs.FinMap as map
use Rattle.r2_base.specs.declared.datagram.Datagram.{Datagram}
use Rattle.r2_base.specs.declared.entry.Kind.TheVariants.{Read}
use Rattle.r2_base.specs.Numbers.{u16_bytes, u64_bytes}
use Rattle.r2_header.specs.Header.{client_bytes, kind_bytes, spelling}
use Rattle.r2_header.specs.Reading.{header_at, fields_at, client_at, u16_at, u32_at}
use Rattle.r2_frag.specs.Assembly.{added, added_to, begin, begun, go_on, has_all, is_begun, joined, message_under, put, refusal, settle, with_part, without}
use Rattle.r2_frag.specs.Keys.{key_at, same_key}
use Rattle.r2_frag.specs.Parts.{part_count, part_datagram, part_header, parts_of, piece}
use Rattle.r2_frag.specs.Replies.{reply_parts}
use Rattle.hc_log.specs.Durable.{replay}
use Rattle.hc_log.specs.Log.{body_bytes_of, has_room, requests_of, stands_in}
use Rattle.hc_order.specs.Counting.{counted}
use Rattle.hc_order.specs.Ordering.{next_ordered, ordered}
use Rattle.hc_pool.specs.Pool.{waits_in}
use Rattle.hc_replier.specs.Queues.{choose}
use Rattle.hc_service.specs.Batch.{run_all, run_one}
use Rattle.hc_store.specs.Replies.{payload_of, reply_of}
use Rattle.hc_store.specs.Service.{Served, absent, answered, serve}
use Rattle.hc_member.specs.Bodies.{hear_request, pooled}
use Rattle.hc_member.specs.Finish.{applied, batched, due, finished}
use Rattle.hc_member.specs.Heard.{receive, with_received}
use Rattle.hc_member.specs.Member.{anew}
use Rattle.hc_member.specs.Orders.{fresh_orders}
use Rattle.hc_member.specs.Sending.{datagrams_of}
use Rattle.hc_member.specs.Ticks.{campaigns, ticked, waited, waits}
use Rattle.hc_member.specs.Turn.{counting, ordering, reacted, reacted_to, row, settled, stored_of, turned}
use Rattle.hc_member.specs.Votes.{stands, wins}
use Rattle.hc_member.proofs.Examples.{nothing_there}
use Rattle.hc_rules.specs.Message.{Request}
use Rattle.hc_run.specs.Group.{IsGroup, receiver_at}
use Rattle.hc_run.specs.Events.{IsNew}
use Rattle.hc_run.specs.Group.{setup_of}
use Rattle.hc_run.specs.Steps.{request_parts}
use Rattle.cmd_replica.specs.Replica.{served}

bytes_of_get : (i : ℕ) → slice_index get_a i < 256
bytes_of_get zero = omega arith
bytes_of_get (suc zero) = omega arith
bytes_of_get (suc (suc zero)) = omega arith
bytes_of_get (suc (suc (suc zero))) = omega arith
bytes_of_get (suc (suc (suc (suc i)))) = omega arith

bytes_of_put : (i : ℕ) → slice_index put_a i < 256
bytes_of_put zero = omega arith
bytes_of_put (suc zero) = omega arith
bytes_of_put (suc (suc zero)) = omega arith
bytes_of_put (suc (suc (suc zero))) = omega arith
bytes_of_put (suc (suc (suc (suc i)))) = omega arith

client_calls : (call : Asked) → In call (get_call ∷ put_call ∷ []) → IsCallFrom client call
client_calls call (inl same) =
    subst (IsCallFrom client) (sym same) (record { fits = record { ip = omega arith; port = omega arith }; short = omega arith; bytes = λ i. bytes_of_get i })
client_calls call (inr (inl same)) =
    subst (IsCallFrom client) (sym same) (record { fits = record { ip = omega arith; port = omega arith }; short = omega arith; bytes = λ i. bytes_of_put i })
client_calls call (inr (inr none)) = absurd none

other_calls : (call : Asked) → In call (get_call ∷ []) → IsCallFrom other call
other_calls call (inl same) =
    subst (IsCallFrom other) (sym same) (record { fits = record { ip = omega arith; port = omega arith }; short = omega arith; bytes = λ i. bytes_of_get i })
other_calls call (inr none) = absurd none

-- what isn't asked yet
abbrev unasked : Addr → List Request
unasked me = if same_addr client me then request_of_call client 1 put_call ∷ [] else []

may-by : (me : Addr) (first second : Bool) → same_addr client me ≡ first → same_addr other me ≡ second → MayBeMade me (worked_calls me)
may-by me true second p q = subst (λ (a : Addr). MayBeMade a (worked_calls a)) (same_addr-true client me p) (record { few = omega arith; each = client_calls })
may-by me false true p q = subst (λ (a : Addr). MayBeMade a (worked_calls a)) (same_addr-true other me q) (record { few = omega arith; each = other_calls })
may-by me false false p q = rw (p, q) (record { few = omega arith; each = λ call there. absurd there })

order-by : (me : Addr) (first second : Bool) → same_addr client me ≡ first → same_addr other me ≡ second
    → requests_of_calls me 0 (worked_calls me) ≡ of_client me worked_requests ++ unasked me
order-by me true second p q =
    subst (λ (a : Addr). requests_of_calls a 0 (worked_calls a) ≡ of_client a worked_requests ++ unasked a) (same_addr-true client me p) refl
order-by me false true p q =
    subst (λ (a : Addr). requests_of_calls a 0 (worked_calls a) ≡ of_client a worked_requests ++ unasked a) (same_addr-true other me q) refl
order-by me false false p q = rw (p, q) refl

in_order : AreInTheirOrder worked_calls worked_requests
in_order = record {
  may = λ me. may-by me (same_addr client me) (same_addr other me) refl refl;
  unasked = unasked;
  order = λ me. order-by me (same_addr client me) (same_addr other me) refl refl;
}

pub is_worked_asking : IsWorkedAsking
is_worked_asking = record { order = in_order; new = clients_may_ask worked_calls worked_requests in_order }

-- A client that is answered --

-- the packet of the reply, where the reply is what was served
abbrev packets_by : Served → List Datagram
packets_by served = reply_parts (address 1) (rid 0) 3 (reply_of 2 served) ++ []

absent_parts : packets_by (answered map.empty absent []) ≡ absent_packet ∷ []
unfolding reply_parts payload_of u64_bytes parts_of part_datagram part_header part_count piece spelling kind_bytes client_bytes u16_bytes
absent_parts = refl

loops_sent : (loops_after alone answering_steps).sent ≡ get_packet ∷ packets_by (serve map.empty Read get_a)
unfolding request_parts receiver_at turned reacted reacted_to row settled stored_of finished due batched run_all run_one applied anew replay ticked waits waited campaigns stands wins ordering ordered next_ordered choose fresh_orders counting counted hear_request pooled stands_in waits_in has_room requests_of body_bytes_of datagrams_of with_received receive header_at fields_at client_at u16_at u32_at key_at same_key added added_to begin begun go_on has_all is_begun joined message_under put refusal settle with_part without parts_of part_datagram part_header part_count piece spelling kind_bytes client_bytes u16_bytes served closing_sends
loops_sent = refl

sent_is : (loops_after alone answering_steps).sent ≡ get_packet ∷ absent_packet ∷ []
sent_is = loops_sent ∙ ap (λ served. get_packet ∷ packets_by served) nothing_there ∙ ap (λ (l : List Datagram). get_packet ∷ l) absent_parts

call_is_new : IsNew [] (request_of_call client 0 get_call)
call_is_new =
    record {
      fits = record { id = omega arith; client = record { ip = omega arith; port = omega arith } };
      fresh = λ known. known.sent;
      asks = refl;
      short = omega arith;
      bytes = λ i. bytes_of_get i;
    }

come : AllCome alone (all_begun alone) answering_steps
unfolding request_parts receiver_at turned reacted reacted_to row settled stored_of finished due batched run_all run_one applied anew replay ticked waits waited campaigns stands wins ordering ordered next_ordered choose fresh_orders counting counted hear_request pooled stands_in waits_in has_room requests_of body_bytes_of datagrams_of with_received receive header_at fields_at client_at u16_at u32_at key_at same_key added added_to begin begun go_on has_all is_begun joined message_under put refusal settle with_part without parts_of part_datagram part_header part_count piece spelling kind_bytes client_bytes u16_bytes served closing_sends
come = (
  record { inside = omega arith; taken = tt },
  (
    record { inside = omega arith; taken = tt },
    (
      call_is_new,
      (record { inside = omega arith; taken = (inl refl, refl) }, (record { inside = omega arith; taken = tt }, tt)),
    ),
  ),
)

loops_are : AreLoops alone answering_lives [] answering_steps
loops_are =
    record { lived = only; merged = one; counted = λ me e. absurd cc; aggregated = λ me e. refl; unaggregated = λ e. refl; come = come }
  where
    only : (v : ℕ) → v < 1 → AreLives (setup_of alone v) [] (answering_lives v)
    only zero inside = (refl, tt, tt, tt)
    only (suc v) inside = absurd (omega (arith, inside))

    one : (v : ℕ) → v < 1 → acts_at v answering_steps ≡ acts_of_lives (answering_lives v)
    one zero inside = refl
    one (suc v) inside = absurd (omega (arith, inside))

own : AreItsOwn client (requests_of_calls client 0 (get_call ∷ [])) answering_steps
own q (inl same) from = inl same
own q (inr none) from = absurd none

same_item : (d e : Datagram) → ADatagram d ≡ ADatagram e → d ≡ e
same_item d e same = cc

brings : BringSent (loops_after alone answering_steps).sent client (ADatagram absent_packet ∷ [])
brings d (inl same) reads =
    let here : d ≡ absent_packet = same_item d absent_packet same in
    (subst (λ (l : List Datagram). In d l) (sym sent_is) (inr (inl here)), ap (λ (x : Datagram). Some x.to) (sym here))
brings d (inr none) reads = absurd none

-- The client's run --

printing : All IsPrinting (0x61 ∷ [])
printing = All-cons IsPrinting 0x61 [] (omega arith, omega arith) (All-nil IsPrinting)

unmarked : (rest : List ℕ) → 0x61 ∷ [] ≢ codes "x:" ++ rest
unmarked rest same = absurd (let e = ap (λ (l : List ℕ). slice_index l 0) same in omega (arith, e))

says : Says (Get (0x61 ∷ [])) (codes "get a")
says = record {
  word = codes "get";
  rest = 0x61 ∷ [];
  joined = refl;
  first = refl;
  behind = inl (record { same = refl; some = λ e. absurd cc; printing = printing; unmarked = unmarked });
}

asks_for : AsksFor Replicated (codes "get a") get_call
unfolding store.spelling u16_bytes
asks_for = record {
  call = record { read = true; body = get_a };
  said = inl (record { command = Get (0x61 ∷ []); said = says; fits = omega arith; asked = refl });
  is = refl;
}

abbrev steps : List talk.Step
steps = talk.Asks 3 get_a ∷ talk.Hears (ADatagram absent_packet) ∷ talk.Tells 0 ∷ []

abbrev start : talk.Talk
start = calls.begun answered_calling answered_pace 0

ends_are : (talk.course start steps).ends ≡ ByReply (absent_payload 2) ∷ []
unfolding part_added received session_ticked began talk.course sending request_to first_part_to header_at fields_at client_at u16_at u32_at key_at same_key added added_to begin begun go_on has_all is_begun joined message_under put refusal settle with_part without parts_of part_datagram part_header part_count piece spelling kind_bytes client_bytes u16_bytes talk.items_of talk.moments_of talk.asked_in elapsed
ends_are = refl

sends_are : (talk.course start steps).sends ≡ get_packet ∷ []
unfolding part_added received session_ticked began talk.course sending request_to first_part_to header_at fields_at client_at u16_at u32_at key_at same_key added added_to begin begun go_on has_all is_begun joined message_under put refusal settle with_part without parts_of part_datagram part_header part_count piece spelling kind_bytes client_bytes u16_bytes talk.items_of talk.moments_of talk.asked_in elapsed
sends_are = refl

in_turn : talk.AreInTurn start steps
unfolding part_added received session_ticked began talk.course sending request_to first_part_to header_at fields_at client_at u16_at u32_at key_at same_key added added_to begin begun go_on has_all is_begun joined message_under put refusal settle with_part without parts_of part_datagram part_header part_count piece spelling kind_bytes client_bytes u16_bytes talk.items_of talk.moments_of talk.asked_in elapsed
in_turn = ((refl, refl, refl), ((refl, refl, tt), ((refl, refl), tt)))

no_end : (b : ℕ) → b < 10 ⊎ 10 < b → b ≢ 10
no_end b (inl less) e = omega (arith, less, e)
no_end b (inr more) e = omega (arith, more, e)

text : IsText 8192 (codes "get a")
text =
    let P : ℕ → Type 0 = λ b. b ≢ 10 in
    record {
      one_line =
          All-cons P 0x67 (0x65 ∷ 0x74 ∷ 0x20 ∷ 0x61 ∷ []) (no_end 0x67 (inr (omega arith)))
          (All-cons P 0x65 (0x74 ∷ 0x20 ∷ 0x61 ∷ []) (no_end 0x65 (inr (omega arith)))
          (All-cons P 0x74 (0x20 ∷ 0x61 ∷ []) (no_end 0x74 (inr (omega arith)))
          (All-cons P 0x20 (0x61 ∷ []) (no_end 0x20 (inr (omega arith)))
          (All-cons P 0x61 [] (no_end 0x61 (inr (omega arith))) (All-nil P)))));
      short = omega arith;
    }

whole : IsWhole 8192 (AsksFor Replicated) (Some []) (codes "get a") (get_call ∷ [])
unfolding fed
whole = record {
  texts = [];
  last = codes "get a";
  each = All-cons (IsText 8192) (codes "get a") [] text (All-nil (IsText 8192));
  said = (asks_for, refl);
  split = refl;
  ended = refl;
  needed =
      record {
        before = [];
        last = codes "get a";
        split = refl;
        one_read = omega arith;
        known = [];
        later = [];
        were_run = refl;
        rest = [];
        lines = refl;
        unknown = record { one_line = All-nil (λ b. b ≢ 10); short = omega arith };
      };
}

talks : Talks (beside before_call) (beside after_call) (talk.items_of steps) (talk.moments_of steps) (talk.course start steps).sends (talk.ends_text (talk.course start steps).ends)
unfolding talk.items_of talk.moments_of
talks =
    subst (λ (sends : List Datagram). Talks (beside before_call) (beside after_call) (talk.items_of steps) (talk.moments_of steps) sends (talk.ends_text (talk.course start steps).ends))
    (sym sends_are)
    (subst (λ (ends : List CallEnd). Talks (beside before_call) (beside after_call) (talk.items_of steps) (talk.moments_of steps) (get_packet ∷ []) (talk.ends_text ends)) (sym ends_are)
    (record {
      came = ADatagram absent_packet ∷ [];
      heard = record { quiets = 0; heard = refl; dry = λ h. absurd (omega (arith, h)) };
      passed =
          record {
            source = tt;
            sink = sym (append-nil (end_text (ByReply (absent_payload 2))));
            link = record { took = refl; gave = refl; lanes = tt; me = refl };
            clock = (refl, refl);
            journal = tt;
          };
    }))

made : calls.AreMade (get_call ∷ []) 9 start (beside before_call) (beside after_call)
unfolding part_added received session_ticked began talk.course sending request_to first_part_to header_at fields_at client_at u16_at u32_at key_at same_key added added_to begin begun go_on has_all is_begun joined message_under put refusal settle with_part without parts_of part_datagram part_header part_count piece spelling kind_bytes client_bytes u16_bytes talk.items_of talk.moments_of talk.asked_in elapsed
made = record {
  after = (talk.course start steps).next;
  steps = steps;
  went = record { took = record { in_turn = in_turn; passed = talks }; left = refl };
  asks = refl;
  then = (refl, refl, refl, omega arith);
}

called : calls.Calls answered_calling answered_pace before_call after_call Done
called = record {
  start = 0;
  between = before_call;
  began = record { source = refl; sink = refl; link = record { took = refl; gave = refl; lanes = tt; me = refl }; clock = (refl, refl); journal = tt };
  lines = record { asked = get_call ∷ []; taken = codes "get a"; took = refl; ended = inl (made, whole) };
}

alone_is_group : IsGroup alone
alone_is_group = record {
  some = omega arith;
  few = omega arith;
  fits = All-cons FitsAddr (address 1) [] (record { ip = omega arith; port = omega arith }) (All-nil FitsAddr);
  distinct = λ i j d less inside. absurd (omega (arith, less, inside));
  aggregator_fits = tt;
  apart = tt;
  bounds = record {
    few = omega arith;
    each = All-cons (λ (b : ℕ). b ≤ 1024) 64 [] (omega arith) (All-nil (λ (b : ℕ). b ≤ 1024));
    some = (0, 64, omega arith, refl, omega arith);
  };
  bound_each = refl;
  election_low = omega arith;
  election_high = omega arith;
}

pub is_worked_call : IsWorkedCall
is_worked_call = record { group = alone_is_group; loops = loops_are; calls = called; brings = brings; own = own }

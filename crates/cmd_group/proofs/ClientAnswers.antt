-- A client prints payloads of replies whose parts came to it, and the loops of a group make only such as one thread replies.
use Rattle.std.proofs.Common.{◌≡◌, ℕ, zero, suc, ◌-◌, ◌<◌, ◌≤◌, Bool, true, false, List, [], ◌∷◌, length, Some, refl, sym, ap, ◌∙◌, subst, arith, inl, inr}
use Rattle.std.specs.Prelude.{All}
use Rattle.std.proofs.lemmas.List.Elements.{All-get_or, All-map, All-nil, All-weaker}
use Rattle.std.proofs.lemmas.Option.{same_Some}
use Rattle.r2_base.specs.Entry.{is_request}
use Rattle.r2_base.specs.Limits.{most_body}
use Rattle.r2_base.specs.Names.{FitsRid}
use Rattle.r2_base.specs.declared.addr.Addr.{Addr}
use Rattle.r2_base.specs.declared.datagram.Datagram.{Datagram}
use Rattle.r2_base.specs.declared.entry.Entry.{Entry}
use Rattle.r2_base.specs.declared.rid.Rid.{Rid}
use Rattle.r2_client.specs.declared.call_end.CallEnd.{CallEnd}
use Rattle.r2_client.specs.declared.call_end.CallEnd.TheVariants.{Rejected, Reply as ByReply, TimedOut}
use Rattle.r2_frag.specs.declared.unfinished.Unfinished.{Unfinished}
use Rattle.r2_frag.specs.Bodies.{HasPartsOf}
use Rattle.hc_log.specs.declared.stored.Stored.{Stored}
use Rattle.hc_log.specs.Log.{blank_of, metas_of, stored_at}
use Rattle.hc_service.specs.Entries.{operation_of, operations}
use Rattle.hc_store.specs.Replies.{Operation, reply_at}
use Rattle.hc_store.specs.Short.{HasShortBodies}
use Rattle.hc_store.proofs.Short.{replies_are_short}
use Rattle.hc_rules.specs.Agreed.{HasNoneTwice}
use Rattle.hc_rules.specs.Log.{In, entry_at}
use Rattle.hc_rules.specs.Message.{Reply, Request}
use Rattle.hc_run.specs.AsOne.{IsReplyOf}
use Rattle.hc_run.specs.Events.{GroupEvent}
use Rattle.hc_run.specs.Group.{Group, IsGroup}
use Rattle.hc_run.specs.Held.{IsAsked, IsWhole}
use Rattle.hc_run.specs.OneList.{applied_list}
use Rattle.hc_run.specs.ReplyParts.{IsReplyPart, ReadsAsReply}
use Rattle.hc_run.specs.Runs.{IsRun, run}
use Rattle.hc_run.specs.Tied.{request_of}
use Rattle.hc_run.proofs.Items.{holds-in}
use Rattle.hc_run.proofs.Metas.{entry-metas, length-metas}
use Rattle.hc_run.proofs.WholeRuns.{groups_serve_as_one, runs_are_rules}
use Rattle.r2_link.specs.declared.lane.Item.{Item}
use Rattle.hc_text.specs.Policy.{policy_number}
use Rattle.hc_text.specs.declared.policy.Policy.{Policy}
use Rattle.hc_text.specs.declared.policy.Policy.TheVariants.{Replicated}
use Rattle.cmd_loop.specs.Ends.{Ends}
use Rattle.cmd_loop.specs.declared.pace.Pace.{Pace}
use Rattle.cmd_client.specs.Calls.{begun}
use Rattle.cmd_client.specs.Talk as talk
use Rattle.cmd_client.specs.Talk.{Asked, course}
use Rattle.cmd_client.specs.declared.calling.Calling.{Calling}
use Rattle.cmd_group.specs.Answers.{AllEndBy, BringParts, BringSent, ClientsPrintReplies, FitsPackets, IsOneThreads, IsPayloadOf, LoopsAnswerClients, SayOne}
use Rattle.cmd_group.specs.AggregatorLoops.{AggregatorLife}
use Rattle.cmd_group.specs.Asked as client
use Rattle.cmd_group.specs.Asked.{AnswersOne, ClientsAskTheirGroup, IsPartOfOne, LoopsAnswerCalls, requests_of}
use Rattle.cmd_group.specs.Lives.{Life}
use Rattle.cmd_group.specs.Loops.{ServeAsOne}
use Rattle.cmd_group.specs.Merge.{loops_after}
use Rattle.cmd_group.specs.Steps.{Step}
use Rattle.cmd_group.proofs.ClientRuns.{HasRunSteps, run-steps}
use Rattle.cmd_group.proofs.ClientSends.{IsToAll, all-parts}
use Rattle.cmd_group.proofs.Loops.{loops_serve_as_one}
use Rattle.cmd_group.proofs.ReadParts.{part-read}
use Rattle.cmd_group.proofs.Sessions.{Brings, all-end}

-- What is printed --

one-payload : (replied : List Reply) → SayOne replied → (rid : Rid) (a b : List ℕ) → IsPayloadOf replied rid a → IsPayloadOf replied rid b → a ≡ b
one-payload replied says rid a b x y = sym x.says ∙ says.same x.reply y.reply x.there y.there (x.to ∙ sym y.to) ∙ y.says

right-part : (g : Group) (replied : List Reply) → SayOne replied → (me : Addr) (d : Datagram) → (d.to ≡ me) × IsReplyPart g replied d → ReadsAsReply d
    → Brings (IsPayloadOf replied) me d
right-part g replied says me d both reads =
    let is = both.1 in
    let part = is.part in
    let read = part-read d.from is.reply part.policy d part.part reads (says.fit is.reply is.there) in
    record {
      rid = is.reply.request;
      body = is.reply.payload;
      holds = record { reply = is.reply; there = is.there; to = refl; says = refl };
      client = sym read.to ∙ both.0;
      header = read.header;
      size = read.size;
      read = read.read;
      key = read.key;
      keyed = read.keyed;
      id = read.id;
      names = read.names;
      part = read.part;
    }

ends-by : (calling : Calling) (pace : Pace) (old new : Ends) (has : HasRunSteps calling pace old new) (g : Group) (replied : List Reply) → SayOne replied
    → BringParts g replied calling.listen has.came → AllEndBy (IsPayloadOf replied) calling.listen 0 (course (begun calling pace has.start) has.steps).ends
ends-by calling pace old new has g replied says brings =
    all-end (IsPayloadOf replied) (one-payload replied says) calling.listen 0 (begun calling pace has.start) has.steps
    (record { keeps = All-nil (λ (m : Unfinished). (body : List ℕ) → IsPayloadOf replied m.key.rid body → HasPartsOf body m); counted = refl }) has.in_turn
    (λ d there reads. right-part g replied says calling.listen d (brings d (has.heard d there) reads) reads)

pub clients_print_replies : ClientsPrintReplies
clients_print_replies calling pace old new status calls =
    let has = run-steps calling pace old new status calls in
    record { came = has.came; ends = (course (begun calling pace has.start) has.steps).ends; prints = has.prints; replies = ends-by calling pace old new has }

-- What is sent --

to-all-by : (read : Bool) → IsToAll (policy_number Replicated read)
to-all-by true = inr refl
to-all-by false = inl refl

-- under REPLICATED each call goes to each member
to-all : (policy : Policy) (call : Asked) → policy ≡ Replicated → client.IsAsked policy call → IsToAll call.policy
to-all policy call same asked =
    let asks = asked.asks in
    let one = asks.call in
    subst IsToAll (sym (ap (λ (x : Asked). x.policy) asks.is ∙ ap (λ (p : Policy). policy_number p one.read) same)) (to-all-by one.read)

run-parts : (g : Group) (calling : Calling) (pace : Pace) (old new : Ends) (has : HasRunSteps calling pace old new) → calling.policy ≡ Replicated → calling.to ≡ g.members
    → (d : Datagram) → In d (course (begun calling pace has.start) has.steps).sends → IsPartOfOne g (requests_of calling.listen 0 (talk.asked_in has.steps)) d
run-parts g calling pace old new has policy to =
    all-parts g calling.listen (requests_of calling.listen 0 (talk.asked_in has.steps)) 0 (begun calling pace has.start) has.steps
    (record { at = refl; targets = to; counts = refl; opens = tt }) (λ q there. there) (λ call there. to-all calling.policy call policy (has.asked call there))

pub clients_ask_their_group : ClientsAskTheirGroup
clients_ask_their_group g calling pace old new status policy to calls =
    let has = run-steps calling pace old new status calls in
    record {
      calls = talk.asked_in has.steps;
      asked = has.asked;
      came = has.came;
      ends = (course (begun calling pace has.start) has.steps).ends;
      prints = has.prints;
      each = λ d there. run-parts g calling pace old new has policy to d (has.sent d there);
    }

-- What is replied --

module _ (table : List Request) (list : List Stored) (bodies : All (IsWhole table) list) (asked : All IsAsked table) where
  -- a reply's request is one that a client asked
  fits-request : (r : Reply) → IsReplyOf list r → FitsRid r.request
  fits-request r is =
      let first = is.first in
      let within = is.within in
      let inside : r.index - 1 < length list = omega (arith, first, within) in
      let x = stored_at list r.index in
      let whole : IsWhole table x = All-get_or (IsWhole table) list (r.index - 1) (blank_of 0) inside bodies in
      let ask = holds-in IsAsked (request_of x.entry.rid x.entry.kind x.body) table asked (whole.listed is.asks) in
      subst FitsRid is.named ask.fits

  short-by : (b : Bool) (x : Stored) → is_request x.entry.kind ≡ b → IsWhole table x → length x.body ≤ most_body
  short-by true x e whole = let ask = holds-in IsAsked (request_of x.entry.rid x.entry.kind x.body) table asked (whole.listed e) in ask.short
  short-by false x e whole = subst (λ (l : List ℕ). length l ≤ most_body) (sym (whole.blank e)) (omega arith)

  short-bodies : HasShortBodies (operations list)
  unfolding operations
  short-bodies =
      All-map (λ (o : Operation). length o.body ≤ most_body) operation_of list
      (All-weaker (IsWhole table) (λ (x : Stored). length x.body ≤ most_body) (λ x whole. short-by (is_request x.entry.kind) x refl whole) list bodies)

  fits-packets : (r : Reply) → IsReplyOf list r → FitsPackets r
  fits-packets r is = record { request = fits-request r is; payload = replies_are_short (operations list) r.index r.payload short-bodies is.right }

entry-at : (list : List Stored) (index : ℕ) → 1 ≤ index → entry_at (metas_of list) index ≡ (stored_at list index).entry
entry-at list zero first = absurd (omega (arith, first))
entry-at list (suc k) first = let e : suc k - 1 ≡ k = omega arith in rw e (entry-metas list k)

-- two replies to one request have one index, and one payload
same-payload : (list : List Stored) (r s : Reply) → HasNoneTwice (metas_of list) → IsReplyOf list r → IsReplyOf list s → r.request ≡ s.request → r.payload ≡ s.payload
same-payload list r s once a b same =
    let size = length-metas list in
    let first = a.within in
    let second = b.within in
    let here = entry-at list r.index a.first in
    let there = entry-at list s.index b.first in
    let index : r.index ≡ s.index =
    once r.index s.index a.first (omega (arith, size, first)) b.first (omega (arith, size, second)) (ap (λ (e : Entry). is_request e.kind) here ∙ a.asks)
    (ap (λ (e : Entry). is_request e.kind) there ∙ b.asks)
    (ap (λ (e : Entry). e.rid) here ∙ a.named ∙ same ∙ sym b.named ∙ sym (ap (λ (e : Entry). e.rid) there)) in
    same_Some r.payload s.payload (sym a.right ∙ ap (λ (i : ℕ). reply_at (operations list) i) index ∙ b.right)

-- so it is with all that were made in a run
says-one : (g : Group) (events : List GroupEvent) → IsGroup g → IsRun g events → SayOne (run g events).replied
says-one g events is runs =
    let s = run g events in
    let one = groups_serve_as_one g events is runs in
    let rules = runs_are_rules g events is runs in
    let shown = rules.shown in
    record {
      fit = λ r there. fits-packets s.table (applied_list s) one.bodies shown.asked r (one.replies r there);
      same = λ r x there also same. same-payload (applied_list s) r x one.once (one.replies r there) (one.replies x also) same;
    }

-- One thread --

-- what holds of payloads in one way holds in another that follows
end-on : (P Q : Rid → List ℕ → Type 0) (me : Addr)
    → ((id : ℕ) (payload : List ℕ) → P (record { id = id; client = me }) payload → Q (record { id = id; client = me }) payload) → (id : ℕ) (ends : List CallEnd)
    → AllEndBy P me id ends → AllEndBy Q me id ends
end-on P Q me on id [] all = tt
end-on P Q me on id (ByReply payload ∷ more) all = (on id payload all.0, end-on P Q me on (suc id) more all.1)
end-on P Q me on id (Rejected ∷ more) all = (tt, end-on P Q me on (suc id) more all.1)
end-on P Q me on id (TimedOut ∷ more) all = (tt, end-on P Q me on (suc id) more all.1)

-- what loops sent are parts of the replies of their run
sent-parts : (g : Group) (lives : ℕ → List Life) (counting : List AggregatorLife) (steps : List Step) (serve : ServeAsOne g lives counting steps) (me : Addr) (came : List Item)
    → BringSent (loops_after g steps).sent me came → BringParts g (run g serve.has.events).replied me came
sent-parts g lives counting steps serve me came brings d there reads =
    let has = serve.has in
    let one = serve.as_one in
    let seen = has.seen in
    let taken = brings d there reads in (sym (same_Some me d.to taken.1), one.parts d (seen.sent d taken.0) reads)

pub loops_answer_clients : LoopsAnswerClients
loops_answer_clients g lives counting steps calling pace old new status is loops calls =
    let serve = loops_serve_as_one g lives counting steps is loops in
    let ran = serve.has in
    let one = serve.as_one in
    let s = run g ran.events in
    let has = run-steps calling pace old new status calls in
    let ends = (course (begun calling pace has.start) has.steps).ends in
    record {
      serve = serve;
      came = has.came;
      ends = ends;
      prints = has.prints;
      answers =
          λ brings.
          end-on (IsPayloadOf s.replied) (IsOneThreads (applied_list s)) calling.listen
          (λ id payload made. record { reply = made.reply; to = made.to; says = made.says; is = one.replies made.reply made.there }) 0 ends
          (ends-by calling pace old new has g s.replied (says-one g ran.events is ran.is)
          (sent-parts g lives counting steps serve calling.listen has.came brings));
    }

-- The calls --

-- a right reply to a client's request is to the request itself, with its kind and its body
answers-one : (table : List Request) (list : List Stored) (requests : List Request) (me : Addr) (id : ℕ) (payload : List ℕ) (r : Reply) → All (IsWhole table) list
    → ((q : Request) → In q table → q.rid.client ≡ me → In q requests) → IsReplyOf list r → r.request ≡ record { id = id; client = me } → r.payload ≡ payload
    → AnswersOne list requests (record { id = id; client = me }) payload
answers-one table list requests me id payload r bodies own is to says =
    let first = is.first in
    let within = is.within in
    let inside : r.index - 1 < length list = omega (arith, first, within) in
    let x = stored_at list r.index in
    let whole : IsWhole table x = All-get_or (IsWhole table) list (r.index - 1) (blank_of 0) inside bodies in
    let q = request_of x.entry.rid x.entry.kind x.body in
    let named : q.rid ≡ record { id = id; client = me } = is.named ∙ to in
    record {
      request = q;
      there = own q (whole.listed is.asks) (ap (λ (rid : Rid). rid.client) named);
      named = named;
      index = r.index;
      first = is.first;
      within = is.within;
      kind = refl;
      body = refl;
      right = is.right ∙ ap Some says;
    }

pub loops_answer_calls : LoopsAnswerCalls
loops_answer_calls g lives counting steps calling pace old new status is loops policy to calls =
    let serve = loops_serve_as_one g lives counting steps is loops in
    let ran = serve.has in
    let one = serve.as_one in
    let s = run g ran.events in
    let has = run-steps calling pace old new status calls in
    let ends = (course (begun calling pace has.start) has.steps).ends in
    let requests = requests_of calling.listen 0 (talk.asked_in has.steps) in
    record {
      serve = serve;
      asks =
          record {
            calls = talk.asked_in has.steps;
            asked = has.asked;
            came = has.came;
            ends = ends;
            prints = has.prints;
            each = λ d there. run-parts g calling pace old new has policy to d (has.sent d there);
          };
      answers =
          λ brings own.
          end-on (IsPayloadOf s.replied) (AnswersOne (applied_list s) requests) calling.listen
          (λ id payload made.
          answers-one s.table (applied_list s) requests calling.listen id payload made.reply one.bodies (λ q there. own q (subst (λ (l : List Request). In q l) ran.table there))
          (one.replies made.reply made.there) made.to made.says) 0 ends
          (ends-by calling pace old new has g s.replied (says-one g ran.events is ran.is)
          (sent-parts g lives counting steps serve calling.listen has.came brings));
    }

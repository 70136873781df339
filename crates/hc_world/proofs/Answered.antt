-- What the datagrams of a group tell of replies is so.
use Rattle.std.proofs.Common.{◌≡◌, ℕ, zero, suc, ◌<◌, ◌≤◌, ◌==◌, ◌||◌, ◌&&◌, Bool, true, false, List, [], ◌∷◌, ◌++◌, length, map, Option, None, Some, refl, sym, ap, subst, ◌∙◌, arith, inl, inr, append_assoc, append-nil}
use Rattle.std.specs.Prelude.{All, slice_get, if◌then◌else◌}
use Rattle.std.specs.List.{flat_map, list_any, range_with_len}
use Rattle.std.proofs.lemmas.List.Concat.{flat_map-cons}
use Rattle.std.proofs.lemmas.List.Elements.{All-append, All-cons, All-head, All-nil, All-tail}
use Rattle.std.proofs.lemmas.List.Folds.{list_any-append}
use Rattle.r2_base.specs.declared.addr.Addr.{Addr}
use Rattle.r2_base.specs.declared.datagram.Datagram.{Datagram}
use Rattle.r2_base.specs.declared.entry.Kind.{Kind}
use Rattle.r2_base.specs.declared.entry.Kind.TheVariants.{Blank, Write, Read}
use Rattle.r2_base.specs.declared.event.Event.{Event}
use Rattle.r2_base.specs.declared.event.Event.TheVariants as event
use Rattle.r2_base.specs.declared.rid.Rid.{Rid}
use Rattle.r2_base.specs.Entry.{is_request}
use Rattle.r2_base.specs.Names.{FitsRid, same_addr, same_rid}
use Rattle.r2_base.proofs.SameNames.{same_rid-same, same_rid-true}
use Rattle.r2_frag.specs.declared.kept.KeptReply.{KeptReply}
use Rattle.r2_frag.specs.declared.class.Class.TheVariants as class
use Rattle.r2_frag.specs.Parts.{part_count, part_datagram, part_type, parts_of}
use Rattle.r2_frag.specs.Replies.{IsReply, reply_parts, reply_spec}
use Rattle.r2_frag.proofs.Headers.{part_count-least}
use Rattle.hc_message.specs.Message.{message_bytes}
use Rattle.hc_member.specs.declared.setup.Setup.{Setup}
use Rattle.hc_member.specs.Finish.{finished}
use Rattle.hc_member.specs.Heard.{policy_of}
use Rattle.hc_member.specs.Member.{Member as MemberState}
use Rattle.hc_member.specs.Sending.{IsSent, Sending, Tell, Recover, Reply as ReplyTo, datagrams_of, datagrams_of_all, recover_spec}
use Rattle.hc_member.specs.Setup.{own_address}
use Rattle.hc_member.specs.Sound.{IsSound}
use Rattle.hc_member.specs.Turn.{turned}
use Rattle.hc_member.proofs.Finished.{finishes}
use Rattle.hc_aggregate.specs.Turn.{Telling, datagram_of, reacted}
use Rattle.hc_rules.specs.Kept.{Kept}
use Rattle.hc_rules.specs.Log.{In, entry_at}
use Rattle.hc_rules.specs.Message.{Reply, Request}
use Rattle.hc_rules.specs.Protocol.{ProtocolState}
use Rattle.hc_rules.specs.Requests.{IsKnown}
use Rattle.hc_rules.specs.Runs.{after_rules}
use Rattle.hc_run.specs.Events.{GroupEvent, ClientSend, Deliver, Tick, Quiet, Crash, Restart, CrashInTurn, Forget, End}
use Rattle.hc_run.specs.Group.{Group, IsGroup, Receiver, Member, Aggregator, Outside, receiver_at, setup_of}
use Rattle.hc_run.specs.Held.{IsAsked}
use Rattle.hc_run.specs.Runs.{ArePossible, IsRun, after_events, run}
use Rattle.hc_run.specs.Shows.{Shows}
use Rattle.hc_run.specs.State.{GroupState, beginning, journal_at, member_at}
use Rattle.hc_run.specs.StepLaws.{protocol_of}
use Rattle.hc_run.specs.Steps.{asked, comes_to, crashes, crashes_in_turn, delivered, ends, event_of, happens, lasts, makes_turn, packet_at, replies, reply_from, request_parts, request_spec, step, stops, where_up, with_facts, with_finished, with_heard, with_sent, with_stored}
use Rattle.hc_run.proofs.AllSteps.{steps_are_rules}
use Rattle.hc_run.proofs.Assembled.{up-stands}
use Rattle.hc_run.proofs.Beginnings.{beginning_is_shown}
use Rattle.hc_run.proofs.Items.{holds-in}
use Rattle.hc_run.proofs.Journals.{groups_have_setups}
use Rattle.hc_run.proofs.Turns.{turns}
use Rattle.hc_world.specs.Addresses.{client, rid_of}
use Rattle.hc_world.specs.Laws.{IdsAreAnswered, IsReplied, RepliesAreCounted}
use Rattle.hc_world.specs.Notes.{begun_id, is_answered, is_id, is_reply, replies_in, replies_to}
use Rattle.hc_world.proofs.Begins.{BeginsNone, first-begins, later-none, message-none, parts-none}
use Rattle.hc_world.proofs.Exact.{replies-append}
use Rattle.hc_world.proofs.Noting.{count-one}

-- Lists --

-- a reply answers the client's request with this id
abbrev pub answers : ℕ → Reply → Bool
answers id r = same_rid r.request (rid_of id)

-- what datagrams tell of replies is what these are
pub record IsNoted (datagrams : List Datagram) (replied : List Reply) : Type 0 where
  pub count : replies_in datagrams ≡ length replied
  pub ids : (id : ℕ) → is_answered datagrams id ≡ list_any (answers id) replied

count-none : (more : List Datagram) → All BeginsNone more → replies_in more ≡ 0
unfolding replies_in
count-none [] none = refl
count-none (d ∷ more) none =
    let first = count-one d None (All-head BeginsNone d more none) in
    let rest = count-none more (All-tail BeginsNone d more none) in
    omega (arith, replies-append (d ∷ []) more, first, rest)

ids-none : (more : List Datagram) (id : ℕ) → All BeginsNone more → is_answered more id ≡ false
ids-none [] id none = refl
ids-none (d ∷ more) id none =
    let first : replies_to id d ≡ (same_addr d.to client && false) = ap (λ (o : Option ℕ). same_addr d.to client && is_id id o) (All-head BeginsNone d more none) in
    both _ (same_addr d.to client) _ first (ids-none more id (All-tail BeginsNone d more none))
  where
    both : (a x b : Bool) → a ≡ (x && false) → b ≡ false → (a || b) ≡ false
    both a true b e f = rw (e, f) refl
    both a false b e f = rw (e, f) refl

or-false : (a b : Bool) → b ≡ false → (a || b) ≡ a
or-false true b e = refl
or-false false b e = e

-- datagrams that begin none are sent
noted-none : (old more : List Datagram) (replied : List Reply) → All BeginsNone more → IsNoted old replied → IsNoted (old ++ more) replied
noted-none old more replied none noted =
    let was = noted.count in
    let nothing = count-none more none in
    record {
      count = omega (arith, replies-append old more, was, nothing);
      ids = λ id. list_any-append (replies_to id) old more ∙ or-false (is_answered old id) (is_answered more id) (ids-none more id none) ∙ noted.ids id;
    }

-- a reply is sent
noted-one : (old more : List Datagram) (d : Datagram) (r : Reply) (replied : List Reply) → begun_id d ≡ Some r.request.id → d.to ≡ r.request.client → All BeginsNone more
    → IsNoted old replied → IsNoted (old ++ d ∷ more) (r ∷ replied)
noted-one old more d r replied begun to none noted =
    let was = noted.count in
    let nothing = count-none more none in
    let one = count-one d (Some r.request.id) begun in
    record {
      count = omega (arith, replies-append old (d ∷ more), replies-append (d ∷ []) more, was, one, nothing);
      ids = λ id.
          let first : replies_to id d ≡ (same_addr r.request.client client && (r.request.id == id)) =
          ap (λ (o : Option ℕ). same_addr d.to client && is_id id o) begun ∙ ap (λ (a : Addr). same_addr a client && (r.request.id == id)) to in
          list_any-append (replies_to id) old (d ∷ more)
          ∙ turned-round (is_answered old id) (replies_to id d) (is_answered more id) (same_addr r.request.client client) (r.request.id == id) first (ids-none more id none)
          ∙ ap (λ (b : Bool). answers id r || b) (noted.ids id);
    }
  where
    turned-round : (a p b x y : Bool) → p ≡ (x && y) → b ≡ false → (a || (p || b)) ≡ ((y && x) || a)
    turned-round true p b true true e f = refl
    turned-round true p b true false e f = refl
    turned-round true p b false true e f = refl
    turned-round true p b false false e f = refl
    turned-round false p b true true e f = rw e refl
    turned-round false p b true false e f = rw (e, f) refl
    turned-round false p b false true e f = rw (e, f) refl
    turned-round false p b false false e f = rw (e, f) refl

-- What is sent --

reply-noted : (own : Addr) (reply : KeptReply) (place : ℕ) (old : List Datagram) (replied : List Reply) → IsReply reply → FitsRid reply.rid → IsNoted old replied
    → IsNoted (old ++ reply_parts own reply.rid reply.policy reply.payload) (reply_from place reply ∷ replied)
unfolding reply_parts parts_of part_datagram
reply-noted own reply place old replied is fits noted = by (part_count reply.payload) refl
  where
    by : (count : ℕ) → part_count reply.payload ≡ count
        → IsNoted (old ++ map (part_datagram (reply_spec own reply.rid reply.policy) reply.payload) (range_with_len 0 count)) (reply_from place reply ∷ replied)
    by zero e = let least = part_count-least reply.payload in absurd (omega (arith, e, least))
    by (suc k) e =
        let spec = reply_spec own reply.rid reply.policy in
        noted-one old (map (part_datagram spec reply.payload) (range_with_len 1 k)) (part_datagram spec reply.payload 0) (reply_from place reply) replied
        (first-begins own reply is fits.id (omega (arith, e))) refl
        (later-none own reply is fits.id k 1 (omega arith) (omega (arith, e)))
        noted

-- replies are only added
pub replies-stay : (place : ℕ) (sends : List Sending) (before : List Reply) (r : Reply) → In r before → In r (replies place sends before)
replies-stay place [] before r there = there
replies-stay place (Tell to message ∷ sends) before r there = replies-stay place sends before r there
replies-stay place (Recover to rid message ∷ sends) before r there = replies-stay place sends before r there
replies-stay place (ReplyTo reply ∷ sends) before r there = replies-stay place sends (reply_from place reply ∷ before) r (inr there)

-- each reply is to a request whose id fits its fields
abbrev pub AllFit : List Reply → Type 0
AllFit replied = (r : Reply) → In r replied → FitsRid r.request

one-noted : (s : Setup) (place : ℕ) (x : Sending) (old : List Datagram) (before : List Reply) → IsSent x → AllFit (replies place (x ∷ []) before) → IsNoted old before
    → IsNoted (old ++ datagrams_of s x) (replies place (x ∷ []) before)
unfolding datagrams_of parts_of
one-noted s place (Tell to message) old before is fits noted =
    noted-none old (datagrams_of s (Tell to message)) before (All-cons BeginsNone _ [] (message-none (own_address s) to message) (All-nil BeginsNone)) noted
one-noted s place (Recover to rid message) old before is fits noted =
    let body = message_bytes message in
    noted-none old (datagrams_of s (Recover to rid message)) before
    (parts-none (recover_spec (own_address s) to rid) body (range_with_len 0 (part_count body)) (omega arith) (λ n. refl)) noted
one-noted s place (ReplyTo reply) old before is fits noted =
    reply-noted (own_address s) reply place old before is (fits (reply_from place reply) (inl refl)) noted

-- one thing after another
replies-first : (place : ℕ) (x : Sending) (sends : List Sending) (before : List Reply) → replies place (x ∷ sends) before ≡ replies place sends (replies place (x ∷ []) before)
replies-first place (Tell to message) sends before = refl
replies-first place (Recover to rid message) sends before = refl
replies-first place (ReplyTo reply) sends before = refl

pub sends-noted : (s : Setup) (place : ℕ) (sends : List Sending) (old : List Datagram) (before : List Reply) → All IsSent sends → AllFit (replies place sends before)
    → IsNoted old before → IsNoted (old ++ datagrams_of_all s sends) (replies place sends before)
sends-noted s place [] old before are fits noted = subst (λ (l : List Datagram). IsNoted l before) (sym (append-nil old)) noted
sends-noted s place (x ∷ sends) old before are fits noted =
    let rest = datagrams_of_all s sends in
    let middle = replies place (x ∷ []) before in
    let same = replies-first place x sends before in
    let fit : AllFit (replies place sends middle) = subst AllFit same fits in
    let first = one-noted s place x old before (All-head IsSent x sends are) (λ r there. fit r (replies-stay place sends middle r there)) noted in
    let all = sends-noted s place sends (old ++ datagrams_of s x) middle (All-tail IsSent x sends are) fit first in
    let joined : (old ++ datagrams_of s x) ++ rest ≡ old ++ datagrams_of_all s (x ∷ sends) =
    append_assoc old (datagrams_of s x) rest ∙ ap (λ (l : List Datagram). old ++ l) (sym (flat_map-cons (datagrams_of s) x sends)) in
    subst (λ (l : List Datagram). IsNoted l (replies place (x ∷ sends) before)) joined (subst (λ (l : List Reply). IsNoted ((old ++ datagrams_of s x) ++ rest) l) (sym same) all)

-- the parts of a request begin no reply
request-none : (q : Request) (to : List Addr) → All BeginsNone (flat_map (λ a. parts_of (request_spec q a) q.body) to)
unfolding parts_of
request-none q [] = All-nil BeginsNone
request-none q (a ∷ to) =
    rw (flat_map-cons (λ a. parts_of (request_spec q a) q.body) a to)
    (All-append BeginsNone (parts_of (request_spec q a) q.body) (flat_map (λ a. parts_of (request_spec q a) q.body) to)
    (parts-none (request_spec q a) q.body (range_with_len 0 (part_count q.body)) (low q.kind) other) (request-none q to))
  where
    low : (k : Kind) → policy_of k < 16
    low Blank = omega arith
    low Write = omega arith
    low Read = omega arith

    other : (n : ℕ) → is_reply (part_type class.Request n) ≡ false
    other zero = refl
    other (suc n) = refl

-- nor do messages of the aggregator
tells-none : (me : Addr) (tells : List Telling) → All BeginsNone (map (datagram_of me) tells)
tells-none me [] = All-nil BeginsNone
tells-none me (t ∷ tells) = All-cons BeginsNone (datagram_of me t) (map (datagram_of me) tells) (message-none me t.to t.message) (tells-none me tells)

-- Replies that were sent --

-- that of a request of the table fits its fields
known-fits : (table : List Request) (rid : Rid) → All IsAsked table → IsKnown table rid → FitsRid rid
known-fits table rid asked known = subst FitsRid known.named (holds-in IsAsked known.request table asked known.sent).fits

-- an entry of a book that asks for something is a request of the table
book-fits : (w : ProtocolState) (term index : ℕ) → Kept w → All IsAsked w.table → 0 < index → index ≤ length (w.book term) → is_request (entry_at (w.book term) index).kind ≡ true
    → FitsRid (entry_at (w.book term) index).rid
book-fits w term zero kept asked set within asks = absurd (omega (arith, set))
book-fits w term (suc k) kept asked set within asks =
    let logs = kept.logs in
    let formed = logs.logs_are_formed in
    let listed = (formed.of_book term).listed k within asks in
    known-fits w.table (entry_at (w.book term) (suc k)).rid asked (record { request = listed.request; sent = listed.sent; named = listed.named })

replies-fit : (g : Group) (w : ProtocolState) (s : GroupState) → Shows g w s → AllFit s.replied
replies-fit g w s shows r there =
    let answered = shows.answered in
    let right = answered.replies_are_right r (shows.replied r there) in
    let committed = right.committed in
    let low = right.low in
    let within = committed.within in
    let asked : All IsAsked w.table = rw shows.table shows.asked in
    subst FitsRid right.named (book-fits w right.term r.index shows.kept asked right.first (omega (arith, low, within)) right.asks)

-- Steps --

-- what the datagrams of a group tell of replies is so
abbrev pub IsNotedIn : GroupState → Type 0
IsNotedIn s = IsNoted s.datagrams s.replied

module _ (g : Group) (is : IsGroup g) where
  turn-noted : (w : ProtocolState) (s : GroupState) (v : ℕ) (e : Event) (m : MemberState) → Shows g w s → member_at s v ≡ Some m → IsNotedIn s
      → AllFit (makes_turn g v e m s).replied → IsNotedIn (makes_turn g v e m s)
  unfolding makes_turn with_sent with_heard with_finished
  turn-noted w s v e m shows up noted fits =
      let here = up-stands g w s v m is shows up in
      let stands = here.stands in
      let shown = stands.shown in
      let did = turns (setup_of g v) m e stands.setup shown.sound in
      sends-noted (setup_of g v) (length s.table) (turned (setup_of g v) m e).sends s.datagrams s.replied did.sends fits noted

  ends-stay : (v times : ℕ) (m : MemberState) (s : GroupState) (r : Reply) → In r s.replied → In r (ends g v times m s).replied
  unfolding ends with_sent with_finished
  ends-stay v zero m s r there = there
  ends-stay v (suc times) m s r there =
      let f = finished (setup_of g v) m in
      ends-stay v times f.member (with_sent g v f.sends (with_finished g v m s)) r (replies-stay (length s.table) f.sends s.replied r there)

  ends-noted : (v times : ℕ) (m : MemberState) (s : GroupState) → v < length g.members → IsSound (setup_of g v) m → IsNotedIn s → AllFit (ends g v times m s).replied
      → IsNotedIn (ends g v times m s)
  unfolding ends with_sent with_finished
  ends-noted v zero m s inside sound noted fits = noted
  ends-noted v (suc times) m s inside sound noted fits =
      let setup = setup_of g v in
      let f = finished setup m in
      let t = with_sent g v f.sends (with_finished g v m s) in
      let did = finishes setup (groups_have_setups g v is inside) m sound in
      ends-noted v times f.member t inside did.sound
      (sends-noted setup (length s.table) f.sends s.datagrams s.replied did.sends (λ r there. fits r (ends-stay v times f.member t r there)) noted) fits

  -- what a member does that is up
  up-noted : (found : Option MemberState) (does : MemberState → GroupState → GroupState) (s : GroupState) → IsNotedIn s → AllFit (where_up found does s).replied
      → ((m : MemberState) → found ≡ Some m → AllFit (does m s).replied → IsNotedIn (does m s)) → IsNotedIn (where_up found does s)
  up-noted (Some m) does s noted fits each = each m refl fits
  up-noted None does s noted fits each = noted

  comes-noted : (w : ProtocolState) (s : GroupState) (to : Receiver) (d : Datagram) → Shows g w s → IsNotedIn s → AllFit (comes_to g to d s).replied → IsNotedIn (comes_to g to d s)
  comes-noted w s (Member v) d shows noted fits =
      up-noted (member_at s v) (makes_turn g v (event.Datagram d)) s noted fits (λ m up fit. turn-noted w s v (event.Datagram d) m shows up noted fit)
  comes-noted w s Aggregator d shows noted fits =
      noted-none s.datagrams _ s.replied (tells-none d.to (reacted g.members s.tally (event.Datagram d)).tells) noted
  comes-noted w s Outside d shows noted fits = noted

  delivered-noted : (w : ProtocolState) (s : GroupState) (packet : Option Datagram) → Shows g w s → IsNotedIn s → AllFit (delivered g packet s).replied → IsNotedIn (delivered g packet s)
  delivered-noted w s (Some d) shows noted fits = comes-noted w s (receiver_at g d.to) d shows noted fits
  delivered-noted w s None shows noted fits = noted

  crash-noted : (b : Bool) (v : ℕ) (e : Event) (m : MemberState) (s : GroupState) → IsNotedIn s
      → IsNotedIn (if b then crashes (stops v (with_stored (journal_at s v) (turned (setup_of g v) m e).stored) (with_facts g v m e s))
      else crashes (stops v (journal_at s v) (with_finished g v m s)))
  unfolding with_heard with_finished
  crash-noted true v e m s noted = noted
  crash-noted false v e m s noted = noted

  happens-noted : (w : ProtocolState) (s : GroupState) (e : GroupEvent) → Shows g w s → IsNotedIn s → AllFit (happens g e s).replied → IsNotedIn (happens g e s)
  unfolding asked request_parts crashes_in_turn
  happens-noted w s (ClientSend q) shows noted fits = noted-none s.datagrams _ s.replied (request-none q g.members) noted
  happens-noted w s (Deliver number) shows noted fits = delivered-noted w s (slice_get s.datagrams number) shows noted fits
  happens-noted w s (Tick v) shows noted fits =
      up-noted (member_at s v) (makes_turn g v event.Tick) s noted fits (λ m up fit. turn-noted w s v event.Tick m shows up noted fit)
  happens-noted w s (Quiet v) shows noted fits =
      up-noted (member_at s v) (makes_turn g v event.Quiet) s noted fits (λ m up fit. turn-noted w s v event.Quiet m shows up noted fit)
  happens-noted w s (Crash v) shows noted fits =
      up-noted (member_at s v) (λ m s. crashes (stops v (journal_at s v) s)) s noted fits (λ m up fit. noted)
  happens-noted w s (Restart v) shows noted fits = noted
  happens-noted w s (CrashInTurn v packet kept) shows noted fits =
      let e = event_of (packet_at s packet) in
      up-noted (member_at s v) (crashes_in_turn g v e kept) s noted fits
      (λ m up fit. crash-noted (lasts kept (turned (setup_of g v) m e).stored) v e m s noted)
  happens-noted w s Forget shows noted fits = noted
  happens-noted w s (End v times) shows noted fits =
      up-noted (member_at s v) (ends g v times) s noted fits
      (λ m up fit.
      let here = up-stands g w s v m is shows up in
      let stands = here.stands in
      let shown = stands.shown in
      ends-noted v times m s here.inside shown.sound noted fit)

  step-noted : (w x : ProtocolState) (s : GroupState) (e : GroupEvent) → Shows g w s → Shows g x (step g s e) → IsNotedIn s → IsNotedIn (step g s e)
  unfolding step
  step-noted w x s e shows later noted = happens-noted w s e shows noted (replies-fit g x (step g s e) later)

  events-noted : (w : ProtocolState) (s : GroupState) (events : List GroupEvent) → Shows g w s → ArePossible g s events → IsNotedIn s → IsNotedIn (after_events g s events)
  events-noted w s [] shows may noted = noted
  events-noted w s (e ∷ more) shows may noted =
      let leads = steps_are_rules g w s e is shows may.0 in
      events-noted (after_rules w leads.rules) (step g s e) more leads.shown may.1 (step-noted w (after_rules w leads.rules) s e shows leads.shown noted)

-- and so it is after every run
pub runs-noted : (g : Group) (events : List GroupEvent) → IsGroup g → IsRun g events → IsNotedIn (run g events)
unfolding replies_in
runs-noted g events is runs = events-noted g is (protocol_of g) (beginning g) events (beginning_is_shown g is) runs.possible begins
  where
    begins : IsNotedIn (beginning g)
    begins = record { count = refl; ids = λ id. refl }

-- Laws --

pub replies_are_counted : RepliesAreCounted
replies_are_counted g events is runs = let noted = runs-noted g events is runs in noted.count

replied-in : (id : ℕ) (replied : List Reply) → list_any (answers id) replied ≡ true → IsReplied replied (rid_of id)
replied-in id [] e = absurd cc
replied-in id (r ∷ replied) e = by (answers id r) refl (replied-in id replied)
  where
    by : (b : Bool) → answers id r ≡ b → (list_any (answers id) replied ≡ true → IsReplied replied (rid_of id)) → IsReplied (r ∷ replied) (rid_of id)
    by true this rest = record { reply = r; sent = inl refl; named = same_rid-true r.request (rid_of id) this }
    by false this rest =
        let later = rest (sym (ap (λ (b : Bool). b || list_any (answers id) replied) this) ∙ e) in
        record { reply = later.reply; sent = inr later.sent; named = later.named }

in-replied : (id : ℕ) (replied : List Reply) (r : Reply) → In r replied → r.request ≡ rid_of id → list_any (answers id) replied ≡ true
in-replied id [] r there named = absurd there
in-replied id (x ∷ replied) r (inl same) named =
    let this : answers id x ≡ true = subst (λ (y : Rid). same_rid y (rid_of id) ≡ true) (sym named ∙ ap (λ (y : Reply). y.request) same) (same_rid-same (rid_of id)) in
    ap (λ (b : Bool). b || list_any (answers id) replied) this
in-replied id (x ∷ replied) r (inr later) named = or-true (answers id x) _ (in-replied id replied r later named)
  where
    or-true : (a b : Bool) → b ≡ true → (a || b) ≡ true
    or-true true b e = refl
    or-true false b e = e

pub ids_are_answered : IdsAreAnswered
ids_are_answered g events id is runs =
    let noted = runs-noted g events is runs in
    let same = noted.ids id in
    let replied = (run g events).replied in
    (λ e. replied-in id replied (sym same ∙ e), λ there. same ∙ in-replied id replied there.reply there.sent there.named)

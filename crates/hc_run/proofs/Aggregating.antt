-- The aggregator counts by the protocol's rules.
use Rattle.std.proofs.Common.{◌≡◌, ◌≢◌, ℕ, ◌+◌, ◌<◌, ◌≤◌, ◌==◌, ◌&&◌, ◌||◌, Bool, true, false, max, List, [], ◌∷◌, ◌++◌, length, take, set, get_or, replicate, None, Some, refl, sym, ap, ◌∙◌, arith, inl, inr}
use Rattle.std.specs.Prelude.{All, count_by, if◌then◌else◌, nat_le, nat_lt, slice_index_or, slice_set}
use Rattle.std.specs.List.{remove}
use Rattle.std.proofs.lemmas.Bool.{and_parts, cases_lt, eqb-true, le-leb, leb-true, ltb-false, ltb-true}
use Rattle.std.proofs.lemmas.List.{get_or-replicate, get_or_past, get_or-set_other, get_or-set_same, length-replicate, length-set, take_all}
use Rattle.std.proofs.lemmas.List.Elements.{All-append, All-map, All-nil}
use Rattle.r2_base.specs.declared.addr.Addr.{Addr}
use Rattle.r2_base.specs.declared.entry.Entry.{Entry}
use Rattle.r2_base.specs.Names.{same_addr}
use Rattle.hc_message.specs.declared.msg.Msg.{Msg}
use Rattle.hc_message.specs.declared.msg.Msg.TheVariants.{VoteReq, Vote, Order, Ack, Nack, AggCommit, RecoverAsk, RecoverBody}
use Rattle.hc_order.proofs.Greatest.{is_counted}
use Rattle.hc_aggregate.specs.Group.{address_of, is_from_member, majority}
use Rattle.hc_aggregate.specs.Tally.{Tally, begun, found, is_news, most_reached, reached_by, with_found, with_reached}
use Rattle.hc_aggregate.specs.Turn.{Outcome, Telling, commit_told, counts, hear_ack, hear_order, nothing, takes_ack, takes_order, tell_each}
use Rattle.hc_rules.specs.Conditions.{MayCollect, MayFollow, MayNoteOrder}
use Rattle.hc_rules.specs.Kept.{Kept}
use Rattle.hc_rules.specs.Log.{In}
use Rattle.hc_rules.specs.Majority.{tally}
use Rattle.hc_rules.specs.Message as message
use Rattle.hc_rules.specs.Protocol.{ProtocolState, acked, put, told}
use Rattle.hc_rules.specs.Rules.{Aggregate, Collect, Follow, NoteOrder, Rule, after}
use Rattle.hc_rules.specs.Runs.{AllAllowed}
use Rattle.hc_rules.proofs.Puts.{same_or_not, self}
use Rattle.hc_rules.proofs.Steps.{steps_keep}
use Rattle.hc_run.specs.Aggregating.{AggregatingIsRules, IsAggregatorSteps, IsTold, IsToldTo, ShowsTally}
use Rattle.hc_run.specs.Rows.{ByAggregator, maker}
use Rattle.hc_run.proofs.Counting.{tally-by, tally-weaker}
use Rattle.hc_run.proofs.Sendings.{order_with}

-- no steps
ends : (members : List Addr) (w : ProtocolState) (o : Outcome) → ShowsTally members w o.tally → All (IsTold members w) o.tells → IsAggregatorSteps members w o
ends members w o shown backed =
    record { rules = []; are = record { own = tt; allowed = tt; shown = shown; backed = backed; passed = refl; reports = refl } }

-- one step, and those after it
first : (members : List Addr) (w : ProtocolState) (o : Outcome) (r : Rule) → maker r ≡ ByAggregator → AllAllowed w (r ∷ []) → (after w r).passed ≡ w.passed → (after w r).reports ≡ w.reports
    → IsAggregatorSteps members (after w r) o → IsAggregatorSteps members w o
first members w o r own may passed reports steps =
    let are = steps.are in
    record {
      rules = r ∷ steps.rules;
      are =
          record {
            own = (own, are.own);
            allowed = (may.0, are.allowed);
            shown = are.shown;
            backed = are.backed;
            passed = are.passed ∙ passed;
            reports = are.reports ∙ reports;
          };
    }

pub zeros : (n p : ℕ) → slice_index_or (replicate {A = ℕ} n 0) p 0 ≡ 0
zeros n p =
    elim (cases_lt p n) [
      | inl inside ↦ get_or-replicate n p 0 0 inside
      | inr past ↦ get_or_past (replicate {A = ℕ} n 0) p 0 (omega (arith, past, length-replicate {A = ℕ} n 0))
    ]

-- what a member reached is noted
noted : (reached : ℕ → ℕ) (list : List ℕ) (v index : ℕ) → ((p : ℕ) → reached p ≡ slice_index_or list p 0) → v < length list → (p : ℕ)
    → put reached v (max (reached v) index) p ≡ slice_index_or (slice_set list v (max (slice_index_or list v 0) index)) p 0
noted reached list v index tied inside p =
    elim (same_or_not p v) [
      | inl same ↦ rw (same, self v, get_or-set_same list v (max (slice_index_or list v 0) index) 0 inside, tied v) refl
      | inr differs ↦ rw (differs, get_or-set_other list v p (max (slice_index_or list v 0) index) 0 (not_same differs)) (tied p)
    ]
  where
    not_same : {c d : ℕ} → (c == d) ≡ false → c ≢ d
    not_same {c} {d} f g = absurd (let h = rw (g, self d) at f in cc)

-- the sender is a member
inside : (members : List Addr) (from : Addr) (v : ℕ) → is_from_member members from v ≡ true → v < length members
inside members from v e = ltb-true v (length members) (and_parts (nat_lt v (length members)) (same_addr from (address_of members v)) e).0

shows-reached : (members : List Addr) (w x : ProtocolState) (t : Tally) (v index : ℕ) → ShowsTally members w t → v < length members → x.size ≡ w.size
    → x.aggregator.term ≡ w.aggregator.term → x.aggregator.leader ≡ w.aggregator.leader → x.aggregator.start ≡ w.aggregator.start
    → ((p : ℕ) → x.aggregator.reached p ≡ put w.aggregator.reached v (max (w.aggregator.reached v) index) p) → ShowsTally members x (with_reached t v index)
shows-reached members w x t v index shown member size term leader start reached =
    let tied = shown.tied in
    let each = shown.each in
    record {
      some = shown.some;
      size = size ∙ shown.size;
      each = length-set t.reached v (max (reached_by t v) index) ∙ each;
      tied =
          record {
            term = term ∙ tied.term;
            leader = leader ∙ tied.leader;
            start = start ∙ tied.start;
            reached = λ p. reached p ∙ noted w.aggregator.reached t.reached v index tied.reached (omega (arith, member, each)) p;
          };
    }

-- Counting --

-- what is told, by its parts
abbrev commit_with : ℕ → ℕ → message.AggregateCommit
commit_with term index = record { term = term; index = index }

abbrev tell_with : Addr → Msg → Telling
tell_with to message = record { to = to; message = message }

either-of : (m a b : ℕ) → m ≤ max a b → (nat_le m a || nat_le m b) ≡ true
either-of m a b low =
    elim (cases_lt a m) [
      | inr here ↦ rw (le-leb m a here) refl
      | inl below ↦ or-right (nat_le m a) (le-leb m b (omega (arith, low, below)))
    ]
  where
    or-right : {c : Bool} (d : Bool) → c ≡ true → (d || c) ≡ true
    or-right true e = refl
    or-right false e = e

-- members are told what is found
count-found : (members : List Addr) (w : ProtocolState) (t : Tally) (before : List Telling) (b : Bool) → Kept w → ShowsTally members w t → 0 < t.term → All (IsTold members w) before
    → ((r : message.Order) (m : ℕ) → All (IsTold members (after w (Aggregate r m))) before) → is_news t (most_reached t) ≡ b
    → IsAggregatorSteps members w (record { tally = with_found t (if b then Some (most_reached t) else None); tells = before ++ commit_told members t.term (if b then Some (most_reached t) else None) })
count-found members w t before false kept shown set backed later e =
    ends members w (record { tally = t; tells = before ++ [] }) shown (All-append (IsTold members w) before [] backed (All-nil (IsTold members w)))
count-found members w t before true kept shown set backed later e =
    let tied = shown.tied in
    let each = shown.each in
    let size = shown.size in
    let some = shown.some in
    let m = most_reached t in
    let parts = and_parts (nat_le t.term_start m) (nat_lt t.committed m) e in
    let start = leb-true t.term_start m parts.0 in
    let commitments = kept.commitments in
    let order = commitments.aggregator_follows_an_order (rw tied.term set) in
    let is = is_counted t.reached (majority (length t.reached)) (omega arith) (omega (arith, each, some)) in
    let enough = is.reached_by in
    let all : take w.size t.reached ≡ t.reached = take_all w.size t.reached (omega (arith, each, size)) in
    let tallied : tally w.size (λ c. nat_le m (get_or t.reached c 0)) ≡ count_by (λ n. nat_le m n) t.reached =
    rw all at (tally-by (λ n. nat_le m n) t.reached 0 w.size (omega (arith, each, size))) in
    let o = order.order in
    let term_is = order.term_is in
    let weaker = tally-weaker w.size (λ c. nat_le m (get_or t.reached c 0)) (λ p. nat_le m (told w.orders o.term p) || nat_le m (acked w.acks o.term p))
    (λ c has.
    let low = leb-true m (get_or t.reached c 0) has in
    let tie = tied.reached c in
    let most = commitments.aggregator_was_told c in
    either-of m (told w.orders o.term c) (acked w.acks o.term c) (rw (order.term_is) (omega (arith, low, tie, most)))) in
    let rule = Aggregate o m in
    let v = after w rule in
    let out : Outcome = record { tally = with_found t (Some m); tells = before ++ commit_told members t.term (Some m) } in
    let sent : commit_with t.term m ≡ commit_with o.term m = ap (λ (x : ℕ). commit_with x m) (sym (order.term_is ∙ tied.term)) in
    first members w out rule refl
    (record { sent = order.sent; own = (let start_is = order.start_is in let start_tied = tied.start in omega (arith, start, start_is, start_tied)); backed = omega (arith, enough, tallied, weaker, each, size) }, tt) refl refl
    (ends members v out
    (record { some = some; size = size; each = each; tied = record { term = tied.term; leader = tied.leader; start = tied.start; reached = tied.reached } })
    (All-append (IsTold members v) before (commit_told members t.term (Some m)) (later o m)
    (All-map (IsTold members v) (λ (x : Addr). tell_with x (AggCommit t.term m)) members (λ k d there. inl sent))))

-- Acknowledgements --

ack-steps : (members : List Addr) (w : ProtocolState) (t : Tally) (from to : Addr) (term member index applied : ℕ) → Kept w → ShowsTally members w t
    → IsToldTo members w to (Some (Ack term member index applied)) → (b : Bool) → takes_ack members t from term member ≡ b
    → IsAggregatorSteps members w (if b then hear_ack members t member index else nothing t)
unfolding hear_ack found
ack-steps members w t from to term member index applied kept shown heard false e = ends members w (nothing t) shown (All-nil (IsTold members w))
ack-steps members w t from to term member index applied kept shown heard true e =
    let parts = and_parts (is_from_member members from member) (term == t.term) e in
    let who = inside members from member parts.0 in
    let current = eqb-true term t.term parts.1 in
    let tied = shown.tied in
    let valid = heard.0 in
    let least = valid.0.least in
    let a : message.Ack = record { term = term; member = member; index = index; applied = applied } in
    let rule = Collect a in
    let v = after w rule in
    let n = with_reached t member index in
    let may : MayCollect w a = record { sent = heard.1; current = rw tied.term current } in
    first members w (counts members [] n) rule refl (may, tt) refl refl
    (count-found members v n [] (is_news n (most_reached n)) (steps_keep w rule kept may)
    (shows-reached members w v t member index shown who refl refl refl refl (λ p. refl)) (omega (arith, least, current)) (All-nil (IsTold members v)) (λ r m. All-nil (IsTold members (after v (Aggregate r m)))) refl)

-- Orders --

-- an Order goes to others, as it was sent
orders-told : (members : List Addr) (w : ProtocolState) (to : List Addr) (term leader prev_index prev_term term_start commit : ℕ) (via : Bool) (entries : List Entry)
    → In (order_with term leader prev_index prev_term term_start commit entries) w.orders
    → All (IsTold members w) (tell_each to (Order term leader prev_index prev_term term_start commit via entries))
orders-told members w to term leader prev_index prev_term term_start commit via entries sent =
    All-map (IsTold members w) (λ (x : Addr). tell_with x (Order term leader prev_index prev_term term_start commit via entries)) to (λ k d there. sent)

-- the aggregator counts in an Order's term, and notes what the Order shows
note-steps : (members : List Addr) (w : ProtocolState) (t : Tally) (term leader prev_index prev_term term_start commit : ℕ) (via : Bool) (entries : List Entry) → Kept w → ShowsTally members w t
    → In (order_with term leader prev_index prev_term term_start commit entries) w.orders → term ≡ t.term → 1 ≤ term → leader < length members
    → IsAggregatorSteps members w (counts members (tell_each (remove members leader) (Order term leader prev_index prev_term term_start commit via entries)) (with_reached t leader (prev_index + length entries)))
unfolding found
note-steps members w t term leader prev_index prev_term term_start commit via entries kept shown sent current least who =
    let tied = shown.tied in
    let o = order_with term leader prev_index prev_term term_start commit entries in
    let rule = NoteOrder o in
    let v = after w rule in
    let n = with_reached t leader (prev_index + length entries) in
    let others = remove members leader in
    let before = tell_each others (Order term leader prev_index prev_term term_start commit via entries) in
    let may : MayNoteOrder w o = record { sent = sent; current = rw tied.term current } in
    first members w (counts members before n) rule refl (may, tt) refl refl
    (count-found members v n before (is_news n (most_reached n)) (steps_keep w rule kept may)
    (shows-reached members w v t leader (prev_index + length entries) shown who refl refl refl refl (λ p. refl)) (omega (arith, least, current))
    (orders-told members v others term leader prev_index prev_term term_start commit via entries sent)
    (λ r m. orders-told members (after v (Aggregate r m)) others term leader prev_index prev_term term_start commit via entries sent) refl)

enter-steps : (members : List Addr) (w : ProtocolState) (t : Tally) (term leader prev_index prev_term term_start commit : ℕ) (via : Bool) (entries : List Entry) (b : Bool) → nat_lt t.term term ≡ b → Kept w
    → ShowsTally members w t → In (order_with term leader prev_index prev_term term_start commit entries) w.orders → t.term ≤ term → 1 ≤ term → leader < length members
    → IsAggregatorSteps members w (counts members (tell_each (remove members leader) (Order term leader prev_index prev_term term_start commit via entries))
    (with_reached (if b then begun (length t.reached) term leader term_start else t) leader (prev_index + length entries)))
enter-steps members w t term leader prev_index prev_term term_start commit via entries false e kept shown sent low least who =
    let high = ltb-false t.term term e in
    note-steps members w t term leader prev_index prev_term term_start commit via entries kept shown sent (omega (arith, low, high)) least who
enter-steps members w t term leader prev_index prev_term term_start commit via entries true e kept shown sent low least who =
    let tied = shown.tied in
    let more = ltb-true t.term term e in
    let o = order_with term leader prev_index prev_term term_start commit entries in
    let rule = Follow o in
    let v = after w rule in
    let n = begun (length t.reached) term leader term_start in
    let may : MayFollow w o = record { sent = sent; higher = rw tied.term more } in
    first members w _ rule refl (may, tt) refl refl
    (note-steps members v n term leader prev_index prev_term term_start commit via entries (steps_keep w rule kept may)
    (record {
      some = shown.some;
      size = shown.size;
      each = length-replicate {A = ℕ} (length t.reached) 0 ∙ shown.each;
      tied = record { term = refl; leader = refl; start = refl; reached = λ p. sym (zeros (length t.reached) p) };
    })
    sent refl least who)

order-steps : (members : List Addr) (w : ProtocolState) (t : Tally) (from to : Addr) (term leader prev_index prev_term term_start commit : ℕ) (via : Bool) (entries : List Entry) → Kept w → ShowsTally members w t
    → IsToldTo members w to (Some (Order term leader prev_index prev_term term_start commit via entries)) → (b : Bool) → takes_order members t from term leader via ≡ b
    → IsAggregatorSteps members w (if b then hear_order members t (Order term leader prev_index prev_term term_start commit via entries) term leader term_start (prev_index + length entries) else nothing t)
unfolding hear_order
order-steps members w t from to term leader prev_index prev_term term_start commit via entries kept shown heard false e = ends members w (nothing t) shown (All-nil (IsTold members w))
order-steps members w t from to term leader prev_index prev_term term_start commit via entries kept shown heard true e =
    let outer = and_parts (via && is_from_member members from leader) (nat_le t.term term) e in
    let inner = and_parts via (is_from_member members from leader) outer.0 in
    let head = heard.0.0 in
    let own = head.own in
    enter-steps members w t term leader prev_index prev_term term_start commit via entries (nat_lt t.term term) refl kept shown heard.1 (leb-true t.term term outer.1) own.least
    (inside members from leader inner.1)

pub aggregating_rules : AggregatingIsRules
aggregating_rules members w t from to None kept shown heard = ends members w (nothing t) shown (All-nil (IsTold members w))
aggregating_rules members w t from to (Some (Order a b c d e f g h)) kept shown heard =
    order-steps members w t from to a b c d e f g h kept shown heard (takes_order members t from a b g) refl
aggregating_rules members w t from to (Some (Ack a b c d)) kept shown heard =
    ack-steps members w t from to a b c d kept shown heard (takes_ack members t from a b) refl
aggregating_rules members w t from to (Some (VoteReq a b c d)) kept shown heard = ends members w (nothing t) shown (All-nil (IsTold members w))
aggregating_rules members w t from to (Some (Vote a b c)) kept shown heard = ends members w (nothing t) shown (All-nil (IsTold members w))
aggregating_rules members w t from to (Some (Nack a b c)) kept shown heard = ends members w (nothing t) shown (All-nil (IsTold members w))
aggregating_rules members w t from to (Some (AggCommit a b)) kept shown heard = ends members w (nothing t) shown (All-nil (IsTold members w))
aggregating_rules members w t from to (Some (RecoverAsk a)) kept shown heard = ends members w (nothing t) shown (All-nil (IsTold members w))
aggregating_rules members w t from to (Some (RecoverBody a b)) kept shown heard = ends members w (nothing t) shown (All-nil (IsTold members w))

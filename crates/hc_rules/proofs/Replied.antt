-- Replies: each is the one-thread service's, and in order.
use Rattle.std.proofs.Common.{◌≡◌, ℕ, zero, suc, ◌<◌, ◌≤◌, ◌⊎◌, inl, inr, Bool, true, false, if◌then◌else◌, List, [], ◌∷◌, ◌++◌, length, take, get_or, Option, Some, refl, sym, ap, subst, ◌∙◌, arith, length-append}
use Rattle.std.proofs.lemmas.Option.{none-some}
use Rattle.r2_base.specs.declared.rid.Rid.{Rid}
use Rattle.r2_base.specs.declared.entry.Entry.{Entry}
use Rattle.r2_base.specs.Entry.{blank_entry, is_request}
use Rattle.r2_base.specs.Names.{same_rid}
use Rattle.hc_rules.specs.Log.{In, Share, entry_at}
use Rattle.hc_rules.specs.Message.{Ack, Request, Reply}
use Rattle.hc_rules.specs.Rules.{Rule, Win, OrderRequest, Acknowledge, Answer, AnswerAgain, SendRequest, after}
use Rattle.hc_rules.specs.Conditions.{Allowed}
use Rattle.hc_rules.specs.Protocol.{ProtocolState, Committed, IsCommittedIn}
use Rattle.hc_rules.specs.Kept.{Kept}
use Rattle.std.proofs.Common.{map, ap₂, slice_get, option_and_then}
use Rattle.std.specs.FinMap as finite
use Rattle.std.proofs.lemmas.List.{length-map, take-map, get_or-map}
use Rattle.std.proofs.lemmas.Option.{slice_get-get_or, slice_get_past}
use Rattle.r2_base.specs.declared.entry.Kind.{Kind}
use Rattle.r2_base.specs.declared.entry.Kind.TheVariants.{Blank, Write, Read}
use Rattle.hc_store.specs.Replies.{Operation, after_all, entry_reply, reply_at}
use Rattle.hc_rules.specs.Conditions.{MayAnswer}
use Rattle.hc_rules.specs.Kept.{IsFormed}
use Rattle.hc_rules.specs.Replies.{IsRight, RepliesAreRight, PlacesAreWithin, LaterRequestsStandBehind}
use Rattle.hc_rules.specs.Requests.{At, IsKnown, IsListed, body_of, entry_body, operations}
use Rattle.hc_store.specs.Operations.{operation_by}
use Rattle.hc_rules.specs.Rules.{reply_of}
use Rattle.r2_base.proofs.SameNames.{same_rid-same}
use Rattle.hc_rules.proofs.Agreement.{fronts_agree}
use Rattle.hc_rules.proofs.Commits.{committed_grows, entry_shared}
use Rattle.hc_rules.proofs.Grows.{grows}
use Rattle.hc_rules.proofs.LaterLeaders.{cases_le}
use Rattle.hc_rules.proofs.Logs.{at_push, at_within}
use Rattle.hc_rules.proofs.Parts.{leaves}
use Rattle.hc_rules.proofs.Puts.{in_more}
use Rattle.hc_rules.proofs.Shares.{share_get, share_less}
use Rattle.hc_rules.proofs.Steps.{steps_keep}

-- an entry as the service sees it
abbrev operation_of : List Request → Entry → Operation
operation_of table = operation_by (λ (e : Entry). e.kind) (entry_body table)

-- a reply goes by the operations up to its index
pub reply_front : (n : ℕ) (xs ys : List Operation) → Share n xs ys → (index : ℕ) → index ≤ n → reply_at xs index ≡ reply_at ys index
unfolding reply_at
reply_front n xs ys s zero h = refl
reply_front n xs ys s (suc before) h =
    let front = (share_less before n xs ys (omega (arith, h)) s).same in
    let blank : Operation = record { kind = Blank; body = [] } in
    let one : slice_get xs before ≡ slice_get ys before =
    slice_get-get_or xs before blank (omega (arith, h, s.here))
    ∙ (ap Some (share_get n before blank xs ys h s) ∙ sym (slice_get-get_or ys before blank (omega (arith, h, s.there)))) in
    ap (λ (zs : List Operation). option_and_then (λ (o : Operation). entry_reply (after_all finite.empty zs) (suc before) o.kind o.body) (slice_get xs before)) front
    ∙ ap (λ (x : Option Operation). option_and_then (λ (o : Operation). entry_reply (after_all finite.empty (take before ys)) (suc before) o.kind o.body) x) one

share_map : (n : ℕ) (f : Entry → Operation) (xs ys : List Entry) → Share n xs ys → Share n (map f xs) (map f ys)
share_map n f xs ys s =
    record {
      here = omega (arith, length-map xs f, s.here);
      there = omega (arith, length-map ys f, s.there);
      same = take-map f n xs ∙ (ap (map f) s.same ∙ sym (take-map f n ys));
    }

pub reply_shared : (table : List Request) (n : ℕ) (xs ys : List Entry) → Share n xs ys → (index : ℕ) → index ≤ n → reply_at (operations table xs) index ≡ reply_at (operations table ys) index
reply_shared table n xs ys s index h = reply_front n (operations table xs) (operations table ys) (share_map n (operation_of table) xs ys s) index h

-- only a request has a reply
asks_by : (contents : _) (index : ℕ) (kind : Kind) (body payload : List ℕ) → entry_reply contents index kind body ≡ Some payload → is_request kind ≡ true
asks_by contents index Blank body payload e = absurd (none-some payload e)
asks_by contents index Write body payload e = refl
asks_by contents index Read body payload e = refl

record Asks (log : List Entry) (index : ℕ) : Type 0 where
  first : 0 < index
  within : index ≤ length log
  asks : is_request (entry_at log index).kind ≡ true

reply_asks : (table : List Request) (log : List Entry) (index : ℕ) (payload : List ℕ) → reply_at (operations table log) index ≡ Some payload → Asks log index
unfolding reply_at
reply_asks table log zero payload e = absurd (none-some payload e)
reply_asks table log (suc before) payload e = by (cases_le (length log) before)
  where
    by : (length log ≤ before) ⊎ (before < length log) → Asks log (suc before)
    by (inl h) =
        let past = slice_get_past (operations table log) before (omega (arith, h, length-map log (operation_of table))) in
        absurd (none-some payload (sym (ap (λ (x : Option Operation). option_and_then (λ (o : Operation). entry_reply (after_all finite.empty (take before (operations table log))) (suc before) o.kind o.body) x) past) ∙ e))
    by (inr h) =
        let here = slice_get-get_or (operations table log) before (operation_of table (blank_entry 0)) (omega (arith, h, length-map log (operation_of table))) in
        let mapped = get_or-map (operation_of table) log before (blank_entry 0) (operation_of table (blank_entry 0)) h in
        let there : slice_get (operations table log) before ≡ Some (operation_of table (get_or log before (blank_entry 0))) = here ∙ ap Some mapped in
        let found = sym (ap (λ (x : Option Operation). option_and_then (λ (o : Operation). entry_reply (after_all finite.empty (take before (operations table log))) (suc before) o.kind o.body) x) there) ∙ e in
        record {
          first = omega arith;
          within = h;
          asks = asks_by (after_all finite.empty (take before (operations table log))) (suc before) (get_or log before (blank_entry 0)).kind (operation_of table (get_or log before (blank_entry 0))).body payload found;
        }

-- a body that is known stays
body_in : (table : List Request) (q r : Request) (rid : Rid) → In r table → r.rid ≡ rid → body_of (table ++ q ∷ []) rid ≡ body_of table rid
body_in [] q r rid h e = absurd h
body_in (x ∷ table) q r rid (inl f) e =
    let test : same_rid rid x.rid ≡ true = subst (λ (c : Rid). same_rid c x.rid ≡ true) (sym (ap (λ (y : Request). y.rid) f) ∙ e) (same_rid-same x.rid) in
    rw test refl
body_in (x ∷ table) q r rid (inr h) e = by (same_rid rid x.rid) (body_in table q r rid h e)
  where
    by : (b : Bool) → body_of (table ++ q ∷ []) rid ≡ body_of table rid → (if b then x.body else body_of (table ++ q ∷ []) rid) ≡ (if b then x.body else body_of table rid)
    by true f = refl
    by false f = f

map_same : (f g : Entry → Operation) (log : List Entry) → ((j : ℕ) → j < length log → f (entry_at log (suc j)) ≡ g (entry_at log (suc j))) → map f log ≡ map g log
map_same f g [] h = refl
map_same f g (e ∷ log) h = ap₂ (λ (x : Operation) (xs : List Operation). x ∷ xs) (h 0 (omega arith)) (map_same f g log (λ j l. h (suc j) (omega (arith, l))))

-- a formed log's operations stay when the table grows
operations_grown : (table : List Request) (q : Request) (log : List Entry) → IsFormed table log → operations (table ++ q ∷ []) log ≡ operations table log
operations_grown table q log formed = map_same (operation_of (table ++ q ∷ [])) (operation_of table) log (λ j h. by (entry_at log (suc j)) (formed.listed j h))
  where
    by : (e : Entry) → (is_request e.kind ≡ true → IsListed table e) → operation_of (table ++ q ∷ []) e ≡ operation_of table e
    by e listed = ap (λ (body : List ℕ). record { kind = e.kind; body = body }) (bodies (is_request e.kind) refl)
      where
        bodies : (b : Bool) → is_request e.kind ≡ b → (if b then body_of (table ++ q ∷ []) e.rid else []) ≡ (if b then body_of table e.rid else [])
        bodies true f = let l = listed f in body_in table q l.request e.rid l.sent l.named
        bodies false f = refl

-- a reply's fields decide whether it is right
right_again : (members : ℕ) (winner : ℕ → Option ℕ) (book : ℕ → List Entry) (acks : List Ack) (table : List Request) (r : Reply) (place : ℕ)
    → IsRight members winner book acks table r → IsRight members winner book acks table (record { request = r.request; index = r.index; payload = r.payload; place = place })
right_again members winner book acks table r place h =
    record { term = h.term; end = h.end; committed = h.committed; first = h.first; low = h.low; asks = h.asks; named = h.named; right = h.right }

module _ (w : ProtocolState) (k : Kept w) where
  right_grows : (r : Rule) → Allowed w r → (x : Reply) → IsRight w.size w.winner w.book w.acks w.table x → IsRight w.size (after w r).winner (after w r).book (after w r).acks w.table x
  right_grows r a x h =
      let grown = (grows w k r a).books h.term in
      let within : x.index ≤ length (w.book h.term) = omega (arith, h.low, h.committed.within) in
      let same = entry_shared (length (w.book h.term)) x.index (w.book h.term) ((after w r).book h.term) grown within in
      record {
        term = h.term;
        end = h.end;
        committed = committed_grows w k r a h.term h.end h.committed;
        first = h.first;
        low = h.low;
        asks = sym (ap (λ (e : Entry). is_request e.kind) same) ∙ h.asks;
        named = sym (ap (λ (e : Entry). e.rid) same) ∙ h.named;
        right = sym (reply_shared w.table (length (w.book h.term)) (w.book h.term) ((after w r).book h.term) grown x.index within) ∙ h.right;
      }

  answered : (x index : ℕ) (payload : List ℕ) → MayAnswer w x index payload → IsRight w.size w.winner w.book w.acks w.table (reply_of w (entry_at (w.log x) index).rid index payload)
  answered x index payload a =
      let asks = reply_asks w.table (w.log x) index payload a.right in
      let known = k.commitments.commits_are_committed x (omega (arith, asks.first, a.applied, k.commitments.applied_is_committed x)) in
      let low : index ≤ w.commit x = omega (arith, a.applied, k.commitments.applied_is_committed x) in
      let same = entry_shared (w.commit x) index (w.log x) (w.book known.term) known.same low in
      record {
        term = known.term;
        end = known.index;
        committed = known.committed;
        first = asks.first;
        low = omega (arith, low, known.low);
        asks = sym (ap (λ (e : Entry). is_request e.kind) same) ∙ asks.asks;
        named = sym (ap (λ (e : Entry). e.rid) same);
        right = sym (reply_shared w.table (w.commit x) (w.log x) (w.book known.term) known.same index low) ∙ a.right;
      }

  pub replies_are_right : RepliesAreRight w → (r : Rule) → Allowed w r → RepliesAreRight (after w r)
  replies_are_right h (Win x) a = λ y l. right_grows (Win x) a y (h y l)
  replies_are_right h (OrderRequest x q p) a = λ y l. right_grows (OrderRequest x q p) a y (h y l)
  replies_are_right h (Acknowledge x m) a = λ y l. right_grows (Acknowledge x m) a y (h y l)
  replies_are_right h (Answer x index payload) a = in_more w.replied (answered x index payload a) h
  replies_are_right h (AnswerAgain x y e) a = in_more w.replied (right_again w.size w.winner w.book w.acks w.table y (length w.table) (h y a.sent)) h
  replies_are_right h (SendRequest q) a = λ y l.
      let was = h y l in
      record {
        term = was.term;
        end = was.end;
        committed = was.committed;
        first = was.first;
        low = was.low;
        asks = was.asks;
        named = was.named;
        right = ap (λ (xs : List Operation). reply_at xs y.index) (operations_grown w.table q (w.book was.term) (k.logs.logs_are_formed.of_book was.term)) ∙ was.right;
      }
  replies_are_right h r a = h

  pub places_are_within : PlacesAreWithin w → (r : Rule) → Allowed w r → PlacesAreWithin (after w r)
  places_are_within h (Answer x index payload) a = in_more w.replied (omega arith) h
  places_are_within h (AnswerAgain x y e) a = in_more w.replied (omega arith) h
  places_are_within h (SendRequest q) a = λ y l. omega (arith, h y l, length-append w.table (q ∷ []))
  places_are_within h r a = h

  -- what is committed after the step at an index of a right reply was committed there before
  stands_behind : (r : Rule) → Allowed w r → RepliesAreRight w → LaterRequestsStandBehind w
      → (x : Reply) → In x w.replied → (t m index place : ℕ) (q : Request) → IsCommittedIn w.size (after w r).winner (after w r).book (after w r).acks t m → 0 < index → index ≤ m
      → is_request (entry_at ((after w r).book t) index).kind ≡ true → (entry_at ((after w r).book t) index).rid ≡ q.rid → At w.table place q → x.place ≤ place → x.index < index
  stands_behind r a right behind x l t m index place q c first low asks named at later = by (cases_le index x.index)
    where
      by : (index ≤ x.index) ⊎ (x.index < index) → x.index < index
      by (inr h) = h
      by (inl h) =
          let was = right x l in
          let still = committed_grows w k r a was.term was.end was.committed in
          let same = two_terms t m was.term was.end index (resized c) (resized still) low (omega (arith, h, was.low)) in
          let grown = (grows w k r a).books was.term in
          let old = entry_shared (length (w.book was.term)) index (w.book was.term) ((after w r).book was.term) grown (omega (arith, h, was.low, was.committed.within)) in
          let both : entry_at (w.book was.term) index ≡ entry_at ((after w r).book t) index = old ∙ sym same in
          behind x l was.term was.end index place q was.committed first (omega (arith, h, was.low))
          (ap (λ (e : Entry). is_request e.kind) both ∙ asks) (ap (λ (e : Entry). e.rid) both ∙ named) at later
        where
          resized : {s n : ℕ} → IsCommittedIn w.size (after w r).winner (after w r).book (after w r).acks s n → Committed (after w r) s n
          resized {s} {n} d = subst (λ (z : ℕ). IsCommittedIn z (after w r).winner (after w r).book (after w r).acks s n) (sym (leaves w r).size) d

          two_terms : (t m u n index : ℕ) → Committed (after w r) t m → Committed (after w r) u n → index ≤ m → index ≤ n → entry_at ((after w r).book t) index ≡ entry_at ((after w r).book u) index
          two_terms t m u n index c d i j = order (cases_le m n)
            where
              order : (m ≤ n) ⊎ (n < m) → entry_at ((after w r).book t) index ≡ entry_at ((after w r).book u) index
              order (inl h) = sym (entry_shared m index ((after w r).book u) ((after w r).book t) (fronts_agree (after w r) (steps_keep w r k a) t m u n c d h) i)
              order (inr h) = entry_shared n index ((after w r).book t) ((after w r).book u) (fronts_agree (after w r) (steps_keep w r k a) u n t m d c (omega (arith, h))) j

  -- a request that wasn't sent yet is nowhere in what is committed
  not_sent : (q : Request) → (IsKnown w.table q.rid → ⊥) → (t m index : ℕ) → Committed w t m → 0 < index → index ≤ m → is_request (entry_at (w.book t) index).kind ≡ true → (entry_at (w.book t) index).rid ≡ q.rid → ⊥
  not_sent q fresh t m zero c first low asks named = omega (arith, first)
  not_sent q fresh t m (suc j) c first low asks named =
      let listed = (k.logs.logs_are_formed.of_book t).listed j (omega (arith, low, c.within)) asks in
      fresh (record { request = listed.request; sent = listed.sent; named = listed.named ∙ named })

  pub later_requests_stand_behind : PlacesAreWithin w → RepliesAreRight w → LaterRequestsStandBehind w → (r : Rule) → Allowed w r → LaterRequestsStandBehind (after w r)
  later_requests_stand_behind places right behind (Win x) a = stands_behind (Win x) a right behind
  later_requests_stand_behind places right behind (OrderRequest x q p) a = stands_behind (OrderRequest x q p) a right behind
  later_requests_stand_behind places right behind (Acknowledge x m) a = stands_behind (Acknowledge x m) a right behind
  later_requests_stand_behind places right behind (Answer x index payload) a =
      in_more w.replied (λ t m i place q c first low asks named at later. absurd (omega (arith, later, at_within w.table place q at))) behind
  later_requests_stand_behind places right behind (AnswerAgain x y e) a =
      in_more w.replied (λ t m i place q c first low asks named at later. absurd (omega (arith, later, at_within w.table place q at))) behind
  later_requests_stand_behind places right behind (SendRequest n) a = λ x l t m index place q c first low asks named at later. by x l t m index place q c first low asks named later (at_push w.table n place q at)
    where
      by : (x : Reply) → In x w.replied → (t m index place : ℕ) (q : Request) → Committed w t m → 0 < index → index ≤ m → is_request (entry_at (w.book t) index).kind ≡ true → (entry_at (w.book t) index).rid ≡ q.rid
          → x.place ≤ place → At w.table place q ⊎ ((place ≡ length w.table) × (n ≡ q)) → x.index < index
      by x l t m index place q c first low asks named later (inl at) = behind x l t m index place q c first low asks named at later
      by x l t m index place q c first low asks named later (inr new) =
          absurd (not_sent n a.fresh t m index c first low asks (named ∙ sym (ap (λ (y : Request). y.rid) new.1)))
  later_requests_stand_behind places right behind r a = behind

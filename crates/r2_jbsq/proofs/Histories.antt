-- What one mark more changes of what is open and waits, and what a step's marks do.
use Rattle.std.proofs.Common.{◌≡◌, ◌≢◌, ◌<◌, ℕ, zero, suc, Bool, true, false, cond, List, [], ◌∷◌, ◌++◌, length, get_or, set, refl, sym, subst, ap, ◌∙◌, zero-add, arith, append-nil}
use Rattle.std.specs.Prelude.{◌==◌, ◌||◌, not, map}
use Rattle.std.specs.List.{list_any, range_with_len}
use Rattle.std.proofs.lemmas.Bool.{eqb-true}
use Rattle.std.proofs.lemmas.List.{get_or-set_other, get_or-set_same, length-set, map-append}
use Rattle.std.proofs.lemmas.List.FromFn.{fill_by_all, get_or-map-range_with_len, length-map-range_with_len}
use Rattle.std.proofs.lemmas.Grind.{common_steps}
use Rattle.r2_base.specs.declared.rid.Rid.{Rid}
use Rattle.r2_jbsq.specs.declared.routed_request.RoutedRequest.{RoutedRequest}
use Rattle.r2_jbsq.specs.History.{Accept, Answer, Forward, Mark, open_at, accepted_packet, waiting}
use Rattle.r2_base.specs.Names.{same_rid}
use Rattle.r2_jbsq.specs.Standing.{closed, has, is_known, put, queued, requests_in, row_at, standing_in, without}
use Rattle.r2_jbsq.proofs.Marks.{names_without, names_without-absent, open_at-accept, open_at-answer, open_at-forward, accepted_packet-accept, accepted_packet-answer, accepted_packet-forward, waiting-accept, waiting-answer, waiting-forward}
use Rattle.r2_base.proofs.SameNames.{same_rid-same, same_rid-sym}

-- the request of a name
abbrev request_in : List Mark → Rid → RoutedRequest
request_in history rid = record { rid = rid; packet = accepted_packet history rid }

-- names and their requests
pub has-requests : (rid : Rid) (history : List Mark) (names : List Rid) → has rid (requests_in history names) ≡ list_any (same_rid rid) names
has-requests rid history [] = refl
has-requests rid history (other ∷ names) = ap (λ b. same_rid rid other || b) (has-requests rid history names)

both-ways : (b : Bool) (history : List Mark) (other : Rid) (names : List Rid)
    → cond b (request_in history other ∷ requests_in history names) (requests_in history names) ≡ requests_in history (cond b (other ∷ names) names)
both-ways true history other names = refl
both-ways false history other names = refl

pub without-requests : (rid : Rid) (history : List Mark) (names : List Rid) → without rid (requests_in history names) ≡ requests_in history (names_without rid names)
unfolding without
without-requests rid history [] = refl
without-requests rid history (other ∷ names) =
    ap (λ (rest : List RoutedRequest). cond (not (same_rid rid other)) (request_in history other ∷ rest) rest) (without-requests rid history names)
    ∙ both-ways (not (same_rid rid other)) history other (names_without rid names)

-- the packets stay
requests-same : (before after : List Mark) (names : List Rid) → ((q : Rid) → accepted_packet after q ≡ accepted_packet before q) → requests_in after names ≡ requests_in before names
requests-same before after [] same = refl
requests-same before after (rid ∷ names) same = rw (same rid, requests-same before after names same) refl

pub or-false-left : (a b : Bool) → (a || b) ≡ false → a ≡ false
or-false-left true b e = e
or-false-left false b e = refl

pub or-false-right : (a b : Bool) → (a || b) ≡ false → b ≡ false
or-false-right true b e = cc
or-false-right false b e = e

requests-accept : (history : List Mark) (rid : Rid) (packet : List ℕ) (names : List Rid) → list_any (same_rid rid) names ≡ false
    → requests_in (history ++ Accept rid packet ∷ []) names ≡ requests_in history names
requests-accept history rid packet [] absent = refl
requests-accept history rid packet (other ∷ names) absent =
    let apart : same_rid other rid ≡ false = same_rid-sym other rid ∙ or-false-left (same_rid rid other) (list_any (same_rid rid) names) absent in
    rw (accepted_packet-accept history rid packet other, apart, requests-accept history rid packet names (or-false-right (same_rid rid other) (list_any (same_rid rid) names) absent)) refl

-- the rows of a history
pub length-rows : (servers : ℕ) (history : List Mark) → length (standing_in servers history).rows ≡ servers
unfolding standing_in
length-rows servers history = length-map-range_with_len (λ server. requests_in history (open_at server history)) 0 servers

pub row-in : (servers : ℕ) (history : List Mark) (server : ℕ) → server < servers
    → get_or (standing_in servers history).rows server [] ≡ requests_in history (open_at server history)
unfolding standing_in
row-in servers history server inside =
    get_or-map-range_with_len (λ server. requests_in history (open_at server history)) 0 servers server server [] inside (zero-add server)

pub queue-in : (servers : ℕ) (history : List Mark) → (standing_in servers history).queue ≡ requests_in history (waiting history)
unfolding standing_in
queue-in servers history = refl

-- what has the rows and the queue of a history
pub standing-is : (servers : ℕ) (history : List Mark) (rows : List (List RoutedRequest)) (queue : List RoutedRequest) → length rows ≡ servers
    → ((k : ℕ) → k < servers → get_or rows k [] ≡ requests_in history (open_at k history)) → queue ≡ requests_in history (waiting history)
    → standing_in servers history ≡ record { rows = rows; queue = queue }
unfolding standing_in
standing-is servers history rows queue long each same =
    let all : rows ≡ map (λ server. requests_in history (open_at server history)) (range_with_len 0 servers) =
    fill_by_all (λ server. requests_in history (open_at server history)) rows servers [] long each in
    rw (all, same) refl

-- none passes, so none at a place does
none-at : {X : Type 0} (p : X → Bool) (xs : List X) (k : ℕ) (d : X) → list_any p xs ≡ false → k < length xs → p (get_or xs k d) ≡ false
none-at p [] k d none h = absurd (omega (arith, h))
none-at p (x ∷ xs) zero d none h = or-false-left (p x) (list_any p xs) none
none-at p (x ∷ xs) (suc k) d none h = none-at p xs k d (or-false-right (p x) (list_any p xs) none) (omega (arith, h))

-- one place of the rows
set-at : (rows : List (List RoutedRequest)) (to : ℕ) (row : List RoutedRequest) (k : ℕ) (b : Bool) → (k == to) ≡ b → to < length rows
    → get_or (set rows to row) k [] ≡ cond b row (get_or rows k [])
set-at rows to row k true e inside =
    let same : k ≡ to = eqb-true k to e in
    subst (λ (i : ℕ). get_or (set rows to row) i [] ≡ row) (sym same) (get_or-set_same rows to row [] inside)
set-at rows to row k false e inside =
    let apart : k ≢ to = grind (arith, common_steps, e) in
    get_or-set_other rows to k row [] apart

-- the place of a server, by number or by test
row-as : (servers : ℕ) (history : List Mark) (to : ℕ) (k : ℕ) (b : Bool) → (k == to) ≡ b → to < servers
    → (change : List RoutedRequest → List RoutedRequest)
    → cond b (change (row_at (standing_in servers history) to)) (requests_in history (open_at k history))
    ≡ cond b (change (requests_in history (open_at k history))) (requests_in history (open_at k history))
row-as servers history to k true e inside change =
    ap change (row-in servers history to inside ∙ ap (λ (i : ℕ). requests_in history (open_at i history)) (sym (eqb-true k to e)))
row-as servers history to k false e inside change = refl

-- a place of the rows where one was changed
row-changed : (servers : ℕ) (history : List Mark) (to : ℕ) (k : ℕ) → to < servers → k < servers → (change : List RoutedRequest → List RoutedRequest)
    → get_or (set (standing_in servers history).rows to (change (row_at (standing_in servers history) to))) k []
    ≡ cond (k == to) (change (requests_in history (open_at k history))) (requests_in history (open_at k history))
row-changed servers history to k inside within change =
    set-at (standing_in servers history).rows to (change (row_at (standing_in servers history) to)) k (k == to) refl (omega (arith, inside, length-rows servers history))
    ∙ (ap (λ (row : List RoutedRequest). cond (k == to) (change (row_at (standing_in servers history) to)) row) (row-in servers history k within)
    ∙ row-as servers history to k (k == to) refl inside change)

-- a request was accepted
absent-in-row : (servers : ℕ) (history : List Mark) (rid : Rid) (k : ℕ) → is_known rid (standing_in servers history) ≡ false → k < servers
    → list_any (same_rid rid) (open_at k history) ≡ false
absent-in-row servers history rid k new h =
    sym (has-requests rid history (open_at k history))
    ∙ (ap (has rid) (sym (row-in servers history k h))
    ∙ none-at (has rid) (standing_in servers history).rows k [] (or-false-left (list_any (has rid) (standing_in servers history).rows) (has rid (standing_in servers history).queue) new)
    (omega (arith, h, length-rows servers history)))

absent-in-queue : (servers : ℕ) (history : List Mark) (rid : Rid) → is_known rid (standing_in servers history) ≡ false
    → list_any (same_rid rid) (waiting history) ≡ false
absent-in-queue servers history rid new =
    sym (has-requests rid history (waiting history))
    ∙ (ap (has rid) (sym (queue-in servers history))
    ∙ or-false-right (list_any (has rid) (standing_in servers history).rows) (has rid (standing_in servers history).queue) new)

pub new-packet : (history : List Mark) (rid : Rid) (packet : List ℕ) → accepted_packet (history ++ Accept rid packet ∷ []) rid ≡ packet
new-packet history rid packet = accepted_packet-accept history rid packet rid ∙ rw (same_rid-same rid) refl

pub accept-mark : (servers : ℕ) (history : List Mark) (request : RoutedRequest) → is_known request.rid (standing_in servers history) ≡ false
    → standing_in servers (history ++ Accept request.rid request.packet ∷ []) ≡ queued request (standing_in servers history)
accept-mark servers history request new =
    let after : List Mark = history ++ Accept request.rid request.packet ∷ [] in
    let absent = absent-in-queue servers history request.rid new in
    standing-is servers after (standing_in servers history).rows ((standing_in servers history).queue ++ request ∷ [])
    (length-rows servers history)
    (λ k h.
    row-in servers history k h
    ∙ (sym (requests-accept history request.rid request.packet (open_at k history) (absent-in-row servers history request.rid k new h))
    ∙ ap (requests_in after) (sym (open_at-accept k history request.rid request.packet))))
    (sym (ap (requests_in after) (waiting-accept history request.rid request.packet ∙ ap (λ names. names ++ request.rid ∷ []) (names_without-absent request.rid (waiting history) absent))
    ∙ (map-append (request_in after) (waiting history) (request.rid ∷ [])
    ∙ rw (requests-accept history request.rid request.packet (waiting history) absent, new-packet history request.rid request.packet, queue-in servers history) refl)))

-- a request went to a server
end-by : (b : Bool) (history : List Mark) (rid : Rid) (names : List Rid)
    → requests_in history (names ++ cond b (rid ∷ []) []) ≡ cond b (requests_in history names ++ request_in history rid ∷ []) (requests_in history names)
end-by true history rid names = map-append (request_in history) names (rid ∷ [])
end-by false history rid names = ap (requests_in history) (append-nil names)

pub forward-mark : (servers : ℕ) (history : List Mark) (rid : Rid) (to : ℕ) → to < servers
    → standing_in servers (history ++ Forward rid to ∷ [])
    ≡ put (request_in history rid) to (record { rows = (standing_in servers history).rows; queue = without rid (standing_in servers history).queue })
forward-mark servers history rid to inside =
    let after : List Mark = history ++ Forward rid to ∷ [] in
    let row : List RoutedRequest = row_at (standing_in servers history) to ++ request_in history rid ∷ [] in
    standing-is servers after (set (standing_in servers history).rows to row) (without rid (standing_in servers history).queue)
    (length-set (standing_in servers history).rows to row ∙ length-rows servers history)
    (λ k h.
    row-changed servers history to k inside h (λ r. r ++ request_in history rid ∷ [])
    ∙ sym (requests-same history after (open_at k after) (accepted_packet-forward history rid to)
    ∙ (ap (requests_in history) (open_at-forward k history rid to) ∙ end-by (k == to) history rid (open_at k history))))
    (ap (without rid) (queue-in servers history)
    ∙ (without-requests rid history (waiting history)
    ∙ sym (requests-same history after (waiting after) (accepted_packet-forward history rid to) ∙ ap (requests_in history) (waiting-forward history rid to))))

-- a server was done with a request
less-by : (b : Bool) (history : List Mark) (rid : Rid) (names : List Rid)
    → requests_in history (cond b (names_without rid names) names) ≡ cond b (without rid (requests_in history names)) (requests_in history names)
less-by true history rid names = sym (without-requests rid history names)
less-by false history rid names = refl

pub answer-mark : (servers : ℕ) (history : List Mark) (rid : Rid) (from : ℕ) → from < servers
    → standing_in servers (history ++ Answer rid from ∷ []) ≡ closed rid from (standing_in servers history)
answer-mark servers history rid from inside =
    let after : List Mark = history ++ Answer rid from ∷ [] in
    let row : List RoutedRequest = without rid (row_at (standing_in servers history) from) in
    standing-is servers after (set (standing_in servers history).rows from row) (standing_in servers history).queue
    (length-set (standing_in servers history).rows from row ∙ length-rows servers history)
    (λ k h.
    row-changed servers history from k inside h (without rid)
    ∙ sym (requests-same history after (open_at k after) (accepted_packet-answer history rid from)
    ∙ (ap (requests_in history) (open_at-answer k history rid from) ∙ less-by (k == from) history rid (open_at k history))))
    (queue-in servers history
    ∙ sym (requests-same history after (waiting after) (accepted_packet-answer history rid from) ∙ ap (requests_in history) (waiting-answer history rid from)))

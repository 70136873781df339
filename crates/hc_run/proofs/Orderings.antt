-- A leader orders by the protocol's rules.
use Rattle.std.proofs.Common.{◌≡◌, ◌≢◌, ℕ, zero, suc, ◌+◌, ◌-◌, ◌<◌, ◌≤◌, ◌==◌, ◌||◌, Bool, true, false, List, [], ◌∷◌, ◌++◌, length, drop, get_or, Option, None, Some, refl, sym, ap, subst, ◌∙◌, arith, inl, inr, append-nil, length-append, length-drop}
use Rattle.std.specs.Prelude.{All, if◌then◌else◌, nat_lt, slice_index_or}
use Rattle.std.specs.List.{list_any}
use Rattle.std.proofs.lemmas.Bool.{cases_lt}
use Rattle.std.proofs.lemmas.List.{get_or-set_other, get_or-set_same, get_or-map, length-map, map-append}
use Rattle.std.proofs.lemmas.List.{drop-append-le, drop_all}
use Rattle.std.proofs.lemmas.List.Elements.{All-cons, All-head, All-map, All-nil, All-push, All-tail}
use Rattle.r2_base.specs.Limits.{most_entries}
use Rattle.r2_base.specs.declared.addr.Addr.{Addr}
use Rattle.r2_base.specs.declared.entry.Entry.{Entry}
use Rattle.r2_base.specs.declared.rid.Rid.{Rid}
use Rattle.r2_base.specs.Entry.{is_request}
use Rattle.r2_base.proofs.SameNames.{same_rid-same}
use Rattle.hc_log.specs.declared.stored.Stored.{Stored}
use Rattle.hc_log.specs.Log.{asks_as, has_room, metas_of, stands_in}
use Rattle.hc_pool.specs.declared.request.Request.{Request}
use Rattle.hc_pool.specs.Pool.{MayWait}
use Rattle.hc_replier.specs.Queues.{Row, assign, choose, empty_row, row_at, with_given}
use Rattle.hc_replier.proofs.Choosing.{is_chosen}
use Rattle.hc_order.specs.Ordering.{Waiting, entry_of, gone_on, next_from, next_ordered, ordered, ordered_to}
use Rattle.hc_member.specs.declared.setup.Setup.{Setup}
use Rattle.hc_member.specs.declared.role.Role.TheVariants as member
use Rattle.hc_member.specs.Member.{Member}
use Rattle.hc_member.specs.Orders.{fresh_orders, order_after, orders_to}
use Rattle.hc_member.specs.Outcome.{Outcome}
use Rattle.hc_member.specs.Sending.{Tell}
use Rattle.hc_member.specs.Setup.{IsSetup, address_of, others}
use Rattle.hc_member.specs.Turn.{ordering, waiting_of}
use Rattle.hc_member.proofs.Ordering.{CanOrder, orders}
use Rattle.hc_member.proofs.Settled.{can-order, ordered-leader}
use Rattle.hc_rules.specs.Log.{In, Lacks}
use Rattle.hc_rules.specs.Message.{Passed, Report}
use Rattle.hc_rules.specs.Parts.{member_of}
use Rattle.hc_rules.specs.Protocol.{ProtocolState, indexes_of, is_to, reported, unreported}
use Rattle.hc_rules.specs.Requests.{IsKnown}
use Rattle.hc_rules.specs.Rules.{Hold, OrderRequest, after}
use Rattle.hc_rules.specs.Rules as rule
use Rattle.hc_rules.proofs.Puts.{put_same, same_or_not, self}
use Rattle.hc_run.specs.Backed.{IsBacked, IsSentAs}
use Rattle.hc_run.specs.Halves.{OrderingIsRules}
use Rattle.hc_run.specs.Held.{IsAmong, IsAskedIn, IsLed, IsStoredOf, owed}
use Rattle.hc_run.specs.Tied.{IsTied, request_in}
use Rattle.hc_run.proofs.Counting.{steps-of}
use Rattle.hc_run.proofs.Metas.{length-metas}
use Rattle.hc_run.proofs.Sendings.{sends-order, slice-all}
use Rattle.hc_run.proofs.Ways.{IsLike, IsWay, acts, like_of, way-end, way-first}

-- Lists --

among-length : (xs ys : List ℕ) → IsAmong xs ys → length xs ≤ length ys
among-length [] ys among = omega arith
among-length (x ∷ xs) [] among = absurd among
among-length (x ∷ xs) (y ∷ ys) (inl both) = let rest = among-length xs ys both.1 in omega (arith, rest)
among-length (x ∷ xs) (y ∷ ys) (inr later) = let rest = among-length (x ∷ xs) ys later in omega (arith, rest)

among-push : (xs ys : List ℕ) (i : ℕ) → IsAmong xs ys → IsAmong (xs ++ i ∷ []) (ys ++ i ∷ [])
among-push [] [] i among = inl (refl, tt)
among-push [] (y ∷ ys) i among = inr (among-push [] ys i tt)
among-push (x ∷ xs) [] i among = absurd among
among-push (x ∷ xs) (y ∷ ys) i (inl both) = inl (both.0, among-push xs ys i both.1)
among-push (x ∷ xs) (y ∷ ys) i (inr later) = inr (among-push (x ∷ xs) ys i later)

-- the indexes of entries with one more
indexes-push : (f : Entry → Bool) (before : ℕ) (log : List Entry) (e : Entry)
    → indexes_of f before (log ++ e ∷ []) ≡ indexes_of f before log ++ (if f e then (before + length log + 1) ∷ [] else [])
indexes-push f before [] e = by (f e)
  where
    by : (b : Bool) → (if b then suc before ∷ [] else []) ≡ (if b then (before + 0 + 1) ∷ [] else [])
    by true = ap (λ (n : ℕ). n ∷ []) (omega arith)
    by false = refl
indexes-push f before (x ∷ log) e =
    let place : suc before + length log + 1 ≡ before + suc (length log) + 1 = omega arith in
    rw (indexes-push f (suc before) log e, place) (by (f x))
  where
    by : (b : Bool) → (if b then suc before ∷ (indexes_of f (suc before) log ++ (if f e then (before + suc (length log) + 1) ∷ [] else [])) else indexes_of f (suc before) log ++ (if f e then (before + suc (length log) + 1) ∷ [] else []))
        ≡ (if b then suc before ∷ indexes_of f (suc before) log else indexes_of f (suc before) log) ++ (if f e then (before + suc (length log) + 1) ∷ [] else [])
    by true = refl
    by false = refl

-- what the bound counts, after one entry more
owed-push : (f : Entry → Bool) (before : ℕ) (log : List Entry) (e : Entry) (ys : List ℕ) (b : Bool) → f e ≡ b → IsAmong (indexes_of f before (drop before log)) ys
    → IsAmong (indexes_of f before (drop before (log ++ e ∷ []))) (if b then ys ++ (length log + 1) ∷ [] else ys)
owed-push f before log e ys b is among =
    elim (cases_lt (length log) before) [
      | inl past ↦
          let none : drop before (log ++ e ∷ []) ≡ [] = drop_all before (log ++ e ∷ []) (omega (arith, past, length-append log (e ∷ []))) in
          rw none tt
      | inr inside ↦
          let moved : drop before (log ++ e ∷ []) ≡ drop before log ++ e ∷ [] = drop-append-le before log (e ∷ []) inside in
          let place : before + length (drop before log) + 1 ≡ length log + 1 = omega (arith, length-drop before log, inside) in
          rw (moved, indexes-push f before (drop before log) e, place, is) (by b)
    ]
  where
    by : (c : Bool) → IsAmong (indexes_of f before (drop before log) ++ (if c then (length log + 1) ∷ [] else [])) (if c then ys ++ (length log + 1) ∷ [] else ys)
    by true = among-push (indexes_of f before (drop before log)) ys (length log + 1) among
    by false = rw append-nil among

-- a request that isn't in a log is lacked there
lacks-metas : (rid : Rid) (log : List Stored) → stands_in rid log ≡ false → Lacks rid (metas_of log)
unfolding stands_in
lacks-metas rid [] e k inside asks same = absurd (omega arith)
lacks-metas rid (x ∷ log) e zero inside asks same =
    absurd (let here : asks_as rid x ≡ true = rw (asks, same) (same_rid-same rid) in let f = rw here at e in cc)
lacks-metas rid (x ∷ log) e (suc k) inside asks same = lacks-metas rid log (rest (asks_as rid x) e) k (omega (arith, inside)) asks same
  where
    rest : (b : Bool) → (b || list_any (asks_as rid) log) ≡ false → list_any (asks_as rid) log ≡ false
    rest true f = absurd cc
    rest false f = f

-- One request --

module _ (s : Setup) (is : IsSetup s) (m : Member) (role : m.role ≡ member.Leader) where
  -- the leader with what waits
  abbrev waits_with : Waiting → Member
  waits_with x = record m { log = x.log; pool = x.pool; lead = record m.lead { queues = x.queues }; matched = length x.log }

  -- a member below its bound
  has-place : (w : ProtocolState) (x : Waiting) (p : ℕ) → IsLike s w (waits_with x) → CanOrder s m.term m.vote x → choose x.queues ≡ Some p
      → (p < w.size) × (length (unreported w s.me p) < w.bound p)
  has-place w x p like can chosen =
      let group = like.group in
      let tied = like.tied in
      let holds = like.holds in
      let is_it = is_chosen x.queues p chosen in
      let below = is_it.below in
      let inside = is_it.is_member in
      let rows : length x.queues ≡ length s.members = sym (length-map x.queues (λ (row : Row). row.bound)) ∙ ap length can.bounds ∙ is.bound_each in
      let among = (holds.led role).1 p in
      let few = among-length (owed w.reports s.me (waits_with x) p) (row_at x.queues p).given among in
      let bound : (row_at x.queues p).bound ≡ w.bound p =
      sym (get_or-map (λ (row : Row). row.bound) x.queues p (empty_row 0) 0 inside)
      ∙ ap (λ (bs : List ℕ). slice_index_or bs p 0) can.bounds ∙ sym (group.bound p) in
      let size = group.size in
      (omega (arith, inside, rows, size), rw (tied.term, tied.log) (omega (arith, few, below, bound)))

  -- the leader with one request ordered
  tie-order : (w : ProtocolState) (x : Waiting) (r : Request) (later : List Request) (p : ℕ) (rids : List Rid) → IsTied (member_of w s.me) (waits_with x)
      → IsTied (member_of (after (after w (Hold s.me rids)) (OrderRequest s.me (request_in r) p)) s.me) (waits_with (ordered_to m.term x r later p))
  tie-order w x r later p rids t =
      record {
        up = t.up;
        term = t.term;
        vote = t.vote;
        log = put_same w.log s.me (w.log s.me ++ rule.entry_of (w.term s.me) (request_in r) p ∷ [])
            ∙ rw (t.log, t.term) (sym (map-append (λ (y : Stored). y.entry) x.log (entry_of m.term p r ∷ [])));
        role = t.role;
        matched = put_same w.matched s.me (suc (length (w.log s.me))) ∙ rw t.log (omega (arith, length-metas x.log, length-append x.log (entry_of m.term p r ∷ [])));
        commit = t.commit;
        applied = t.applied;
        counted = t.counted;
        start = t.start;
        reached = t.reached;
      }

  led-order : (reports : List Report) (x : Waiting) (r : Request) (later : List Request) (p : ℕ) → is_request r.kind ≡ true → p < length x.queues → IsLed reports s.me (waits_with x)
      → IsLed reports s.me (waits_with (ordered_to m.term x r later p))
  led-order reports x r later p asks inside led e = (
    refl,
    λ q.
        let before = reported reports s.me m.term q in
        let one = entry_of m.term p r in
        let among = (led e).1 q in
        let row = row_at x.queues p in
        let last = length x.log + 1 in
        let size : length (metas_of x.log) + 1 ≡ last = omega (arith, length-metas x.log) in
        let moved : metas_of (x.log ++ one ∷ []) ≡ metas_of x.log ++ one.entry ∷ [] = map-append (λ (y : Stored). y.entry) x.log (one ∷ []) in
        elim (same_or_not q p) [
          | inl same ↦
              let passes : is_to m.term q one.entry ≡ true = rw (asks, self m.term, same, self p) refl in
              let more = owed-push (is_to m.term q) before (metas_of x.log) one.entry (row_at x.queues q).given true passes among in
              rw moved (subst (λ (g : List ℕ). IsAmong (indexes_of (is_to m.term q) before (drop before (metas_of x.log ++ one.entry ∷ []))) g)
              (given-same q p same size x.queues (length x.log + 1) inside) more)
          | inr differs ↦
              let fails : is_to m.term q one.entry ≡ false = rw (asks, self m.term, differs) refl in
              let more = owed-push (is_to m.term q) before (metas_of x.log) one.entry (row_at x.queues q).given false fails among in
              rw moved (subst (λ (g : List ℕ). IsAmong (indexes_of (is_to m.term q) before (drop before (metas_of x.log ++ one.entry ∷ []))) g)
              (ap (λ (y : Row). y.given) (sym (get_or-set_other x.queues p q (with_given row last) (empty_row 0) (not_same differs)))) more)
        ],
  )
    where
      not_same : {c d : ℕ} → (c == d) ≡ false → c ≢ d
      not_same {c} {d} f g = absurd (let h = rw (g, self d) at f in cc)

      given-same : {k : ℕ} (q p : ℕ) → q ≡ p → k ≡ length x.log + 1 → (queues : List Row) (index : ℕ) → p < length queues
          → (row_at queues q).given ++ k ∷ [] ≡ (row_at (assign queues p (length x.log + 1)) q).given
      given-same q p same size queues index inside =
          rw (same, size, get_or-set_same queues p (with_given (row_at queues p) (length x.log + 1)) (empty_row 0) inside) refl

  order-one : (w : ProtocolState) (o : Outcome) (done : List Passed) (told : List Report) (x : Waiting) (r : Request) (later : List Request) (p : ℕ) → x.pool ≡ r ∷ later
      → IsLike s w (waits_with x) → CanOrder s m.term m.vote x → choose x.queues ≡ Some p
      → ((v : ProtocolState) → IsLike s v (waits_with (ordered_to m.term x r later p)) → v.passed ≡ w.passed → v.reports ≡ w.reports → IsWay s v o done told)
      → IsWay s w o done told
  order-one w o done told x r later p pool like can chosen goes =
      let tied = like.tied in
      let holds = like.holds in
      let asked : All (IsAskedIn w.table) (r ∷ later) = rw pool at holds.pool in
      let apart : All (λ (y : Request). stands_in y.rid x.log ≡ false) (r ∷ later) = rw pool at can.apart in
      let known : In (request_in r) w.table = All-head (IsAskedIn w.table) r later asked in
      let is_pool = can.pool in
      let waits : All MayWait (r ∷ later) = rw pool at is_pool.requests in
      let may_wait = All-head MayWait r later waits in
      let acting = acts s w (waits_with x) is like in
      let hold = Hold s.me (r.rid ∷ []) in
      let v = after w hold in
      let order = OrderRequest s.me (request_in r) p in
      let u = after v order in
      let place = has-place w x p like can chosen in
      let is_it = is_chosen x.queues p chosen in
      way-first s w o done told hold refl
      (record { acts = acting; known = λ rid there. named rid there known })
      (way-first s v o done told order refl
      (record {
        leads = record { acts = record { member = acting.member; runs = acting.runs }; leads = rw (tied.role, role) refl };
        known = known;
        held = rw (put_same w.pool s.me (r.rid ∷ [])) (inl refl);
        fresh = rw tied.log (lacks-metas r.rid x.log (All-head (λ (y : Request). stands_in y.rid x.log ≡ false) r later apart));
        member = place.0;
        room = place.1;
      })
      (goes u
      (record {
        group = record { size = like.group.size; bound = like.group.bound };
        tied = tie-order w x r later p (r.rid ∷ []) tied;
        holds =
            record {
              bodies = All-push (IsStoredOf w.table) x.log (entry_of m.term p r) holds.bodies (λ asks. known);
              pool = All-tail (IsAskedIn w.table) r later asked;
              kept = holds.kept;
              led = led-order w.reports x r later p may_wait.asks is_it.is_member holds.led;
              unfinished = holds.unfinished;
            };
      })
      refl refl))
    where
      named : (rid : Rid) → In rid (r.rid ∷ []) → In (request_in r) w.table → IsKnown w.table rid
      named rid (inl same) known = record { request = request_in r; sent = known; named = sym same }
      named rid (inr none) known = absurd none

  -- what may be ordered further
  can-next : (x : Waiting) (r : Request) (later : List Request) (p : ℕ) → x.pool ≡ r ∷ later → choose x.queues ≡ Some p → has_room x.log r.body ≡ true
      → CanOrder s m.term m.vote x → CanOrder s m.term m.vote (ordered_to m.term x r later p)
  unfolding ordered next_ordered
  can-next x r later p pool chosen room can =
      let more = orders s is m.term m.vote 1 x can in
      let same : gone_on (λ y. y) x (next_from m.term x x.pool (choose x.queues)) ≡ ordered_to m.term x r later p = rw (pool, chosen, room) refl in
      subst (CanOrder s m.term m.vote) same more.can

  -- as many as may be
  order-all : (room : ℕ) (w : ProtocolState) (o : Outcome) (done : List Passed) (told : List Report) (x : Waiting) → IsLike s w (waits_with x) → CanOrder s m.term m.vote x
      → ((v : ProtocolState) → IsLike s v (waits_with (ordered m.term room x)) → v.passed ≡ w.passed → v.reports ≡ w.reports → IsWay s v o done told)
      → IsWay s w o done told
  unfolding ordered next_ordered
  order-all zero w o done told x like can goes = goes w like refl refl
  order-all (suc room) w o done told x like can goes =
      next x.pool (choose x.queues) refl refl goes
      (λ v y like_v can_y passed reports onward. order-all room v o done told y like_v can_y onward)
    where
      next : (pool : List Request) (found : Option ℕ) → x.pool ≡ pool → choose x.queues ≡ found
          → ((v : ProtocolState) → IsLike s v (waits_with (gone_on (ordered m.term room) x (next_from m.term x pool found))) → v.passed ≡ w.passed → v.reports ≡ w.reports → IsWay s v o done told)
          → ((v : ProtocolState) (y : Waiting) → IsLike s v (waits_with y) → CanOrder s m.term m.vote y → v.passed ≡ w.passed → v.reports ≡ w.reports
          → ((u : ProtocolState) → IsLike s u (waits_with (ordered m.term room y)) → u.passed ≡ v.passed → u.reports ≡ v.reports → IsWay s u o done told) → IsWay s v o done told)
          → IsWay s w o done told
      next [] found e f goes on = goes w like refl refl
      next (r ∷ later) None e f goes on = goes w like refl refl
      next (r ∷ later) (Some p) e f goes on = by (has_room x.log r.body) refl goes
        where
          by : (b : Bool) → has_room x.log r.body ≡ b
              → ((v : ProtocolState) → IsLike s v (waits_with (gone_on (ordered m.term room) x (if b then Some (ordered_to m.term x r later p) else None))) → v.passed ≡ w.passed → v.reports ≡ w.reports → IsWay s v o done told)
              → IsWay s w o done told
          by false g goes = goes w like refl refl
          by true g goes =
              order-one w o done told x r later p e like can f
              (λ v like_v passed reports.
              on v (ordered_to m.term x r later p) like_v (can-next x r later p e f g can) passed reports
              (λ u like_u passed_u reports_u. goes u like_u (passed_u ∙ passed) (reports_u ∙ reports)))

-- The fresh Order --

fresh-way : (s : Setup) (w : ProtocolState) (n : Member) (keep : ℕ) → IsSetup s → IsLike s w n → n.role ≡ member.Leader → keep ≤ length n.log → (b : Bool)
    → IsWay s w (record { member = n; keep = keep; sends = if b then orders_to s n keep s.aggregator else [] }) w.passed w.reports
fresh-way s w n keep is like role inside false =
    way-end s w (record { member = n; keep = keep; sends = [] }) like (All-nil (IsBacked s w))
fresh-way s w n keep is like role inside true =
    let o : Outcome = record { member = n; keep = keep; sends = orders_to s n keep s.aggregator } in
    sends-order s w n o w.passed w.reports keep (metas_of (drop keep n.log)) is like role (slice-all n.log keep inside)
    (λ v like_v grown sent.
    subst (λ (r : List Report). IsWay s v o w.passed r) grown.reports (subst (λ (p : List Passed). IsWay s v o p v.reports) grown.passed
    (way-end s v o like_v (all v s.aggregator sent))))
  where
    all : (v : ProtocolState) (aggregator : Option Addr) → ((via : Bool) (to : Addr) → IsSentAs s.members v to (order_after s n keep via (metas_of (drop keep n.log))))
        → All (IsBacked s v) (orders_to s n keep aggregator)
    all v (Some a) sent = All-cons (IsBacked s v) (Tell a (order_after s n keep true (metas_of (drop keep n.log)))) [] (sent true a) (All-nil (IsBacked s v))
    all v None sent =
        All-map (IsBacked s v) (λ (x : ℕ). Tell (address_of s x) (order_after s n keep false (metas_of (drop keep n.log)))) (others s) (λ k d inside. sent false (address_of s (get_or (others s) k d)))

-- a leader as one that waits with what it has
like-waiting : (s : Setup) (w : ProtocolState) (m : Member) → m.role ≡ member.Leader → IsLike s w m → IsLike s w (record m { matched = length m.log })
like-waiting s w m role like =
    let t = like.tied in
    let holds = like.holds in
    let led = holds.led role in
    record {
      group = like.group;
      tied = record {
        up = t.up;
        term = t.term;
        vote = t.vote;
        log = t.log;
        role = t.role;
        matched = t.matched ∙ led.0;
        commit = t.commit;
        applied = t.applied;
        counted = t.counted;
        start = t.start;
        reached = t.reached;
      };
      holds =
          record {
            bodies = holds.bodies;
            pool = holds.pool;
            kept = holds.kept;
            led = λ e. (refl, led.1);
            unfinished = holds.unfinished;
          };
    }

pub ordering-role : (m : Member) (keep : ℕ) → (ordering m keep).role ≡ m.role
unfolding ordering
ordering-role m keep = refl

pub ordering_rules : OrderingIsRules
unfolding ordering fresh_orders
ordering_rules s w m keep stands role inside =
    let shown = stands.shown in
    let is = stands.setup in
    let room = most_entries - (length m.log - keep) in
    let new = ordered-leader s is m keep shown.sound role in
    let n = ordering m keep in
    let o : Outcome = record { member = n; keep = keep; sends = fresh_orders s n keep } in
    let extends = new.extends in
    let long = extends.long in
    steps-of s w o w.passed w.reports new.sound
    (order-all s is m role room w o w.passed w.reports (waiting_of m) (like-waiting s w m role (like_of s w m shown)) (can-order s is m shown.sound role)
    (λ v like passed reports.
    subst (λ (r : List Report). IsWay s v o w.passed r) reports (subst (λ (p : List Passed). IsWay s v o p v.reports) passed
    (fresh-way s v n keep is like role (omega (arith, inside, long)) (nat_lt keep (length n.log))))))

-- Each turn leaves a sound router.
use Rattle.std.proofs.Common.{◌≡◌, ◌<◌, ◌≤◌, ◌+◌, ℕ, zero, suc, Bool, true, false, cond, List, [], ◌∷◌, ◌++◌, length, get_or, set, refl, sym, subst, ap, ◌∙◌, arith, length-append}
use Rattle.std.specs.Prelude.{nat_lt, count_by, replicate, slice_index_or, sum_by, Option, Some, None}
use Rattle.std.specs.List.{All}
use Rattle.std.proofs.lemmas.Bool.{ltb-false}
use Rattle.std.proofs.lemmas.Grind.{common_steps}
use Rattle.std.proofs.lemmas.List.{get_or-set_same, length-replicate, length-set, set-set}
use Rattle.std.proofs.lemmas.List.Elements.{All-replicate, All-set}
use Rattle.std.proofs.lemmas.List.Sums.{get_or-le-sum_by, sum_by-set}
use Rattle.r2_base.specs.declared.event.Event.{Event}
use Rattle.r2_base.specs.declared.rid.Rid.{Rid}
use Rattle.r2_jbsq.specs.declared.routed_request.RoutedRequest.{RoutedRequest}
use Rattle.r2_jbsq.specs.declared.router_setup.RouterSetup.{RouterSetup}
use Rattle.r2_jbsq.specs.declared.decision.Decision.{Decision}
use Rattle.r2_jbsq.specs.declared.decision.Decision.TheVariants as decision
use Rattle.r2_jbsq.specs.Answer.{next_marks, decision_at}
use Rattle.r2_jbsq.specs.History.{is_forward}
use Rattle.r2_base.specs.Names.{same_rid}
use Rattle.r2_jbsq.specs.Limits.{most_waiting}
use Rattle.r2_jbsq.specs.Standing.{Standing, beside, closed, first_gone, first_of, is_for, is_known, put, queued, row_at, without}
use Rattle.r2_jbsq.specs.State.{Fits, IsFullWhileWaiting, IsNewAndGoes, IsNewAndWaits, IsOpenAt, IsSound, RouterState, begin, copies, counted, held_in, moved_on, passed_on, carried_out, turned}
use Rattle.r2_jbsq.proofs.Chosen.{chosen-None, chosen-Some}
use Rattle.r2_jbsq.proofs.Copies.{copies-closed, copies-gone, copies-put, copies-queued, count-without_other, count-without_same, has-count, known-copies}
use Rattle.r2_jbsq.proofs.Fitting.{step-fits}
use Rattle.r2_jbsq.proofs.Freed.{length-without, next_closed}
use Rattle.r2_base.proofs.SameNames.{same_rid-true}

-- what a step makes of the rows and the queue, and of the numbers of open and waiting requests
record Keeps (n servers : ℕ) (before after : Standing) (accepts forwards answers : ℕ) : Type 0 where
  rows : length after.rows ≡ servers
  within : All (λ (row : List RoutedRequest). length row ≤ n) after.rows
  full : IsFullWhileWaiting n after
  room : length after.queue ≤ most_waiting
  once : (rid : Rid) → copies rid after ≤ 1
  all : length after.queue + held_in after + answers ≡ length before.queue + held_in before + accepts
  sent : held_in after + answers ≡ held_in before + forwards

-- what a step needs of them
record Stands (n servers : ℕ) (s : Standing) : Type 0 where
  rows : length s.rows ≡ servers
  within : All (λ (row : List RoutedRequest). length row ≤ n) s.rows
  full : IsFullWhileWaiting n s
  room : length s.queue ≤ most_waiting
  once : (rid : Rid) → copies rid s ≤ 1

-- one copy more of a request that isn't known
not-known : (rid : Rid) (s : Standing) → is_known rid s ≡ false → copies rid s ≡ 0
not-known rid s new =
    let e : nat_lt 0 (copies rid s) ≡ false = sym (known-copies rid s) ∙ new in omega (arith, ltb-false 0 (copies rid s) e)

one-copy : (q : Rid) (request : RoutedRequest) (s : Standing) (b : Bool) → is_for q request ≡ b → is_known request.rid s ≡ false → copies q s ≤ 1
    → copies q s + cond b 1 0 ≤ 1
one-copy q request s true e new once =
    let same : copies q s ≡ 0 = ap (λ (r : Rid). copies r s) (same_rid-true q request.rid e) ∙ not-known request.rid s new in omega (arith, same)
one-copy q request s false e new once = omega (arith, once)

module _ (n servers : ℕ) (s : Standing) (k : Stands n servers s) where
  nothing-keeps : Keeps n servers s s 0 0 0
  nothing-keeps = record { rows = k.rows; within = k.within; full = k.full; room = k.room; once = k.once; all = refl; sent = refl }

  queue-keeps : (request : RoutedRequest) → IsNewAndWaits n request s → Keeps n servers s (queued request s) 1 0 0
  queue-keeps request w =
      record {
        rows = k.rows;
        within = k.within;
        full = λ h. chosen-None n s.rows k.within w.full;
        room = omega (arith, w.room, length-append s.queue (request ∷ []));
        once = λ q. rw (copies-queued q request s) (one-copy q request s (is_for q request) refl w.new (k.once q));
        all = omega (arith, length-append s.queue (request ∷ []));
        sent = refl;
      }

  forward-keeps : (request : RoutedRequest) (server : ℕ) → IsNewAndGoes n request server s → Keeps n servers s (put request server s) 1 1 0
  forward-keeps request server w =
      let c = chosen-Some n s.rows server w.chosen in
      let longer : length (row_at s server ++ request ∷ []) ≡ length (row_at s server) + 1 = length-append (row_at s server) (request ∷ []) in
      record {
        rows = length-set s.rows server (row_at s server ++ request ∷ []) ∙ k.rows;
        within = All-set (λ (row : List RoutedRequest). length row ≤ n) s.rows server (row_at s server ++ request ∷ []) (omega (arith, longer, c.few)) k.within;
        full = λ h. absurd (omega (arith, k.full h server [] c.inside, c.few));
        room = k.room;
        once = λ q. rw (copies-put q request server s c.inside) (one-copy q request s (is_for q request) refl w.new (k.once q));
        all = omega (arith, longer, sum_by-set length s.rows server (row_at s server ++ request ∷ []) [] c.inside);
        sent = omega (arith, longer, sum_by-set length s.rows server (row_at s server ++ request ∷ []) [] c.inside);
      }

  -- exactly one leaves the row
  one-left : (rid : Rid) (server : ℕ) → IsOpenAt rid server s → length (without rid (row_at s server)) + 1 ≡ length (row_at s server)
  one-left rid server w =
      let here : nat_lt 0 (count_by (is_for rid) (row_at s server)) ≡ true = sym (has-count rid (row_at s server)) ∙ w.is_open in
      let most : count_by (is_for rid) (row_at s server) ≤ sum_by (count_by (is_for rid)) s.rows = get_or-le-sum_by (count_by (is_for rid)) s.rows server [] w.is_server in
      grind (arith, common_steps, length-without rid (row_at s server), here, most, k.once rid)

  closed-once : (q rid : Rid) (server : ℕ) (b : Bool) → same_rid q rid ≡ b → server < length s.rows → copies q (closed rid server s) ≤ copies q s
  closed-once q rid server true e inside = omega (arith, copies-closed q rid server s inside, count-without_same q rid (row_at s server) e)
  closed-once q rid server false e inside = omega (arith, copies-closed q rid server s inside, count-without_other q rid (row_at s server) e)

-- a server is done with a request while none waits
close-keeps : (n servers : ℕ) (rows : List (List RoutedRequest)) (rid : Rid) (server : ℕ) → Stands n servers (record { rows = rows; queue = [] })
    → IsOpenAt rid server (record { rows = rows; queue = [] })
    → Keeps n servers (record { rows = rows; queue = [] }) (closed rid server (record { rows = rows; queue = [] })) 0 0 1
close-keeps n servers rows rid server k w =
    let s : Standing = record { rows = rows; queue = [] } in
    let left : length (without rid (row_at s server)) + 1 ≡ length (row_at s server) = one-left n servers s k rid server w in
    let row : length (row_at s server) ≤ n = k.within server [] w.is_server in
    let sums : sum_by length (set rows server (without rid (row_at s server))) + length (row_at s server) ≡ sum_by length rows + length (without rid (row_at s server)) =
    sum_by-set length rows server (without rid (row_at s server)) [] w.is_server in
    record {
      rows = length-set rows server (without rid (row_at s server)) ∙ k.rows;
      within = All-set (λ (row : List RoutedRequest). length row ≤ n) rows server (without rid (row_at s server)) (omega (arith, left, row)) k.within;
      full = λ h. absurd (omega (arith, h));
      room = k.room;
      once = λ q. let le = closed-once n servers s k q rid server (same_rid q rid) refl w.is_server in omega (arith, le, k.once q);
      all = omega (arith, left, sums);
      sent = omega (arith, left, sums);
    }

-- a server is done with a request, and the first of those that wait goes to it
move-keeps : (n servers : ℕ) (rows : List (List RoutedRequest)) (request : RoutedRequest) (more : List RoutedRequest) (rid : Rid) (server : ℕ)
    → Stands n servers (record { rows = rows; queue = request ∷ more })
    → IsOpenAt rid server (record { rows = rows; queue = request ∷ more })
    → Keeps n servers (record { rows = rows; queue = request ∷ more }) (first_gone server (closed rid server (record { rows = rows; queue = request ∷ more }))) 0 1 1
move-keeps n servers rows request more rid server k w =
    let s : Standing = record { rows = rows; queue = request ∷ more } in
    let row : List RoutedRequest = without rid (slice_index_or rows server []) in
    let next : List RoutedRequest = get_or (set rows server row) server [] ++ request ∷ [] in
    let left : length row + 1 ≡ length (slice_index_or rows server []) = one-left n servers s k rid server w in
    let read : get_or (set rows server row) server [] ≡ row = get_or-set_same rows server row [] w.is_server in
    let longer : length next ≡ length row + 1 = length-append (get_or (set rows server row) server []) (request ∷ []) ∙ ap (λ (r : List RoutedRequest). length r + 1) read in
    let all : All (λ (r : List RoutedRequest). length r ≡ n) rows = k.full (omega arith) in
    let held : length (slice_index_or rows server []) ≡ n = all server [] w.is_server in
    let each : All (λ (r : List RoutedRequest). length r ≡ n) (set (set rows server row) server next) =
    subst (All (λ (r : List RoutedRequest). length r ≡ n)) (sym (set-set rows server row next)) (All-set (λ (r : List RoutedRequest). length r ≡ n) rows server next (omega (arith, longer, left, held)) all) in
    let sums : sum_by length (set (set rows server row) server next) + length (slice_index_or rows server []) ≡ sum_by length rows + length next =
    ap (λ (l : List (List RoutedRequest)). sum_by length l + length (slice_index_or rows server [])) (set-set rows server row next) ∙ sum_by-set length rows server next [] w.is_server in
    record {
      rows = length-set (set rows server row) server next ∙ (length-set rows server row ∙ k.rows);
      within = λ i d h. let e : length (get_or (set (set rows server row) server next) i d) ≡ n = each i d h in omega (arith, e);
      full = λ h. each;
      room = omega (arith, k.room);
      once = λ q.
          let le = closed-once n servers s k q rid server (same_rid q rid) refl w.is_server in
          let same = copies-gone q server (closed rid server s) (omega (arith, length-set rows server row, w.is_server)) in
          omega (arith, le, same, k.once q);
      all = omega (arith, longer, left, sums);
      sent = omega (arith, longer, left, sums);
    }

-- both
freed-keeps : (n servers : ℕ) (rows : List (List RoutedRequest)) (queue : List RoutedRequest) (rid : Rid) (server : ℕ)
    → Stands n servers (record { rows = rows; queue = queue })
    → IsOpenAt rid server (record { rows = rows; queue = queue })
    → Keeps n servers (record { rows = rows; queue = queue }) (moved_on (closed rid server (record { rows = rows; queue = queue })) (beside server (first_of queue)))
    0 (count_by is_forward (next_marks (beside server (first_of queue)))) 1
freed-keeps n servers rows [] rid server k w = close-keeps n servers rows rid server k w
freed-keeps n servers rows (request ∷ more) rid server k w = move-keeps n servers rows request more rid server k w

-- what there is after a step that keeps all that
after-sound : (r : RouterState) (after : Standing) (accepted forwarded answered a f b : ℕ) → IsSound r → a ≤ 1
    → accepted ≡ r.accepted + a → forwarded ≡ r.forwarded + f → answered ≡ r.answered + b
    → Keeps r.setup.n (length r.setup.servers) r.standing after a f b
    → IsSound (record { setup = r.setup; standing = after; accepted = accepted; forwarded = forwarded; answered = answered; turns = r.turns + 1 })
after-sound r after accepted forwarded answered a f b k most is is' is'' w =
    record {
      rows = w.rows;
      within = w.within;
      full = w.full;
      most_waiting = w.room;
      once = w.once;
      accepted = omega (arith, k.accepted, w.all);
      forwarded = omega (arith, k.forwarded, w.sent);
      turns = omega (arith, k.turns, most);
    }

same-sound : (r : RouterState) → IsSound r → Keeps r.setup.n (length r.setup.servers) r.standing r.standing 0 0 0 → IsSound (counted r)
same-sound r k w = after-sound r r.standing r.accepted r.forwarded r.answered 0 0 0 k (omega arith) (omega arith) (omega arith) (omega arith) w

stands : (r : RouterState) → IsSound r → Stands r.setup.n (length r.setup.servers) r.standing
stands r k = record { rows = k.rows; within = k.within; full = k.full; room = k.most_waiting; once = k.once }

-- a server was done with a request, and this request went on
freed : RouterState → Rid → ℕ → RouterState
freed r rid server = record r { standing = closed rid server r.standing; answered = r.answered + 1 }

close-sound : (r : RouterState) (rid : Rid) (server : ℕ) (o : Option (RoutedRequest × ℕ)) → IsSound r
    → Keeps r.setup.n (length r.setup.servers) r.standing (moved_on (closed rid server r.standing) o) 0 (count_by is_forward (next_marks o)) 1
    → IsSound (counted (passed_on (freed r rid server) o))
unfolding freed
close-sound r rid server None k w =
    after-sound r (closed rid server r.standing) r.accepted r.forwarded (r.answered + 1) 0 0 1 k (omega arith) (omega arith) (omega arith) refl w
close-sound r rid server (Some (request, to)) k w =
    after-sound r (moved_on (closed rid server r.standing) (Some (request, to))) r.accepted (r.forwarded + 1) (r.answered + 1) 0 1 1 k (omega arith) (omega arith) refl refl w

-- the steps one by one
pub step-sound : (r : RouterState) (s : Decision) → IsSound r → Fits r.setup.n r.standing s → IsSound (counted (carried_out r s))
unfolding freed
step-sound r decision.Nothing k w = same-sound r k (nothing-keeps r.setup.n (length r.setup.servers) r.standing (stands r k))
step-sound r (decision.Reject rid) k w = same-sound r k (nothing-keeps r.setup.n (length r.setup.servers) r.standing (stands r k))
step-sound r decision.Repeat k w = same-sound r k (nothing-keeps r.setup.n (length r.setup.servers) r.standing (stands r k))
step-sound r (decision.Queue request) k w =
    after-sound r (queued request r.standing) (r.accepted + 1) r.forwarded r.answered 1 0 0 k (omega arith) refl (omega arith) (omega arith)
    (queue-keeps r.setup.n (length r.setup.servers) r.standing (stands r k) request w)
step-sound r (decision.Forward request server) k w =
    after-sound r (put request server r.standing) (r.accepted + 1) (r.forwarded + 1) r.answered 1 1 0 k (omega arith) refl refl (omega arith)
    (forward-keeps r.setup.n (length r.setup.servers) r.standing (stands r k) request server w)
step-sound r (decision.Close rid server) k w =
    subst (λ (o : Option (RoutedRequest × ℕ)). IsSound (counted (passed_on (freed r rid server) o))) (sym (next_closed r.setup.n rid server r.standing k.full w))
    (close-sound r rid server (beside server (first_of r.standing.queue)) k
    (freed-keeps r.setup.n (length r.setup.servers) r.standing.rows r.standing.queue rid server (stands r k) w))

-- each turn leaves a sound router
pub turned-sound : (r : RouterState) (event : Event) → IsSound r → IsSound (turned r event)
unfolding turned
turned-sound r event k = step-sound r (decision_at r.setup r.standing event) k (step-fits r.setup r.standing event k.rows)

-- so is a new one
no-copies : (rid : Rid) (n : ℕ) → sum_by (count_by (is_for rid)) (replicate n []) ≡ 0
no-copies rid zero = refl
no-copies rid (suc n) = no-copies rid n

none-held : (n : ℕ) → sum_by (λ (row : List RoutedRequest). length row) (replicate n []) ≡ 0
none-held zero = refl
none-held (suc n) = none-held n

pub begin-sound : (setup : RouterSetup) → IsSound (begin setup)
begin-sound setup =
    record {
      rows = length-replicate (length setup.servers) [];
      within = All-replicate (λ (row : List RoutedRequest). length row ≤ setup.n) (length setup.servers) [] (omega arith);
      full = λ h. absurd (omega (arith, h));
      most_waiting = omega arith;
      once = λ q. omega (arith, no-copies q (length setup.servers));
      accepted = omega (arith, none-held (length setup.servers));
      forwarded = omega (arith, none-held (length setup.servers));
      turns = omega arith;
    }

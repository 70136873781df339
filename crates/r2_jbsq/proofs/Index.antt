-- The names of the requests that are open and wait.
use Rattle.std.proofs.Common.{◌≡◌, ◌<◌, ◌≤◌, ◌+◌, ℕ, zero, suc, Bool, true, false, cond, List, [], ◌∷◌, ◌++◌, length, refl, sym, ap, ◌∙◌, arith}
use Rattle.std.specs.Prelude.{nat_lt, count_by, replicate, slice_index_or, slice_set}
use Rattle.std.specs.List.{list_any}
use Rattle.std.proofs.lemmas.Grind.{common_steps}
use Rattle.std.proofs.lemmas.List.{get_or_default}
use Rattle.r2_base.specs.declared.rid.Rid.{Rid}
use Rattle.r2_jbsq.specs.declared.routed_request.RoutedRequest.{RoutedRequest}
use Rattle.r2_base.specs.Names.{same_rid}
use Rattle.r2_jbsq.specs.Standing.{IsIndex, Standing, closed, first_gone, has, is_for, is_known, put, queued, row_at, nothing_open, without}
use Rattle.r2_jbsq.specs.State.{copies}
use Rattle.r2_jbsq.proofs.Copies.{copies-closed, copies-gone, copies-put, copies-queued, count-without_other, count-without_same, has-count, known-copies}
use Rattle.r2_base.proofs.SameNames.{same_rid-true, same_rid-sym}

-- nothing is known where nothing is open
no-rows : (q : Rid) (n : ℕ) → list_any (has q) (replicate n []) ≡ false
no-rows q zero = refl
no-rows q (suc n) = no-rows q n

pub none-known : (q : Rid) (servers : ℕ) → is_known q (nothing_open servers) ≡ false
none-known q servers = rw (no-rows q servers) refl

-- a name more
one-more : (b : Bool) (n : ℕ) → nat_lt 0 (n + cond b 1 0) ≡ cond b true (nat_lt 0 n)
one-more true n = grind (arith, common_steps)
one-more false n = grind (arith, common_steps)

pub known-queued : (q : Rid) (request : RoutedRequest) (s : Standing) → is_known q (queued request s) ≡ cond (is_for q request) true (is_known q s)
known-queued q request s =
    rw (known-copies q (queued request s), known-copies q s, copies-queued q request s) (one-more (is_for q request) (copies q s))

pub known-put : (q : Rid) (request : RoutedRequest) (server : ℕ) (s : Standing) → server < length s.rows
    → is_known q (put request server s) ≡ cond (is_for q request) true (is_known q s)
known-put q request server s inside =
    rw (known-copies q (put request server s), known-copies q s, copies-put q request server s inside) (one-more (is_for q request) (copies q s))

-- the first that waits stays known as it goes to a server
pub known-gone : (q : Rid) (server : ℕ) (s : Standing) → server < length s.rows → is_known q (first_gone server s) ≡ is_known q s
known-gone q server s inside = rw (known-copies q (first_gone server s), known-copies q s, copies-gone q server s inside) refl

-- a name less
one-less : (b : Bool) (n m k l : ℕ) → m + k ≡ n + l → (b ≡ true → n ≤ 1) → (b ≡ true → l ≡ 0) → (b ≡ true → nat_lt 0 k ≡ true) → (b ≡ false → l ≡ k)
    → nat_lt 0 m ≡ cond b false (nat_lt 0 n)
one-less true n m k l e once gone here same = let f : n ≤ 1 = once refl in let g : l ≡ 0 = gone refl in let h : nat_lt 0 k ≡ true = here refl in grind (arith, common_steps, e, f, g, h)
one-less false n m k l e once gone here same = let f : l ≡ k = same refl in grind (arith, common_steps, e, f)

pub known-closed : (q rid : Rid) (server : ℕ) (s : Standing) → ((other : Rid) → copies other s ≤ 1) → server < length s.rows → has rid (row_at s server) ≡ true
    → is_known q (closed rid server s) ≡ cond (same_rid q rid) false (is_known q s)
known-closed q rid server s once inside here =
    rw (known-copies q (closed rid server s), known-copies q s)
    (one-less (same_rid q rid) (copies q s) (copies q (closed rid server s)) (count_by (is_for q) (row_at s server)) (count_by (is_for q) (without rid (row_at s server)))
    (copies-closed q rid server s inside)
    (λ e. once q)
    (λ e. count-without_same q rid (row_at s server) e)
    (λ e. sym (has-count q (row_at s server)) ∙ (ap (λ r. has r (row_at s server)) (same_rid-true q rid e) ∙ here))
    (λ e. count-without_other q rid (row_at s server) e))

-- a look-up where there is an item
row-read : (rows : List (List RoutedRequest)) (server : ℕ) (row : List RoutedRequest) → server < length rows → row ≡ slice_index_or rows server row
    → row ≡ slice_index_or rows server []
row-read rows server row inside read = read ∙ get_or_default rows server row [] inside

-- the index of an empty router
pub index-new : (names : List Rid) (rows : List (List RoutedRequest)) (queue : List RoutedRequest) (servers : ℕ)
    → names ≡ [] → rows ≡ replicate servers [] → queue ≡ [] → IsIndex names rows queue
index-new names rows queue servers e f g = λ q. rw (e, f, g) (sym (none-known q servers))

-- a name more in the index
pub index-queued : (names names' : List Rid) (rows : List (List RoutedRequest)) (queue queue' : List RoutedRequest) (request : RoutedRequest)
    → ((q : Rid) → list_any (same_rid q) names' ≡ cond (same_rid request.rid q) true (list_any (same_rid q) names))
    → IsIndex names rows queue → queue' ≡ queue ++ request ∷ [] → IsIndex names' rows queue'
index-queued names names' rows queue queue' request updates index e = λ q.
    let s : Standing = record { rows = rows; queue = queue } in
    rw (e, updates q, index q, same_rid-sym request.rid q) (sym (known-queued q request s))

pub index-put : (names names' : List Rid) (rows : List (List RoutedRequest)) (queue row row' : List RoutedRequest) (server : ℕ) (request : RoutedRequest)
    → ((q : Rid) → list_any (same_rid q) names' ≡ cond (same_rid request.rid q) true (list_any (same_rid q) names))
    → IsIndex names rows queue → server < length rows → row ≡ slice_index_or rows server row → row' ≡ row ++ request ∷ []
    → IsIndex names' (slice_set rows server row') queue
index-put names names' rows queue row row' server request updates index inside read e = λ q.
    let s : Standing = record { rows = rows; queue = queue } in
    let is : row' ≡ row_at s server ++ request ∷ [] = e ∙ ap (λ r. r ++ request ∷ []) (row-read rows server row inside read) in
    rw (is, updates q, index q, same_rid-sym request.rid q) (sym (known-put q request server s inside))

-- a name less
pub index-closed : (names names' : List Rid) (rows : List (List RoutedRequest)) (queue row row' : List RoutedRequest) (server : ℕ) (rid : Rid)
    → ((q : Rid) → list_any (same_rid q) names' ≡ cond (same_rid rid q) false (list_any (same_rid q) names))
    → IsIndex names rows queue → server < length rows → row ≡ slice_index_or rows server row → row' ≡ without rid row
    → ((other : Rid) → copies other (record { rows = rows; queue = queue }) ≤ 1)
    → has rid (slice_index_or rows server []) ≡ true
    → IsIndex names' (slice_set rows server row') queue
index-closed names names' rows queue row row' server rid updates index inside read e once here = λ q.
    let s : Standing = record { rows = rows; queue = queue } in
    let is : row' ≡ without rid (row_at s server) = e ∙ ap (without rid) (row-read rows server row inside read) in
    rw (is, updates q, index q, same_rid-sym rid q) (sym (known-closed q rid server s once inside here))

-- the same names
pub index-gone : (names : List Rid) (rows : List (List RoutedRequest)) (queue rest row row' : List RoutedRequest) (server : ℕ) (request : RoutedRequest)
    → IsIndex names rows queue → queue ≡ request ∷ rest → server < length rows → row ≡ slice_index_or rows server row → row' ≡ row ++ request ∷ []
    → IsIndex names (slice_set rows server row') rest
index-gone names rows queue rest row row' server request index came inside read e = λ q.
    let s : Standing = record { rows = rows; queue = request ∷ rest } in
    let is : row' ≡ row_at s server ++ request ∷ [] = e ∙ ap (λ r. r ++ request ∷ []) (row-read rows server row inside read) in
    let known : is_known q (record { rows = rows; queue = queue }) ≡ is_known q s = ap (λ (l : List RoutedRequest). is_known q (record { rows = rows; queue = l })) came in
    rw (is, index q, known) (sym (known-gone q server s inside))

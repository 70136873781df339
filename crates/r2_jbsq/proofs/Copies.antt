-- How often a request of a name is open or waits.
use Rattle.std.proofs.Common.{◌≡◌, ◌<◌, ◌+◌, ℕ, Bool, true, false, cond, List, [], ◌∷◌, ◌++◌, length, refl, sym, ◌∙◌, zero-add, arith}
use Rattle.std.specs.Prelude.{◌||◌, not, nat_lt, count_by, sum_by}
use Rattle.std.specs.List.{list_any}
use Rattle.std.proofs.lemmas.Grind.{common_steps}
use Rattle.std.proofs.lemmas.List.Sums.{sum_by-cons, sum_by_push, sum_by-set}
use Rattle.r2_base.specs.declared.rid.Rid.{Rid}
use Rattle.r2_jbsq.specs.declared.routed_request.RoutedRequest.{RoutedRequest}
use Rattle.r2_base.specs.Names.{same_rid}
use Rattle.r2_jbsq.specs.Standing.{Standing, closed, first_gone, has, is_for, is_known, put, queued, row_at, without}
use Rattle.r2_jbsq.specs.State.{copies}
use Rattle.r2_base.proofs.SameNames.{same_rid-true}

-- a sum is above 0 where one of its terms is
above : (a b : ℕ) → nat_lt 0 (a + b) ≡ (nat_lt 0 a || nat_lt 0 b)
above a b = grind (arith, common_steps)

any-sum : {X : Type 0} (g : X → Bool) (f : X → ℕ) → ((x : X) → g x ≡ nat_lt 0 (f x)) → (xs : List X) → list_any g xs ≡ nat_lt 0 (sum_by f xs)
any-sum g f same [] = refl
any-sum g f same (x ∷ xs) = rw (sum_by-cons f x xs, above (f x) (sum_by f xs), same x, any-sum g f same xs) refl

one : (b : Bool) → b ≡ nat_lt 0 (cond b 1 0)
one true = refl
one false = refl

-- a request is among these exactly where it is at least once
pub has-count : (rid : Rid) (requests : List RoutedRequest) → has rid requests ≡ nat_lt 0 (count_by (is_for rid) requests)
has-count rid requests = any-sum (is_for rid) (λ request. cond (is_for rid request) 1 0) (λ request. one (is_for rid request)) requests

-- a request is known exactly where there is a copy
pub known-copies : (rid : Rid) (s : Standing) → is_known rid s ≡ nat_lt 0 (copies rid s)
known-copies rid s =
    rw (above (sum_by (count_by (is_for rid)) s.rows) (count_by (is_for rid) s.queue), any-sum (has rid) (count_by (is_for rid)) (has-count rid) s.rows, has-count rid s.queue) refl

-- one more request
pub copies-queued : (q : Rid) (request : RoutedRequest) (s : Standing) → copies q (queued request s) ≡ copies q s + cond (is_for q request) 1 0
copies-queued q request s =
    omega (arith, sum_by_push (λ (r : RoutedRequest). cond (is_for q r) 1 0) s.queue request)

pub copies-put : (q : Rid) (request : RoutedRequest) (server : ℕ) (s : Standing) → server < length s.rows
    → copies q (put request server s) ≡ copies q s + cond (is_for q request) 1 0
copies-put q request server s inside =
    omega (arith, sum_by-set (count_by (is_for q)) s.rows server (row_at s server ++ request ∷ []) [] inside, sum_by_push (λ (r : RoutedRequest). cond (is_for q r) 1 0) (row_at s server) request)

-- a request less
pub copies-closed : (q rid : Rid) (server : ℕ) (s : Standing) → server < length s.rows
    → copies q (closed rid server s) + count_by (is_for q) (row_at s server) ≡ copies q s + count_by (is_for q) (without rid (row_at s server))
copies-closed q rid server s inside =
    omega (arith, sum_by-set (count_by (is_for q)) s.rows server (without rid (row_at s server)) [] inside)

-- the first of those that wait, if any does, moves from the queue to a row
moved-first : (q : Rid) (rows : List (List RoutedRequest)) (queue : List RoutedRequest) (server : ℕ) → server < length rows
    → copies q (first_gone server (record { rows = rows; queue = queue })) ≡ copies q (record { rows = rows; queue = queue })
moved-first q rows [] server inside = refl
moved-first q rows (request ∷ more) server inside =
    let s : Standing = record { rows = rows; queue = more } in
    omega (arith, copies-put q request server s inside, sum_by-cons (λ (r : RoutedRequest). cond (is_for q r) 1 0) request more)

pub copies-gone : (q : Rid) (server : ℕ) (s : Standing) → server < length s.rows → copies q (first_gone server s) ≡ copies q s
copies-gone q server s inside = moved-first q s.rows s.queue server inside

count-cons : (q : Rid) (request : RoutedRequest) (rest : List RoutedRequest) → count_by (is_for q) (request ∷ rest) ≡ cond (is_for q request) 1 0 + count_by (is_for q) rest
count-cons q request rest = sum_by-cons (λ (r : RoutedRequest). cond (is_for q r) 1 0) request rest

count-other : (q : Rid) (request : RoutedRequest) (rest : List RoutedRequest) → is_for q request ≡ false → count_by (is_for q) (request ∷ rest) ≡ count_by (is_for q) rest
count-other q request rest apart = count-cons q request rest ∙ rw apart (zero-add (count_by (is_for q) rest))

-- what is left without a name
without-cons : (rid : Rid) (request : RoutedRequest) (rest : List RoutedRequest)
    → without rid (request ∷ rest) ≡ cond (is_for rid request) (without rid rest) (request ∷ without rid rest)
unfolding without
without-cons rid request rest = elim (is_for rid request) as (λ b. cond (not b) (request ∷ without rid rest) (without rid rest) ≡ cond b (without rid rest) (request ∷ without rid rest)) [ true ↦ refl | false ↦ refl ]

-- none of that name
none-left : (q rid : Rid) (request : RoutedRequest) (rest : List RoutedRequest) (b : Bool) → is_for rid request ≡ b → same_rid q rid ≡ true
    → count_by (is_for q) (without rid rest) ≡ 0 → count_by (is_for q) (cond b (without rid rest) (request ∷ without rid rest)) ≡ 0
none-left q rid request rest true e same none = none
none-left q rid request rest false e same none =
    let other : is_for q request ≡ false = rw (same_rid-true q rid same) e in
    count-other q request (without rid rest) other ∙ none

pub count-without_same : (q rid : Rid) (requests : List RoutedRequest) → same_rid q rid ≡ true → count_by (is_for q) (without rid requests) ≡ 0
count-without_same q rid [] same = unfold without in refl
count-without_same q rid (request ∷ rest) same =
    rw (without-cons rid request rest) (none-left q rid request rest (is_for rid request) refl same (count-without_same q rid rest same))

-- all of the others
all-left : (q rid : Rid) (request : RoutedRequest) (rest : List RoutedRequest) (b : Bool) → is_for rid request ≡ b → same_rid q rid ≡ false
    → count_by (is_for q) (without rid rest) ≡ count_by (is_for q) rest
    → count_by (is_for q) (cond b (without rid rest) (request ∷ without rid rest)) ≡ count_by (is_for q) (request ∷ rest)
all-left q rid request rest true e apart all =
    let other : is_for q request ≡ false = rw (← same_rid-true rid request.rid e) apart in
    all ∙ sym (count-other q request rest other)
all-left q rid request rest false e apart all =
    rw (count-cons q request (without rid rest), count-cons q request rest, all) refl

pub count-without_other : (q rid : Rid) (requests : List RoutedRequest) → same_rid q rid ≡ false
    → count_by (is_for q) (without rid requests) ≡ count_by (is_for q) requests
count-without_other q rid [] apart = unfold without in refl
count-without_other q rid (request ∷ rest) apart =
    rw (without-cons rid request rest) (all-left q rid request rest (is_for rid request) refl apart (count-without_other q rid rest apart))

-- Where a server was full and is done with a request, the next request goes to that server.
use Rattle.std.proofs.Common.{◌≡◌, ◌≢◌, ◌<◌, ◌+◌, ℕ, true, false, List, [], ◌∷◌, length, get_or, refl, sym, ap, ◌∙◌, arith, get_or-set_same, get_or-set_other}
use Rattle.std.specs.Prelude.{not, nat_le, nat_lt, count_by, slice_index_or, slice_set, Some}
use Rattle.std.specs.List.{All, position_or_len}
use Rattle.std.proofs.lemmas.Bool.{le-leb}
use Rattle.std.proofs.lemmas.Grind.{common_steps}
use Rattle.std.proofs.lemmas.List.Elements.{All-set}
use Rattle.std.proofs.lemmas.List.Filters.{length-filter_both}
use Rattle.std.proofs.lemmas.List.Sums.{length-filter, list_all-from_AllPass, position_or_len_is}
use Rattle.std.proofs.Math.ListN.{length-set}
use Rattle.r2_base.specs.declared.rid.Rid.{Rid}
use Rattle.r2_jbsq.specs.declared.routed_request.RoutedRequest.{RoutedRequest}
use Rattle.r2_jbsq.specs.Standing.{Standing, beside, chosen, closed, first_of, has, is_for, is_freest, next, without}
use Rattle.r2_jbsq.specs.State.{IsFullWhileWaiting, IsOpenAt}
use Rattle.r2_jbsq.proofs.Copies.{has-count}

-- what is left without a name
pub length-without : (rid : Rid) (requests : List RoutedRequest) → length (without rid requests) + count_by (is_for rid) requests ≡ length requests
unfolding without
length-without rid requests =
    omega (arith, length-filter_both (is_for rid) (λ r. not (is_for rid r)) (λ r. refl) requests, length-filter (is_for rid) requests)

pub fewer-without : (rid : Rid) (requests : List RoutedRequest) → has rid requests ≡ true → length (without rid requests) < length requests
fewer-without rid requests here =
    let e : nat_lt 0 (count_by (is_for rid) requests) ≡ true = sym (has-count rid requests) ∙ here in
    grind (arith, common_steps, length-without rid requests, e)

-- each server holds n
abbrev AllHold : ℕ → List (List RoutedRequest) → Type 0
AllHold n rows = All (λ (row : List RoutedRequest). length row ≡ n) rows

full-row : (n : ℕ) (rows : List (List RoutedRequest)) (row : List RoutedRequest) → length row ≡ n → is_freest n rows row ≡ false
full-row n rows row e =
    let f : nat_lt (length row) n ≡ false = grind (arith, common_steps, e) in
    rw f refl

module _ (n : ℕ) (rows : List (List RoutedRequest)) (server : ℕ) (row : List RoutedRequest) (inside : server < length rows) (full : AllHold n rows) (few : length row < n) where
  before : (k : ℕ) → k < server → is_freest n (slice_set rows server row) (get_or (slice_set rows server row) k []) ≡ false
  before k h =
      let ne : k ≢ server = omega arith in
      let lt : k < length rows = omega arith in
      full-row n (slice_set rows server row) (get_or (slice_set rows server row) k [])
      (ap length (get_or-set_other rows server k row [] ne) ∙ full k [] lt)

  none-fewer : All (λ (other : List RoutedRequest). nat_le (length row) (length other) ≡ true) (slice_set rows server row)
  none-fewer =
      All-set (λ (other : List RoutedRequest). nat_le (length row) (length other) ≡ true) rows server row
      (le-leb (length row) (length row) (omega arith))
      (λ k d h. let e : length (get_or rows k d) ≡ n = full k d h in le-leb (length row) (length (get_or rows k d)) (omega arith))

  freest : is_freest n (slice_set rows server row) row ≡ true
  freest =
      let a : nat_lt (length row) n ≡ true = grind (arith, common_steps, few) in
      rw (a, list_all-from_AllPass (λ (other : List RoutedRequest). nat_le (length row) (length other)) (slice_set rows server row) none-fewer) refl

  place : position_or_len (is_freest n (slice_set rows server row)) (slice_set rows server row) ≡ server
  place =
      position_or_len_is (is_freest n (slice_set rows server row)) (slice_set rows server row) server [] (omega (arith, length-set rows server row))
      before
      (λ h. ap (is_freest n (slice_set rows server row)) (get_or-set_same rows server row [] inside) ∙ freest)

  pub chosen-freed : chosen n (slice_set rows server row) ≡ Some server
  unfolding chosen
  chosen-freed =
      let lt : nat_lt server (length (slice_set rows server row)) ≡ true = grind (arith, common_steps, inside, length-set rows server row) in
      rw (place, lt) refl

next-freed : (n : ℕ) (rid : Rid) (server : ℕ) (rows : List (List RoutedRequest)) (queue : List RoutedRequest) → IsFullWhileWaiting n (record { rows = rows; queue = queue })
    → IsOpenAt rid server (record { rows = rows; queue = queue })
    → next n (closed rid server (record { rows = rows; queue = queue })) ≡ beside server (first_of queue)
unfolding next
next-freed n rid server rows [] full open_at = refl
next-freed n rid server rows (request ∷ more) full is =
    let all : AllHold n rows = full (omega arith) in
    let few : length (without rid (slice_index_or rows server [])) < n = omega (arith, fewer-without rid (slice_index_or rows server []) is.is_open, all server [] is.is_server) in
    rw (chosen-freed n rows server (without rid (slice_index_or rows server [])) is.is_server all few) refl

-- the first of those that wait goes to the server that was done with a request
pub next_closed : (n : ℕ) (rid : Rid) (server : ℕ) (s : Standing) → IsFullWhileWaiting n s → IsOpenAt rid server s
    → next n (closed rid server s) ≡ beside server (first_of s.queue)
next_closed n rid server s full is = next-freed n rid server s.rows s.queue full is

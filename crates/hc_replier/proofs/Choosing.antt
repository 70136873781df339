-- The member that is chosen, and that all stand at their bounds where there is none.
use Rattle.std.proofs.Common.{◌≡◌, ◌<◌, ◌≤◌, ◌⊎◌, inl, inr, ℕ, suc, zero, Bool, true, false, List, [], ◌∷◌, length, get_or, take, refl, sym, ap, ◌∙◌, arith, length-take}
use Rattle.std.specs.Prelude.{◌&&◌, ◌||◌, not, nat_le, nat_lt, Option, Some, None, slice_index_or}
use Rattle.std.specs.List.{All, list_all, position_or_len}
use Rattle.std.proofs.lemmas.Bool.{and_parts, cases_Bool, false≢true, le-leb, leb-true, ltb-false, ltb-true, lt-ltb}
use Rattle.std.proofs.lemmas.Grind.{common_steps}
use Rattle.std.proofs.lemmas.List.{get_or_default, get_or-take}
use Rattle.std.proofs.lemmas.List.Quantifiers.{position-Some}
use Rattle.std.proofs.lemmas.List.Sums.{fails_before_first, AllPass-from_list_all, list_all-from_AllPass}
use Rattle.hc_replier.specs.Queues.{Row, empty_row, row_at, HasPlace, has_place, is_freest, choose, IsRow, AreQueues, IsChosen, AreFull}

-- one of these that has a place has at least so many
abbrev HasAsMany : ℕ → Row → Type 0
HasAsMany count other = HasPlace other → count ≤ length other.given

abbrev has_as_many : ℕ → Row → Bool
has_as_many count other = not (has_place other) || nat_le count (length other.given)

either : (a b : Bool) → (not a || b) ≡ true → a ≡ true → b ≡ true
either true b e h = e
either false b e h = cc

joined : (a b : Bool) → (a ≡ true → b ≡ true) → (not a || b) ≡ true
joined true b h = h refl
joined false b h = refl

as-many : (count : ℕ) (other : Row) → has_as_many count other ≡ true → HasAsMany count other
as-many count other e place =
    leb-true count (length other.given)
    (either (has_place other) (nat_le count (length other.given)) e (lt-ltb (length other.given) other.bound place))

has-as-many : (count : ℕ) (other : Row) → HasAsMany count other → has_as_many count other ≡ true
has-as-many count other h =
    joined (has_place other) (nat_le count (length other.given))
    (λ e. le-leb count (length other.given) (h (ltb-true (length other.given) other.bound e)))

-- a member that has a place, and the fewest
record IsFreest (queues : List Row) (row : Row) : Type 0 where
  place : HasPlace row
  fewest : All (HasAsMany (length row.given)) queues

freest-parts : (queues : List Row) (row : Row) → is_freest queues row ≡ true → IsFreest queues row
freest-parts queues row e =
    let both = and_parts (has_place row) (list_all (has_as_many (length row.given)) queues) e in
    let pass = AllPass-from_list_all (has_as_many (length row.given)) queues both.1 in
    record {
      place = ltb-true (length row.given) row.bound both.0;
      fewest = λ k d inside. as-many (length row.given) (slice_index_or queues k d) (pass k d inside);
    }

both : (a b : Bool) → a ≡ true → b ≡ true → (a && b) ≡ true
both true b e f = f
both false b e f = cc

is-freest : (queues : List Row) (row : Row) → IsFreest queues row → is_freest queues row ≡ true
is-freest queues row is =
    both (has_place row) (list_all (has_as_many (length row.given)) queues) (lt-ltb (length row.given) row.bound is.place)
    (list_all-from_AllPass (has_as_many (length row.given)) queues
    (λ k d inside. has-as-many (length row.given) (slice_index_or queues k d) (is.fewest k d inside)))

le-or-lt : (a b : ℕ) → (a ≤ b) ⊎ (b < a)
le-or-lt a b = by-test (nat_lt b a) refl
  where
    by-test : (t : Bool) → nat_lt b a ≡ t → (a ≤ b) ⊎ (b < a)
    by-test true e = inr (ltb-true b a e)
    by-test false e = inl (ltb-false b a e)

-- a row that stands before the chosen one, and has a place, has more: else it would be the one that is found
earlier : (queues : List Row) (row other : Row) → IsFreest queues row → HasPlace other → is_freest queues other ≡ false → length row.given < length other.given
earlier queues row other freest place not_freest =
    elim (le-or-lt (length other.given) (length row.given)) [
      | inr lt ↦ lt
      | inl le ↦
          let is : IsFreest queues other =
          record { place = place; fewest = λ k d inside has. (let count = freest.fewest k d inside has in omega (arith, count, le)) } in
          absurd (false≢true (sym not_freest ∙ is-freest queues other is))
    ]

-- the chosen member is one as the contract says
pub is_chosen : (queues : List Row) (member : ℕ) → choose queues ≡ Some member → IsChosen queues member
unfolding choose
is_chosen queues member e =
    let found = position-Some (is_freest queues) queues member (empty_row 0) e in
    let freest = freest-parts queues (row_at queues member) found.1 in
    record {
      is_member = found.0;
      below = freest.place;
      fewest = freest.fewest;
      first = λ k d inside place.
          let count = length-take member queues in
          let before : k < member = omega (arith, count, inside) in
          let all : k < length queues = omega (arith, before, found.0) in
          let same : get_or (take member queues) k d ≡ get_or queues k (empty_row 0) =
          get_or-take member queues k d before ∙ get_or_default queues k d (empty_row 0) all in
          earlier queues (row_at queues member) (get_or (take member queues) k d) freest place (ap (is_freest queues) same ∙ found.2 k before);
    }

-- of some rows that have a place, one has the fewest; or none has a place
record Fewest (queues : List Row) : Type 0 where
  at : ℕ
  inside : at < length queues
  place : HasPlace (row_at queues at)
  least : All (HasAsMany (length (row_at queues at).given)) queues

abbrev NoPlace : List Row → Type 0
NoPlace queues = All (λ row. row.bound ≤ length row.given) queues

All-cons : (P : Row → Type 0) (row : Row) (queues : List Row) → P row → All P queues → All P (row ∷ queues)
All-cons P row queues here later zero d inside = here
All-cons P row queues here later (suc k) d inside = later k d (omega arith)

at-first : (row : Row) (queues : List Row) → HasPlace row → All (HasAsMany (length row.given)) queues → Fewest (row ∷ queues)
at-first row queues place least =
    record { at = 0; inside = omega arith; place = place; least = All-cons (HasAsMany (length row.given)) row queues (λ has. omega arith) least }

at-later : (row : Row) (queues : List Row) (f : Fewest queues) → HasAsMany (length (row_at queues f.at).given) row → Fewest (row ∷ queues)
at-later row queues f here =
    record {
      at = suc f.at;
      inside = omega (arith, f.inside);
      place = f.place;
      least = All-cons (HasAsMany (length (row_at queues f.at).given)) row queues here f.least;
    }

fewest-more : (row : Row) (queues : List Row) → HasPlace row → Fewest queues → Fewest (row ∷ queues)
fewest-more row queues place f =
    elim (le-or-lt (length row.given) (length (row_at queues f.at).given)) as (λ _. Fewest (row ∷ queues)) [
      | inl le ↦ at-first row queues place (λ k d inside has. let count = f.least k d inside has in omega (arith, count, le))
      | inr lt ↦ at-later row queues f (λ has. omega (arith, lt))
    ]

fewest : (queues : List Row) → Fewest queues ⊎ NoPlace queues
fewest [] = inr (λ k d inside. absurd (omega (arith, inside)))
fewest (row ∷ queues) =
    elim (le-or-lt row.bound (length row.given)) as (λ _. Fewest (row ∷ queues) ⊎ NoPlace (row ∷ queues)) [
      | inl full ↦ elim (fewest queues) as (λ _. Fewest (row ∷ queues) ⊎ NoPlace (row ∷ queues)) [
        | inl f ↦ inl (at-later row queues f (λ has. absurd (omega (arith, has, full))))
        | inr none ↦ inr (All-cons (λ r. r.bound ≤ length r.given) row queues full none)
      ]
      | inr place ↦ elim (fewest queues) as (λ _. Fewest (row ∷ queues) ⊎ NoPlace (row ∷ queues)) [
        | inl f ↦ inl (fewest-more row queues place f)
        | inr none ↦ inl (at-first row queues place (λ k d inside has. (let full = none k d inside in absurd (omega (arith, has, full)))))
      ]
    ]

-- none is found where none passes
none-passes : (queues : List Row) (b : Bool) → nat_lt (position_or_len (is_freest queues) queues) (length queues) ≡ b
    → choose queues ≡ None → (k : ℕ) → k < length queues → is_freest queues (row_at queues k) ≡ false
unfolding choose
none-passes queues true e none k inside = cc
none-passes queues false e none k inside =
    fails_before_first (is_freest queues) queues k (empty_row 0) (grind (arith, common_steps, e, inside))

-- where none is chosen, each member stands at its bound
pub full-none : (queues : List Row) → AreQueues queues → choose queues ≡ None → AreFull queues
full-none queues are none =
    elim (fewest queues) [
      | inl f ↦
          let is : IsFreest queues (row_at queues f.at) = record { place = f.place; fewest = f.least } in
          absurd (false≢true (sym (none-passes queues (nat_lt (position_or_len (is_freest queues) queues) (length queues)) refl none f.at f.inside) ∙ is-freest queues (row_at queues f.at) is))
      | inr full ↦ λ k d inside. (let most = (are.each k d inside).within in let least = full k d inside in omega (arith, most, least))
    ]

-- where one is chosen, that one stands below its bound
pub full-some : (queues : List Row) (member : ℕ) → choose queues ≡ Some member → AreFull queues → ⊥
full-some queues member some full =
    let is = is_chosen queues member some in
    let at = full member (empty_row 0) is.is_member in
    omega (arith, is.below, at)

-- a member's number fits its type
pub member-fits : (queues : List Row) (member : ℕ) → AreQueues queues → choose queues ≡ Some member → member < 256
member-fits queues member are some = let is = is_chosen queues member some in omega (arith, is.is_member, are.few)

-- What holds of each queue stays so.
use Rattle.std.proofs.Common.{◌≡◌, ◌<◌, ◌≤◌, ℕ, Bool, true, false, List, [], ◌∷◌, ◌++◌, length, get_or, sym, ◌∙◌, arith, inl, inr}
use Rattle.std.specs.Prelude.{nat_lt, map, filter, slice_set, slice_index_or, All, AllPairs}
use Rattle.std.proofs.lemmas.Bool.{cases_Bool}
use Rattle.std.proofs.lemmas.List.{length-map, length-set}
use Rattle.std.proofs.lemmas.List.Elements.{All-map, All-set}
use Rattle.std.proofs.lemmas.List.Kept.{AllPairs-filter}
use Rattle.hc_replier.specs.Bounds.{most_bound, AreBounds}
use Rattle.hc_replier.specs.Queues.{Row, empty_row, new_queues, with_reported, IsRow, AreQueues}

-- no list gets longer by a filter
filter-shorter : {X : Type 0} (p : X → Bool) (xs : List X) → length (filter p xs) ≤ length xs
filter-shorter p [] = omega arith
filter-shorter p (x ∷ xs) =
    elim (cases_Bool (p x)) [
      | inl t ↦ (let rest = filter-shorter p xs in rw t (omega (arith, rest)))
      | inr f ↦ (let rest = filter-shorter p xs in rw f (omega (arith, rest)))
    ]

pub empty-row : (bound : ℕ) → bound ≤ most_bound → IsRow (empty_row bound)
empty-row bound fits = record { fits = fits; within = omega arith; rising = λ i j d before inside. absurd (omega (arith, inside)) }

pub reported-row : (row : Row) (applied : ℕ) → IsRow row → IsRow (with_reported row applied)
reported-row row applied is =
    let shorter = filter-shorter (λ index. nat_lt applied index) row.given in
    record {
      fits = is.fits;
      within = omega (arith, shorter, is.within);
      rising = AllPairs-filter (λ a b. a < b) (λ index. nat_lt applied index) row.given is.rising;
    }

-- queues with nothing given
pub new-queues : (bounds : List ℕ) → AreBounds bounds → AreQueues (new_queues bounds)
new-queues bounds are =
    record {
      few = simp length-map are.few;
      each = All-map IsRow empty_row bounds (λ k d inside. empty-row (slice_index_or bounds k d) (are.each k d inside));
    }

-- a report
pub reported-queues : (queues : List Row) (member applied : ℕ) (row : Row) → AreQueues queues → member < length queues
    → row ≡ slice_index_or queues member row → AreQueues (slice_set queues member (with_reported row applied))
reported-queues queues member applied row are inside read =
    record {
      few = omega (arith, are.few, length-set queues member (with_reported row applied));
      each = All-set IsRow queues member (with_reported row applied) (reported-row row applied (rw read (are.each member row inside))) are.each;
    }

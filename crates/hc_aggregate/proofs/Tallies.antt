-- Each step of a count leaves a tally of the group.
use Rattle.std.proofs.Common.{◌≡◌, ◌≤◌, ◌<◌, ℕ, Bool, true, false, max, List, length, Option, Some, None, refl, ◌∙◌, arith}
use Rattle.std.specs.Prelude.{nat_lt}
use Rattle.std.proofs.lemmas.Bool.{ltb-false}
use Rattle.std.proofs.lemmas.List.{length-replicate, length-set}
use Rattle.std.proofs.lemmas.List.Elements.{All-get_or, All-replicate, All-set}
use Rattle.r2_base.specs.declared.addr.Addr.{Addr}
use Rattle.r2_base.specs.Limits.{greatest_number}
use Rattle.hc_aggregate.specs.Group.{IsGroup}
use Rattle.hc_aggregate.specs.Sound.{IsSound, IsTally}
use Rattle.hc_aggregate.specs.Tally.{Tally, begun, in_term, reached_by, with_found, with_reached}
use Rattle.hc_aggregate.specs.Turn.{begin}

pub tally_begun : (size term leader term_start : ℕ) → term ≤ greatest_number → (1 ≤ term → 1 ≤ term_start) → IsTally size (begun size term leader term_start)
tally_begun size term leader term_start few start = record {
  each = length-replicate size 0;
  term = few;
  start = start;
  reached = All-replicate (λ index. index ≤ greatest_number) size 0 (omega arith);
}

pub sound_begin : (me : Addr) (members : List Addr) → IsGroup me members → IsSound (begin me members)
sound_begin me members group =
    record { group = group; tally = tally_begun (length members) 0 0 0 (omega arith) (λ some. absurd (omega (arith, some))) }

-- a count of a term from its beginning, in the place of another one
pub tally_again : (size : ℕ) (t : Tally) (term leader term_start : ℕ) → IsTally size t → term ≤ greatest_number → (1 ≤ term → 1 ≤ term_start)
    → IsTally size (begun (length t.reached) term leader term_start)
tally_again size t term leader term_start is few start = rw is.each (tally_begun size term leader term_start few start)

in_term_by : (size : ℕ) (t : Tally) (term leader term_start : ℕ) (higher : Bool) → nat_lt t.term term ≡ higher → IsTally size t → term ≤ greatest_number → (1 ≤ term → 1 ≤ term_start)
    → IsTally size (in_term t term leader term_start)
in_term_by size t term leader term_start true e is few start = rw e (tally_again size t term leader term_start is few start)
in_term_by size t term leader term_start false e is few start = rw e is

pub tally_in_term : (size : ℕ) (t : Tally) (term leader term_start : ℕ) → IsTally size t → term ≤ greatest_number → (1 ≤ term → 1 ≤ term_start)
    → IsTally size (in_term t term leader term_start)
tally_in_term size t term leader term_start = in_term_by size t term leader term_start (nat_lt t.term term) refl

-- a number of the tally is one that a message may have; past the last member it is 0
reached_within : (size : ℕ) (t : Tally) (member : ℕ) → member < size → IsTally size t → reached_by t member ≤ greatest_number
reached_within size t member within is = All-get_or (λ index. index ≤ greatest_number) t.reached member 0 (omega (arith, within, is.each)) is.reached

pub tally_with_reached : (size : ℕ) (t : Tally) (member index : ℕ) → member < size → index ≤ greatest_number → IsTally size t → IsTally size (with_reached t member index)
tally_with_reached size t member index within few is = record {
  each = length-set t.reached member (max (reached_by t member) index) ∙ is.each;
  term = is.term;
  start = is.start;
  reached = All-set (λ n. n ≤ greatest_number) t.reached member (max (reached_by t member) index)
      (omega (arith, few, reached_within size t member within is)) is.reached;
}

pub tally_with_found : (size : ℕ) (t : Tally) (index : Option ℕ) → IsTally size t → IsTally size (with_found t index)
tally_with_found size t (Some index) is = record { each = is.each; term = is.term; start = is.start; reached = is.reached }
tally_with_found size t None is = is

-- the term that is counted then is a leader's
pub entered : (t : Tally) (term leader term_start : ℕ) (higher : Bool) → nat_lt t.term term ≡ higher → 1 ≤ term → 1 ≤ (in_term t term leader term_start).term
entered t term leader term_start true e least = rw e least
entered t term leader term_start false e least = rw e (omega (arith, least, ltb-false t.term term e))

-- an Order's numbers are such as a tally may have
pub tally_of_order : (size : ℕ) (t : Tally) (term leader term_start last : ℕ) → leader < size → term ≤ greatest_number → 1 ≤ term_start → last ≤ greatest_number → IsTally size t
    → IsTally size (with_reached (in_term t term leader term_start) leader last)
tally_of_order size t term leader term_start last within few start room is =
    tally_with_reached size (in_term t term leader term_start) leader last within room (tally_in_term size t term leader term_start is few (λ some. start))

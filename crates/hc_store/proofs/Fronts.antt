-- A scan gives the longest prefix of the pairs that its limits allow.
use Rattle.std.proofs.Common.{◌≡◌, ℕ, zero, suc, ◌+◌, ◌-◌, ◌<◌, ◌≤◌, Bool, true, false, List, [], ◌∷◌, ◌++◌, length, take, refl, ap, ◌∙◌, arith, length-append, if◌then◌else◌}
use Rattle.std.specs.Prelude.{nat_le}
use Rattle.std.specs.List.{flat_map}
use Rattle.std.proofs.lemmas.Bool.{leb-true, leb-false}
use Rattle.hc_store.specs.Service.{most_scanned, pair_bytes, pairs_from, fitting, scanned}
use Rattle.hc_store.specs.Laws.{ScanIsLongestFront}
use Rattle.hc_store.proofs.Scans.{take-nil}

-- the pairs before the first that would exceed the room, among as many as the limit
record IsFront (room limit : ℕ) (pairs given left : List (List ℕ × List ℕ)) : Type 0 where
  joined : pairs ≡ given ++ left
  is : fitting room (take limit pairs) ≡ given
  count : length given ≤ limit
  size : length (flat_map pair_bytes given) ≤ room
  most : (next : List ℕ × List ℕ) (more : List (List ℕ × List ℕ)) → left ≡ next ∷ more → length given < limit
      → room < length (flat_map pair_bytes given) + length (pair_bytes next)

front : (room limit : ℕ) (pairs : List (List ℕ × List ℕ)) → (given : List (List ℕ × List ℕ)) × (left : List (List ℕ × List ℕ)) × IsFront room limit pairs given left
unfolding fitting
front room limit [] = (
  [],
  [],
  record {
    joined = refl;
    is = ap (fitting room) (take-nil limit);
    count = omega arith;
    size = omega arith;
    most = λ next more e h. cc;
  },
)
front room zero (pair ∷ pairs) = (
  [],
  pair ∷ pairs,
  record {
    joined = refl;
    is = refl;
    count = omega arith;
    size = omega arith;
    most = λ next more e h. absurd (omega arith);
  },
)
front room (suc limit) (pair ∷ pairs) = by (nat_le (length (pair_bytes pair)) room) refl (front (room - length (pair_bytes pair)) limit pairs)
  where
    by : (b : Bool) → nat_le (length (pair_bytes pair)) room ≡ b
        → (given : List (List ℕ × List ℕ)) × (left : List (List ℕ × List ℕ)) × IsFront (room - length (pair_bytes pair)) limit pairs given left
        → (given : List (List ℕ × List ℕ)) × (left : List (List ℕ × List ℕ)) × IsFront room (suc limit) (pair ∷ pairs) given left
    by true e (given, left, f) =
        let size : length (pair_bytes pair ++ flat_map pair_bytes given) ≡ length (pair_bytes pair) + length (flat_map pair_bytes given) = length-append (pair_bytes pair) (flat_map pair_bytes given) in
        let room_for = leb-true (length (pair_bytes pair)) room e in (
          pair ∷ given,
          left,
          record {
            joined = ap (λ ps. pair ∷ ps) f.joined;
            is = ap (λ b. if b then pair ∷ fitting (room - length (pair_bytes pair)) (take limit pairs) else []) e ∙ ap (λ ps. pair ∷ ps) f.is;
            count = omega (arith, f.count);
            size = omega (arith, size, f.size, room_for);
            most = λ next more rest h. (let later = f.most next more rest (omega arith) in omega (arith, size, later, room_for));
          },
        )
    by false e rest = (
      [],
      pair ∷ pairs,
      record {
        joined = refl;
        is = ap (λ b. if b then pair ∷ fitting (room - length (pair_bytes pair)) (take limit pairs) else []) e;
        count = omega arith;
        size = omega arith;
        most = λ next more same h. (let first : pair ≡ next = cc in let long = leb-false (length (pair_bytes pair)) room e in omega (arith, long, ap (λ p. length (pair_bytes p)) first));
      },
    )

pub a_scan_is_the_longest_front : ScanIsLongestFront
unfolding scanned
a_scan_is_the_longest_front contents key limit =
    let f = front most_scanned limit (pairs_from contents key) in (
      f.0,
      f.1,
      record {
        pairs = f.2.joined;
        bytes = ap (flat_map pair_bytes) f.2.is;
        count = f.2.count;
        size = f.2.size;
        most = f.2.most;
      },
    )

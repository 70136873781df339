-- Contents with one pair: what is found there, how many bytes they have, and what a scan gives.
use Rattle.std.proofs.Common.{◌≡◌, ℕ, ◌+◌, Bool, true, false, cond, List, [], ◌∷◌, length, take, refl, sym, ap, ◌∙◌, arith, append-nil, if◌then◌else◌}
use Rattle.std.specs.Prelude.{Some, None, nat_le, sum_by}
use Rattle.std.specs.List.{filter, flat_map}
use Rattle.std.specs.Ordering.{eq_by_cmp, is_le}
use Rattle.std.specs.Cmp.Lexicographic.{nat_list_cmp_total}
use Rattle.std.specs.FinMap as map
use Rattle.std.specs.FinMap.Entries.{put}
use Rattle.std.proofs.lemmas.Bool.{le-leb, lt-leb}
use Rattle.std.proofs.lemmas.List.Sums.{sum_by-cons}
use Rattle.hc_store.specs.Service.{Contents, answered, written, pair_size, pair_bytes, pairs_from, fitting, scanned, size_of, most_bytes, most_scanned}
use Rattle.hc_store.specs.Laws.{LimitsAreReached}
use Rattle.hc_store.proofs.Maps.{R, entries-from_entries}
use Rattle.hc_store.proofs.Scans.{length-pair_bytes}

-- contents with one pair
abbrev pub one : List ℕ → List ℕ → Contents
one key value = map.insert map.empty key value

pub entries-one : (key value : List ℕ) → map.entries (one key value) ≡ (key, value) ∷ []
entries-one key value = entries-from_entries ((key, value) ∷ []) tt

pub get-one : (key value q : List ℕ) → map.get (one key value) q ≡ cond (eq_by_cmp R q key) (Some value) None
get-one key value q =
    map.get-insert nat_list_cmp_total map.empty key value q ∙ ap (cond (eq_by_cmp R q key) (Some value)) (map.get-empty R q)

-- the value at a key that has one
pub insert-one : (key old new : List ℕ) → put R key new ((key, old) ∷ []) ≡ (key, new) ∷ [] → map.insert (one key old) key new ≡ one key new
insert-one key old new same =
    map.same_entries_map _ _ (map.entries-insert nat_list_cmp_total (one key old) key new ∙ ap (put R key new) (entries-one key old) ∙ same ∙ sym (entries-one key new))

pub size-one : (key value : List ℕ) → size_of (one key value) ≡ length key + length value
unfolding size_of
size-one key value = ap (sum_by pair_size) (entries-one key value) ∙ (let sum : sum_by pair_size ((key, value) ∷ []) ≡ length key + length value = omega (arith, sum_by-cons pair_size (key, value) []) in sum)

from-nothing : (key : List ℕ) → is_le (R [] key) ≡ true
from-nothing [] = refl
from-nothing (b ∷ key) = refl

-- a scan of everything gives the pair, where it fits
pub scanned-one : (key value : List ℕ) (b : Bool) → nat_le (length (pair_bytes (key, value))) most_scanned ≡ b
    → scanned (one key value) [] 1 ≡ (if b then pair_bytes (key, value) else [])
unfolding scanned pairs_from fitting
scanned-one key value b fits =
    ap (λ es. flat_map pair_bytes (fitting most_scanned (take 1 (filter (λ pair. is_le (R [] pair.0)) es)))) (entries-one key value)
    ∙ ap (λ t. flat_map pair_bytes (fitting most_scanned (take 1 (cond t ((key, value) ∷ []) [])))) (from-nothing key)
    ∙ ap (λ t. flat_map pair_bytes (if t then (key, value) ∷ [] else [])) fits
    ∙ by b
  where
    by : (t : Bool) → flat_map pair_bytes (if t then (key, value) ∷ [] else []) ≡ (if t then pair_bytes (key, value) else [])
    by true = append-nil (pair_bytes (key, value))
    by false = refl

written-one : (key value : List ℕ) (b : Bool) → nat_le (length key + length value) most_bytes ≡ b
    → written map.empty (one key value) ≡ (if b then answered (one key value) 0 [] else answered map.empty 5 [])
written-one key value b fits =
    ap (λ n. if nat_le n most_bytes then answered (one key value) 0 [] else answered map.empty 5 []) (size-one key value)
    ∙ ap (λ t. if t then answered (one key value) 0 [] else answered map.empty 5 []) fits

pub limits_are_reached : LimitsAreReached
limits_are_reached key value =
    let size = length-pair_bytes key value in (
      record {
        last = λ is. written-one key value true (le-leb _ _ (omega (arith, is)));
        over = λ is. written-one key value false (lt-leb _ _ (omega (arith, is)));
      },
      record {
        last = λ is. scanned-one key value true (le-leb _ _ (omega (arith, size, is)));
        over = λ is. scanned-one key value false (lt-leb _ _ (omega (arith, size, is)));
      },
    )

-- What holds of the ordered map in which the service keeps its pairs.
use Rattle.std.specs.Prelude.{◌≡◌, ℕ, ◌+◌, List, length, Option, Some, None}
use Rattle.std.specs.Ordering.{nat_cmp}
use Rattle.std.specs.Cmp.Lexicographic.{slice_cmp}
use Rattle.std.specs.BTreeMap.{BTreeMap, IsOrdered}
use Rattle.std.specs.FinMap as map
use Rattle.hc_store.specs.Service.{size_of}

-- the keys are in the order of bytes, and so many bytes are in all keys and values
pub record IsMeasured (pairs : BTreeMap (List ℕ) (List ℕ)) (bytes : ℕ) : Type 0 where
  pub ordered : IsOrdered (slice_cmp nat_cmp) pairs
  pub size : bytes ≡ size_of (map.from_entries pairs.entries)

-- the bytes of a key and of the value that a look-up found there
abbrev pub found_size : List ℕ → Option (List ℕ) → ℕ
found_size key (Some value) = length key + length value
found_size key None = 0

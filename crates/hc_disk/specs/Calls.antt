-- What a call did to a disk, where the disk reports its moments. One that doesn't never begins to.
use Rattle.std.specs.Prelude.{◌≡◌, ◌⊎◌, ℕ, ◌+◌, ◌<◌, ◌≤◌, List, length, take, drop, Option, Some, None, Result, Ok, Err, ⊤}
use Rattle.r2_base.specs.declared.fault.Failed.{Failed}
use Rattle.hc_disk.specs.Disk.{Wrote, Cut, Held, Moments, later, with_file, with_change}

-- a statement on two states of a disk that reports its moments in both; it reports them in both or in none
abbrev pub Both : Option Moments → Option Moments → (Moments → Moments → Type 0) → Type 0
Both None None Q = ⊤
Both None (Some u) Q = ⊥
Both (Some t) None Q = ⊥
Both (Some t) (Some u) Q = Q t u

-- a call made one moment, and a failed one made none
abbrev pub Made : Moments → Moments → Result (Unit {0}) Failed → (Held → Held) → Type 0
Made t u (Ok done) f = u ≡ later t (f t.now)
Made t u (Err fault) f = u ≡ t

abbrev pub Makes : Option Moments → Option Moments → Result (Unit {0}) Failed → (Held → Held) → Type 0
Makes old new result f = Both old new (λ t u. Made t u result f)

-- a write that failed made no moment, or one in which at most so many bytes of any kind came into its places
pub record WroteInPart (t u : Moments) (at : ℕ) (piece : List ℕ) : Type 0 where
  pub bytes : List ℕ
  pub within : length bytes ≤ length piece
  pub is : u ≡ later t (with_file (with_change (Wrote at (length piece) bytes)) t.now)

abbrev pub Written : Moments → Moments → Result (Unit {0}) Failed → ℕ → List ℕ → Type 0
Written t u (Ok done) at piece = u ≡ later t (with_file (with_change (Wrote at (length piece) piece)) t.now)
Written t u (Err fault) at piece = (u ≡ t) ⊎ WroteInPart t u at piece

abbrev pub Writes : Option Moments → Option Moments → Result (Unit {0}) Failed → ℕ → List ℕ → Type 0
Writes old new result at piece = Both old new (λ t u. Written t u result at piece)

-- a cut that failed made no moment, or one in which more was kept
pub record CutInPart (t u : Moments) (len : ℕ) : Type 0 where
  pub kept : ℕ
  pub least : len ≤ kept
  pub is : u ≡ later t (with_file (with_change (Cut len kept)) t.now)

abbrev pub CutTo : Moments → Moments → Result (Unit {0}) Failed → ℕ → Type 0
CutTo t u (Ok done) len = u ≡ later t (with_file (with_change (Cut len len)) t.now)
CutTo t u (Err fault) len = (u ≡ t) ⊎ CutInPart t u len

abbrev pub Cuts : Option Moments → Option Moments → Result (Unit {0}) Failed → ℕ → Type 0
Cuts old new result len = Both old new (λ t u. CutTo t u result len)

-- the first n places of `into` have what the file has from an offset on, and that isn't nothing where there is something
pub record Reads (file : List ℕ) (at n : ℕ) (into : List ℕ) : Type 0 where
  pub bytes : take n into ≡ take n (drop at file)
  pub inside : (at + n ≤ length file) ⊎ (n ≡ 0)
  pub some : 0 < length into → at < length file → 0 < n

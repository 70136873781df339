-- What calls did to a disk, one after another, and what a crash at each moment of them may leave.
use Rattle.std.specs.Prelude.{◌≡◌, ◌≢◌, List, ◌++◌, All, ℕ, Option}
use Rattle.hc_disk.specs.Disk.{Held, Moments, MayLeave, all_moments, selected_file}
use Rattle.hc_disk.specs.Calls.{Both}

-- each moment since a stated one has P
pub record WasOnly (old new : Moments) (P : Held → Type 0) : Type 0 where
  pub more : List Held
  pub since : all_moments new ≡ all_moments old ++ more
  pub each : All P more

-- each moment since then is as P says of the first one
abbrev pub SinceThen : Option Moments → Option Moments → (Moments → Held → Type 0) → Type 0
SinceThen old new P = Both old new (λ t u. WasOnly t u (P t))

-- a crash leaves of the selected file only what has P; the file that was selected still is, and the others are as they were
pub record LeavesOnly (P : List ℕ → Type 0) (start held : Held) : Type 0 where
  pub selected : held.selected ≡ start.selected
  pub others : (name : List ℕ) → name ≢ start.selected → held.files name ≡ start.files name
  pub left : (left : List ℕ) → MayLeave (selected_file held) left → P left

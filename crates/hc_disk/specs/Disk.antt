-- A disk as contracts see it: its files, how they were changed, and what a crash may leave of them.
use Rattle.std.specs.Prelude.{◌≡◌, ℕ, ◌+◌, ◌≤◌, max, List, [], ◌∷◌, ◌++◌, length, take, drop, bytes_eq, if◌then◌else◌}

-- a change of a file: from an offset on these bytes are found now, and a crash before the next sync may leave any bytes in
-- so many places from there on; or the file ends now after so many bytes, and such a crash may leave it cut to any length
-- from another one on, which comes first
pub data Change : Type 0 where
  Wrote : (at reach : ℕ) (bytes : List ℕ) → Change
  Cut : (reach len : ℕ) → Change

-- a file after a change
abbrev pub changed : List ℕ → Change → List ℕ
changed file (Wrote at reach bytes) = take at file ++ (bytes ++ drop (at + length bytes) file)
changed file (Cut reach len) = take len file

-- a write of so many bytes was made, or in part, or any bytes came into its places: a part after the old end may be missing
pub record IsTorn (at reach : ℕ) (old new : List ℕ) : Type 0 where
  pub before : take at new ≡ take at old
  pub after : drop (at + reach) new ≡ drop (at + reach) old
  pub no_shorter : length old ≤ length new
  pub no_longer : length new ≤ max (length old) (at + reach)

-- a file was cut to a length that is no less than this one, or stayed whole
pub record IsPrefix (len : ℕ) (old new : List ℕ) : Type 0 where
  pub kept : ℕ
  pub least : len ≤ kept
  pub same : new ≡ take kept old

-- what a crash may make of a change
abbrev pub MayBecome : Change → List ℕ → List ℕ → Type 0
MayBecome (Wrote at reach bytes) old new = IsTorn at reach old new
MayBecome (Cut reach len) old new = IsPrefix reach old new

-- a file: what the last sync made stable, and the changes since, the first one first
pub record File : Type 0 where
  pub stable : List ℕ
  pub since : List Change

-- a file after changes, one after another
abbrev pub all_changed : List ℕ → List Change → List ℕ
all_changed file [] = file
all_changed file (x ∷ xs) = all_changed (changed file x) xs

-- what a read gives
abbrev pub content : File → List ℕ
content f = all_changed f.stable f.since

-- each of the changes was made, or in part, or not at all
abbrev pub MayBecomeAll : List ℕ → List Change → List ℕ → Type 0
MayBecomeAll file [] left = left ≡ file
MayBecomeAll file (x ∷ xs) left = (between : List ℕ) × (MayBecome x file between × MayBecomeAll between xs left)

-- what a crash may leave of a file
abbrev pub MayLeave : File → List ℕ → Type 0
MayLeave f left = MayBecomeAll f.stable f.since left

-- one more change
abbrev pub with_change : Change → File → File
with_change x f = record { stable = f.stable; since = f.since ++ x ∷ [] }

-- a sync: what a read gives is stable
abbrev pub synced : File → File
synced f = record { stable = content f; since = [] }

-- a disk at one moment: the name of the selected file, and the file of each name, which is an empty one where none was made
pub record Held : Type 0 where
  pub selected : List ℕ
  pub files : List ℕ → File

abbrev pub selected_file : Held → File
selected_file held = held.files held.selected

-- another file is selected
abbrev pub with_selected : List ℕ → Held → Held
with_selected name held = record { selected = name; files = held.files }

-- a file of this name is another one now
abbrev pub with_named : List ℕ → (File → File) → (List ℕ → File) → List ℕ → File
with_named name f files other = if bytes_eq other name then f (files other) else files other

-- the selected file is another one now
abbrev pub with_file : (File → File) → Held → Held
with_file f held = record { selected = held.selected; files = with_named held.selected f held.files }

-- what a disk held at each moment so far, and what it holds now
pub record Moments : Type 0 where
  pub past : List Held
  pub now : Held

-- one moment more
abbrev pub later : Moments → Held → Moments
later t held = record { past = t.past ++ t.now ∷ []; now = held }

-- what a read of the selected file gives now
abbrev pub now_content : Moments → List ℕ
now_content t = content (selected_file t.now)

-- all moments, the first one first
abbrev pub all_moments : Moments → List Held
all_moments t = t.past ++ t.now ∷ []

-- What the four calls that store a piece after a closed gate do to a file.
use Rattle.std.specs.Prelude.{◌≡◌, ◌≢◌, ◌⊎◌, ℕ, List, ◌∷◌, ◌++◌, take}
use Rattle.hc_disk.specs.Disk.{MayLeave, Moments, now_content, selected_file}
use Rattle.hc_file_journal.specs.File.{open_gate}

-- a closed gate is after the first bytes
pub record HasClosedGate (end : ℕ) (file left : List ℕ) : Type 0 where
  pub gate : ℕ
  pub closed : gate ≢ open_gate
  pub rest : List ℕ
  pub same : left ≡ take end file ++ gate ∷ rest

-- any gate is after the first bytes, and then the piece
pub record HasPiece (end : ℕ) (piece file left : List ℕ) : Type 0 where
  pub gate : ℕ
  pub same : left ≡ take end file ++ gate ∷ piece

-- the file before, where what comes after its closed gate is any bytes, or the file after, whatever its gate is
abbrev pub StoresOnly : ℕ → List ℕ → Moments → List ℕ → Type 0
StoresOnly end piece t left = HasClosedGate end (now_content t) left ⊎ HasPiece end piece (now_content t) left

-- the piece is stable after an open gate
pub record HasStored (end : ℕ) (piece : List ℕ) (old new : Moments) : Type 0 where
  pub same : now_content new ≡ take end (now_content old) ++ open_gate ∷ piece
  pub stable : (left : List ℕ) → MayLeave (selected_file new.now) left → left ≡ now_content new

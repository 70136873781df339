-- What a crash leaves of a disk in memory, by a pick of what becomes of the changes since the last sync of each file.
use Rattle.std.specs.Prelude.{◌≡◌, ℕ, Bool, nat_eq, List, [], ◌∷◌, length, replicate, if◌then◌else◌}
use Rattle.hc_disk.specs.declared.stored.StoredFile.{StoredFile}
use Rattle.hc_disk.specs.Disk.{Change, Wrote, Cut, File, MayLeave, Moments, changed}
use Rattle.hc_disk.specs.MemDisk.{Call, Selected, Put, Shortened, Synced, file_of}

-- a change that is made, with this byte at each place that it writes
abbrev pub spoiled : ℕ → Change → List ℕ → List ℕ
spoiled pick (Wrote at reach bytes) file = changed file (Wrote at reach (replicate (length bytes) pick))
spoiled pick (Cut reach len) file = changed file (Cut reach len)

-- for 0 a change is made, for 1 it isn't, and for a greater pick it is spoiled
abbrev pub picked : ℕ → Change → List ℕ → List ℕ
picked pick x file = if nat_eq pick 0 then changed file x else (if nat_eq pick 1 then file else spoiled pick x file)

abbrev pub all_picked : ℕ → List ℕ → List Change → List ℕ
all_picked pick file [] = file
all_picked pick file (x ∷ xs) = all_picked pick (picked pick x file) xs

-- what is left of a file
abbrev pub left_by : ℕ → File → List ℕ
left_by pick f = all_picked pick f.stable f.since

-- of each file of a disk just that is left, and it is stable
abbrev pub AreLeft : ℕ → Moments → List StoredFile → Type 0
AreLeft pick t files = (name : List ℕ) → file_of files name ≡ record { stable = left_by pick (t.now.files name); since = [] }

-- of each file of a disk a crash may leave what the one of its name has
abbrev pub MayBeLeft : Moments → List StoredFile → Type 0
MayBeLeft t files = (name : List ℕ) → MayLeave (t.now.files name) (file_of files name).stable

-- what is left after a call, by what a read gave before it and what was left then, of a file that is the selected one or isn't
abbrev pub left_after : ℕ → Call → Bool → List ℕ → List ℕ → List ℕ
left_after pick (Selected name) b content left = left
left_after pick (Put at piece) b content left = if b then picked pick (Wrote at (length piece) piece) left else left
left_after pick (Shortened len) b content left = if b then picked pick (Cut len len) left else left
left_after pick Synced b content left = if b then content else left

-- what a read gives after a call
abbrev pub content_after : Call → Bool → List ℕ → List ℕ
content_after (Selected name) b file = file
content_after (Put at piece) b file = if b then changed file (Wrote at (length piece) piece) else file
content_after (Shortened len) b file = if b then changed file (Cut len len) else file
content_after Synced b file = file

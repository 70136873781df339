-- Logs: their entries by index, what they count, and which entry may follow a log.
use Rattle.std.specs.Prelude.{◌≡◌, ℕ, ◌+◌, ◌-◌, ◌<◌, ◌≤◌, Bool, true, false, ◌==◌, ◌&&◌, nat_lt, nat_le, if◌then◌else◌, List, [], ◌∷◌, ◌++◌, length, take, map, position, slice_index_or, Option, option_map, sum_by, count_by}
use Rattle.std.specs.List.{list_any}
use Rattle.r2_base.specs.declared.rid.Rid.{Rid}
use Rattle.r2_base.specs.declared.entry.Entry.{Entry}
use Rattle.r2_base.specs.Entry.{blank_entry, is_request}
use Rattle.r2_base.specs.Names.{same_rid}
use Rattle.r2_base.specs.Limits.{greatest_number}
use Rattle.hc_log.specs.declared.stored.Stored.{Stored}
use Rattle.hc_log.specs.Ranges.{IsStored, most_body_bytes, most_requests}

-- the entry that a new leader of a term appends (Raft, section 8 of its extended version)
abbrev pub blank_of : ℕ → Stored
blank_of term = record { entry = blank_entry term; body = [] }

-- the entry at an index, counted from 1, with its body; after the log there is a blank one of term 0
abbrev pub stored_at : List Stored → ℕ → Stored
stored_at log index = slice_index_or log (index - 1) (blank_of 0)

-- the term of the entry at an index, and 0 at index 0
abbrev pub term_at : List Stored → ℕ → ℕ
term_at log index = if index == 0 then 0 else (stored_at log index).entry.term

-- the term of the last entry, and 0 for the empty log
abbrev pub last_term : List Stored → ℕ
last_term log = term_at log (length log)

-- the entries without their bodies
abbrev pub metas_of : List Stored → List Entry
metas_of log = map (λ s. s.entry) log

-- whether an entry is of the request with this id
abbrev pub asks_as : Rid → Stored → Bool
asks_as rid s = is_request s.entry.kind && same_rid rid s.entry.rid

-- whether the request with this id is in a log
unfoldable pub stands_in : Rid → List Stored → Bool
stands_in rid log = list_any (asks_as rid) log

-- the index at which it is found
unfoldable pub place_of : Rid → List Stored → Option ℕ
place_of rid log = option_map (λ before. before + 1) (position (asks_as rid) log)

-- how many requests a log has
unfoldable pub requests_of : List Stored → ℕ
requests_of log = count_by (λ s. is_request s.entry.kind) log

-- how many bytes the bodies of a log have
unfoldable pub body_bytes_of : List Stored → ℕ
body_bytes_of log = sum_by (λ s. length s.body) log

-- whether a log may take a further request with this body
unfoldable pub has_room : List Stored → List ℕ → Bool
has_room log body =
    nat_lt (length log) greatest_number && nat_lt (requests_of log) most_requests && nat_le (body_bytes_of log + length body) most_body_bytes

-- a log isn't longer than a log may be
pub record IsWithinLimits (log : List Stored) : Type 0 where
  pub entries : length log ≤ greatest_number
  pub requests : requests_of log ≤ most_requests
  pub body_bytes : body_bytes_of log ≤ most_body_bytes

-- an entry may be the next one of a log
pub record MayFollow (log : List Stored) (s : Stored) : Type 0 where
  pub stored : IsStored s
  pub term : last_term log ≤ s.entry.term
  pub is_new : is_request s.entry.kind ≡ true → stands_in s.entry.rid log ≡ false
  pub limits : IsWithinLimits (log ++ s ∷ [])

-- each of the entries may follow a log with those before it
abbrev pub FollowEach : List Stored → List Stored → Type 0
FollowEach log entries = (i : ℕ) (d : Stored) → i < length entries → MayFollow (log ++ take i entries) (slice_index_or entries i d)

-- each entry of a log may follow those before it
abbrev pub IsLog : List Stored → Type 0
IsLog log = FollowEach [] log

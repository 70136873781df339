-- The bytes of a record.
use Rattle.std.specs.Prelude.{◌≡◌, ℕ, List, [], ◌∷◌, ◌++◌, length, Option, Some, None}
use Rattle.std.specs.List.{flat_map}
use Rattle.r2_base.specs.Numbers.{u16_bytes, u64_bytes}
use Rattle.hc_message.specs.Entry.{narrow_entry_bytes}
use Rattle.hc_log.specs.declared.record.Record.{Record}
use Rattle.hc_log.specs.declared.stored.Stored.{Stored}
use Rattle.hc_log.specs.Ranges.{IsInRange}

-- the version of the layout with narrow entries
abbrev pub record_version_1 : ℕ
record_version_1 = 1

-- the number in the place of the vote where there is none
abbrev pub no_vote : ℕ
no_vote = 255

-- a vote in one byte
abbrev pub vote_number : Option ℕ → ℕ
vote_number None = no_vote
vote_number (Some member) = member

-- an entry, the length of its body in two bytes, and the body
unfoldable pub stored_bytes : Stored → List ℕ
stored_bytes s = narrow_entry_bytes s.entry ++ u16_bytes (length s.body) ++ s.body

-- what comes before a record's entries: version, term, vote, how many entries before them are kept,
-- and their count
unfoldable pub head_bytes : Record → List ℕ
head_bytes r =
    record_version_1 ∷ u64_bytes r.term ++ vote_number r.vote ∷ u64_bytes r.keep ++ length r.entries ∷ []

-- a record: its head, and each of its entries
unfoldable pub record_bytes : Record → List ℕ
record_bytes r = head_bytes r ++ flat_map stored_bytes r.entries

-- these bytes are the record's, whose fields are in their ranges
pub record SpellsRecord (r : Record) (bytes : List ℕ) : Type 0 where
  pub in_range : IsInRange r
  pub same : bytes ≡ record_bytes r

-- A few requests in their order, and where the two limits of the service are reached.
use Rattle.std.specs.Prelude.{◌≡◌, ℕ, ◌+◌, List, [], ◌∷◌, length, Some, None}
use Rattle.std.specs.FinMap as map
use Rattle.r2_base.specs.declared.entry.Kind.TheVariants.{Blank, Write, Read}
use Rattle.hc_store.specs.Service.{Contents, answered, done, full, most_bytes, most_scanned, pair_bytes, scanned, serve, written}
use Rattle.hc_store.specs.Replies.{Operation, reply_at}

-- the key a, which is the byte 0x61, with one value
abbrev pub with_a : ℕ → Contents
with_a value = map.from_entries ((0x61 ∷ [], value ∷ []) ∷ [])

-- requests that are served one after another, from nothing
pub record RequestsInOrder : Type 0 where
  pub put : serve map.empty Write (0x50 ∷ 0 ∷ 1 ∷ 0x61 ∷ 1 ∷ []) ≡ answered (with_a 1) 0 []
  pub exchanged : serve (with_a 1) Write (0x43 ∷ 0 ∷ 1 ∷ 0x61 ∷ 0 ∷ 1 ∷ 1 ∷ 2 ∷ []) ≡ answered (with_a 2) 0 []
  pub differs : serve (with_a 2) Write (0x43 ∷ 0 ∷ 1 ∷ 0x61 ∷ 0 ∷ 1 ∷ 1 ∷ 2 ∷ []) ≡ answered (with_a 2) 2 (2 ∷ [])
  pub absent : serve (with_a 2) Write (0x44 ∷ 0 ∷ 1 ∷ 0x62 ∷ []) ≡ answered (with_a 2) 1 []
  pub count : serve (with_a 2) Read (0x4E ∷ []) ≡ answered (with_a 2) 0 (0 ∷ 0 ∷ 0 ∷ 0 ∷ 0 ∷ 0 ∷ 0 ∷ 1 ∷ [])
  pub pairs : serve (with_a 2) Read (0x53 ∷ 0 ∷ 0 ∷ 0 ∷ 0x0A ∷ []) ≡ answered (with_a 2) 0 (0 ∷ 1 ∷ 0x61 ∷ 0 ∷ 1 ∷ 2 ∷ [])
  pub malformed : serve (with_a 2) Read (0x47 ∷ 0 ∷ 1 ∷ 0x61 ∷ 0x62 ∷ []) ≡ answered (with_a 2) 3 []
  pub read_only : serve (with_a 2) Read (0x50 ∷ 0 ∷ 1 ∷ 0x61 ∷ 1 ∷ []) ≡ answered (with_a 2) 4 []
  pub found : serve (with_a 2) Read (0x47 ∷ 0 ∷ 1 ∷ 0x61 ∷ []) ≡ answered (with_a 2) 0 (2 ∷ [])
  pub taken_out : serve (with_a 2) Write (0x44 ∷ 0 ∷ 1 ∷ 0x61 ∷ []) ≡ answered map.empty 0 []

-- a blank entry, the key a set to 1, read, and set to 2
abbrev pub four_entries : List Operation
four_entries =
    record { kind = Blank; body = [] } ∷ record { kind = Write; body = 0x50 ∷ 0 ∷ 1 ∷ 0x61 ∷ 1 ∷ [] }
    ∷ record { kind = Read; body = 0x47 ∷ 0 ∷ 1 ∷ 0x61 ∷ [] } ∷ record { kind = Write; body = 0x50 ∷ 0 ∷ 1 ∷ 0x61 ∷ 2 ∷ [] } ∷ []

-- the replies to the entries of a log
pub record RepliesInLog : Type 0 where
  pub blank : reply_at four_entries 1 ≡ None
  pub put : reply_at four_entries 2 ≡ Some (0 ∷ 0 ∷ 0 ∷ 0 ∷ 0 ∷ 0 ∷ 0 ∷ 2 ∷ 0 ∷ [])
  pub found : reply_at four_entries 3 ≡ Some (0 ∷ 0 ∷ 0 ∷ 0 ∷ 0 ∷ 0 ∷ 0 ∷ 3 ∷ 0 ∷ 1 ∷ [])
  pub outside : reply_at four_entries 5 ≡ None

-- one pair, whose key and value have as many bytes together as may be, is set, and one with a byte more isn't
pub record StoreIsFull (key value : List ℕ) : Type 0 where
  pub last : length key + length value ≡ most_bytes → written map.empty (map.insert map.empty key value) ≡ answered (map.insert map.empty key value) done []
  pub over : length key + length value ≡ most_bytes + 1 → written map.empty (map.insert map.empty key value) ≡ answered map.empty full []

-- one pair, which takes with its lengths as many bytes as the value of a reply may have, is in the reply to a scan, and one
-- with a byte more isn't
pub record ScanIsFull (key value : List ℕ) : Type 0 where
  pub last : 4 + length key + length value ≡ most_scanned → scanned (map.insert map.empty key value) [] 1 ≡ pair_bytes (key, value)
  pub over : 4 + length key + length value ≡ most_scanned + 1 → scanned (map.insert map.empty key value) [] 1 ≡ []

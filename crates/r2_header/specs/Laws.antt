-- How the reading and the grammar fit together, for any bytes and any header.
use Rattle.std.specs.Prelude.{◌≡◌, ◌<◌, ◌≤◌, ℕ, List, ◌++◌, All, Option, None, Some, Ok, length, take}
use Rattle.r2_base.specs.declared.addr.Addr.{Addr}
use Rattle.r2_base.specs.Limits.{id_limit}
use Rattle.r2_base.specs.Names.{FitsAddr}
use Rattle.r2_header.specs.declared.header.Header.{Header}
use Rattle.r2_header.specs.Header.{Spells}
use Rattle.r2_header.specs.Reading.{header_at}

-- the client's numbers fit the fields that hold them
abbrev pub FitsClient : Option Addr → Type 0
FitsClient None = Unit {0}
FitsClient (Some a) = FitsAddr a

-- the header's numbers fit the fields that hold them
pub record FitsHeader (h : Header) : Type 0 where
  pub id : h.id < id_limit
  pub client : FitsClient h.client

-- a valid header's bytes, whatever follows them, read as that header and their number
abbrev pub SpellingIsRead : Type 0
SpellingIsRead =
    (h : Header) (bytes rest : List ℕ) → FitsHeader h → Spells h bytes → header_at (bytes ++ rest) ≡ Ok (h, length bytes)

-- there are n bytes, and the first n are those of the valid header
pub record BeginsWith (h : Header) (n : ℕ) (bytes : List ℕ) : Type 0 where
  pub room : n ≤ length bytes
  pub fits : FitsHeader h
  pub spells : Spells h (take n bytes)

-- what reads as a header begins with that header's bytes
abbrev pub WhatIsReadIsSpelled : Type 0
WhatIsReadIsSpelled =
    (h : Header) (n : ℕ) (bytes : List ℕ) → All (λ b. b < 256) bytes → header_at bytes ≡ Ok (h, n) → BeginsWith h n bytes

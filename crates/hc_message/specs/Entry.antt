-- Entries of the log without their bodies: which are valid, and the bytes of each.
use Rattle.std.specs.Prelude.{ℕ, ◌≤◌, Bool, true, false, List, [], ◌∷◌, ◌++◌}
use Rattle.r2_base.specs.declared.rid.Rid.{Rid}
use Rattle.r2_base.specs.declared.entry.Kind.{Kind}
use Rattle.r2_base.specs.declared.entry.Kind.TheVariants.{Blank, Write, Read}
use Rattle.r2_base.specs.declared.entry.Entry.{Entry}
use Rattle.r2_base.specs.Numbers.{u16_bytes, u32_bytes, u64_bytes}
use Rattle.r2_base.specs.Entry.{NamesReplier}
use Rattle.r2_base.specs.Limits.{greatest_member, greatest_number}

-- a term that a leader may have
pub record IsTerm (n : ℕ) : Type 0 where
  pub least : 1 ≤ n
  pub most : n ≤ greatest_number

-- an index of a log, or 0
abbrev pub IsIndex : ℕ → Type 0
IsIndex n = n ≤ greatest_number

-- a number of a member
abbrev pub IsMember : ℕ → Type 0
IsMember n = n ≤ greatest_member

-- an entry whose fields are in their ranges
pub record IsEntry (e : Entry) : Type 0 where
  pub term : IsTerm e.term
  pub replier : NamesReplier e.kind e.rid e.replier

-- no and yes in one byte
abbrev pub flag_number : Bool → ℕ
flag_number false = 0
flag_number true = 1

-- a kind in one byte
abbrev pub kind_number : Kind → ℕ
kind_number Blank = 0
kind_number Write = 1
kind_number Read = 2

-- a request id in eight bytes, the narrow layout: ip, port and number
unfoldable pub narrow_rid_bytes : Rid → List ℕ
narrow_rid_bytes r = u32_bytes r.client.ip ++ u16_bytes r.client.port ++ u16_bytes r.id

-- how many bytes an entry has in the narrow layout
abbrev pub narrow_entry_size : ℕ
narrow_entry_size = 18

-- an entry in the narrow layout: term, kind, request id and replier
unfoldable pub narrow_entry_bytes : Entry → List ℕ
narrow_entry_bytes e = u64_bytes e.term ++ kind_number e.kind ∷ narrow_rid_bytes e.rid ++ e.replier ∷ []

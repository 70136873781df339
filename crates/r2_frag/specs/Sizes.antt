-- How many bytes a message of several parts can come to.
use Rattle.std.specs.Prelude.{ℕ, ◌+◌, ◌*◌, ◌≤◌, List, length, Option, IfSome}
use Rattle.std.specs.List.{All}
use Rattle.r2_frag.specs.declared.added.Added.{Added}
use Rattle.r2_frag.specs.declared.added.Added.TheVariants.{More, Whole, Repeat, Bad, Dropped}
use Rattle.r2_frag.specs.declared.class.Class.{Class}
use Rattle.r2_frag.specs.declared.class.Class.TheVariants.{Request, Reply, Recover}
use Rattle.r2_frag.specs.declared.part_count.PartCount.{PartCount}
use Rattle.r2_frag.specs.declared.part_count.PartCount.TheVariants.{Exactly, AtLeast}
use Rattle.r2_frag.specs.declared.unfinished.Unfinished.{Unfinished}
use Rattle.r2_frag.specs.Parts.{most_parts, piece_size}

-- the greatest count of parts that a header of this class can say
abbrev pub greatest_count : Class → ℕ
greatest_count Request = 60
greatest_count Reply = most_parts
greatest_count Recover = most_parts

-- the most bytes that so many parts can have
abbrev pub most_bytes : Class → ℕ
most_bytes class = greatest_count class * piece_size

-- a count that is known is within that of the class; a least count may be one more, since a part with the greatest number
-- that isn't marked as the last says that another follows
abbrev pub IsCountWithin : Class → PartCount → Type 0
IsCountWithin class (Exactly n) = n ≤ greatest_count class
IsCountWithin class (AtLeast n) = n ≤ greatest_count class + 1

-- a piece that is kept has no more bytes than a piece may have
abbrev pub IsShortPiece : Option (List ℕ) → Type 0
IsShortPiece piece = IfSome piece (λ bytes. length bytes ≤ piece_size)

-- a message has short pieces only, and what is known of its count is within that of its class
pub record IsShort (m : Unfinished) : Type 0 where
  pub pieces : All IsShortPiece m.pieces
  pub count : IsCountWithin m.key.class m.count

-- a body, where the answer is one, has no more bytes than the class allows
abbrev pub IsBodyWithin : Class → Added → Type 0
IsBodyWithin class (Whole body) = length body ≤ most_bytes class
IsBodyWithin class More = Unit {0}
IsBodyWithin class Repeat = Unit {0}
IsBodyWithin class (Bad why) = Unit {0}
IsBodyWithin class (Dropped key) = Unit {0}

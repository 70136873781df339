-- Parts of one body: a single one, those that a message keeps, and what adding one more comes to.
use Rattle.std.specs.Prelude.{◌≡◌, ℕ, ◌+◌, ◌<◌, ◌≤◌, ◌==◌, true, ◌⊎◌, List, length, Some, None}
use Rattle.std.specs.List.{All, Contains}
use Rattle.r2_header.specs.declared.header.Header.{Header}
use Rattle.r2_frag.specs.declared.added.Added.{Added}
use Rattle.r2_frag.specs.declared.added.Added.TheVariants.{More, Whole, Repeat, Bad, Dropped}
use Rattle.r2_frag.specs.declared.key.Key.{Key}
use Rattle.r2_frag.specs.declared.part_count.PartCount.{PartCount}
use Rattle.r2_frag.specs.declared.part_count.PartCount.TheVariants.{Exactly, AtLeast}
use Rattle.r2_frag.specs.declared.unfinished.Unfinished.{Unfinished}
use Rattle.r2_frag.specs.Assembly.{least_count, number_of, piece_at, whole_body}
use Rattle.r2_frag.specs.Parts.{most_parts, part_count, piece}

-- a header and a payload are a part of the body: the first counts its pieces, the last is marked, and the payload is the
-- piece of its number
pub record IsPartOf (body : List ℕ) (h : Header) (payload : List ℕ) : Type 0 where
  pub number : number_of h < part_count body
  pub first : h.first ≡ (number_of h == 0)
  pub counted : h.first ≡ true → h.number ≡ part_count body
  pub last : h.last ≡ (number_of h + 1 == part_count body)
  pub carries : payload ≡ piece body (number_of h)

-- a count is allowed by what is known of it
abbrev pub IsAllowed : PartCount → ℕ → Type 0
IsAllowed (Exactly n) count = n ≡ count
IsAllowed (AtLeast n) count = n ≤ count

-- a message keeps parts of the body only
pub record HasPartsOf (body : List ℕ) (m : Unfinished) : Type 0 where
  pub pieces : (n : ℕ) (p : List ℕ) → piece_at n m.pieces ≡ Some p → (n < part_count body) × (p ≡ piece body n)
  pub count : IsAllowed m.count (part_count body)

-- each message kept under this key has parts of the body only
abbrev pub HasOneBody : List ℕ → Key → List Unfinished → Type 0
HasOneBody body key messages = All (λ m. m.key ≡ key → HasPartsOf body m) messages

-- the part is good, and a whole body is this one
abbrev pub GivesBody : List ℕ → Added → Type 0
GivesBody body (Whole b) = b ≡ body
GivesBody body (Bad why) = ⊥
GivesBody body More = Unit {0}
GivesBody body Repeat = Unit {0}
GivesBody body (Dropped key) = Unit {0}

-- what is left was there before, or is under this key and has parts of the body only
pub record KeepsBody (body : List ℕ) (key : Key) (messages : List Unfinished) (r : Added × List Unfinished) : Type 0 where
  pub answer : GivesBody body r.0
  pub left : All (λ m. Contains messages m ⊎ ((m.key ≡ key) × HasPartsOf body m)) r.1

-- a message waits for further parts: it has two at least, a place for each number, and lacks some part
pub record IsUnfinished (m : Unfinished) : Type 0 where
  pub several : 1 < least_count m.count
  pub places : length m.pieces ≡ most_parts
  pub lacks : whole_body m.count m.pieces ≡ None

-- the answer is the whole payload, or the part isn't taken
abbrev pub GivesAtOnce : List ℕ → Added → Type 0
GivesAtOnce payload (Whole b) = b ≡ payload
GivesAtOnce payload (Bad why) = Unit {0}
GivesAtOnce payload More = ⊥
GivesAtOnce payload Repeat = ⊥
GivesAtOnce payload (Dropped key) = ⊥

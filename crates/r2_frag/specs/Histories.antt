-- What was done to an assembly since it was empty, and which parts came under a key since it last began.
use Rattle.std.specs.Prelude.{ℕ, ◌<◌, if◌then◌else◌, List, [], ◌∷◌, map}
use Rattle.std.specs.List.{All, Contains}
use Rattle.r2_header.specs.declared.header.Header.{Header}
use Rattle.r2_frag.specs.declared.added.Added.{Added}
use Rattle.r2_frag.specs.declared.added.Added.TheVariants.{More, Whole, Repeat, Bad, Dropped}
use Rattle.r2_frag.specs.declared.key.Key.{Key}
use Rattle.r2_frag.specs.declared.unfinished.Unfinished.{Unfinished}
use Rattle.r2_frag.specs.Assembly.{added, number_of, without}
use Rattle.r2_frag.specs.Bodies.{IsPartOf}
use Rattle.r2_frag.specs.Keys.{same_key}

-- one thing done to an assembly
pub data Operation : Type 0 where
  Adds : Key → Header → List ℕ → Operation
  Forgets : Key → Operation

-- the messages that are unfinished after these operations, of which the newest comes first
unfoldable pub messages_after : List Operation → List Unfinished
messages_after [] = []
messages_after (Adds key h payload ∷ earlier) = (added (messages_after earlier) key h payload).1
messages_after (Forgets key ∷ earlier) = without key (messages_after earlier)

-- the answer to a part that is added after these operations
abbrev pub answer_after : List Operation → Key → Header → List ℕ → Added
answer_after earlier key h payload = (added (messages_after earlier) key h payload).0

-- a part: its header and its payload
abbrev pub Part : Type 0
Part = Header × List ℕ

-- the parts of a key with one more, where that came under this key
abbrev pub with_new : Key → Key → Part → List Part → List Part
with_new key other part parts = if same_key other key then part ∷ parts else parts

-- the parts of a key: none, where the key that was given up or is whole is this one
abbrev pub unless_given_up : Key → Key → List Part → List Part
unless_given_up key other parts = if same_key other key then [] else parts

-- the parts of a key after a part under another or the same key, by the answer to that: a part that isn't taken, or that is
-- kept already, adds none
abbrev pub parts_by : Added → Key → Key → Part → List Part → List Part
parts_by More key other part parts = with_new key other part parts
parts_by (Whole b) key other part parts = unless_given_up key other parts
parts_by (Dropped oldest) key other part parts = with_new key other part (unless_given_up key oldest parts)
parts_by Repeat key other part parts = parts
parts_by (Bad why) key other part parts = parts

-- the parts that were taken under a key since it last began: finished, forgotten and dropped keys begin anew
unfoldable pub parts_under : Key → List Operation → List Part
parts_under key [] = []
parts_under key (Adds other h payload ∷ earlier) =
    parts_by (answer_after earlier other h payload) key other (h, payload) (parts_under key earlier)
parts_under key (Forgets other ∷ earlier) = unless_given_up key other (parts_under key earlier)

-- the numbers of parts
abbrev pub numbers : List Part → List ℕ
numbers parts = map (λ (part : Part). number_of part.0) parts

-- each of these is a part of the body
abbrev pub ArePartsOf : List ℕ → List Part → Type 0
ArePartsOf body parts = All (λ (part : Part). IsPartOf body part.0 part.1) parts

-- each number below the count is among these
abbrev pub HasEach : ℕ → List ℕ → Type 0
HasEach count numbers = (n : ℕ) → n < count → Contains numbers n

-- What holds of any messages, any parts and any history.
use Rattle.std.specs.Prelude.{◌≡◌, ℕ, ◌+◌, ◌<◌, ◌≤◌, ◌↔◌, List, [], ◌∷◌, ◌++◌, length, map, Some, Ok, drop}
use Rattle.std.specs.List.{All, Contains, concat, range_with_len, slice_get}
use Rattle.r2_base.specs.Limits.{id_limit, most_reply}
use Rattle.r2_header.specs.declared.header.Header.{Header}
use Rattle.r2_header.specs.Header.{IsValid, spelling}
use Rattle.r2_header.specs.Laws.{FitsClient}
use Rattle.r2_header.specs.Reading.{header_at}
use Rattle.r2_frag.specs.declared.added.Added.{Added}
use Rattle.r2_frag.specs.declared.added.Added.TheVariants.{Bad, Dropped, More, Repeat, Whole}
use Rattle.r2_frag.specs.declared.key.Key.{Key}
use Rattle.r2_frag.specs.declared.part_count.PartCount.TheVariants.{Exactly}
use Rattle.r2_frag.specs.declared.part_spec.PartSpec.{PartSpec}
use Rattle.r2_frag.specs.declared.unfinished.Unfinished.{Unfinished}
use Rattle.r2_frag.specs.Assembly.{added, count_said, most_unfinished, number_of, without}
use Rattle.r2_frag.specs.Bodies.{GivesAtOnce, GivesBody, HasOneBody, IsPartOf, IsUnfinished, KeepsBody}
use Rattle.r2_frag.specs.Histories.{ArePartsOf, HasEach, Operation, answer_after, numbers, parts_under}
use Rattle.r2_frag.specs.Keys.{client_of, key_at, sender_of}
use Rattle.r2_frag.specs.Parts.{IsSendable, carried, part_count, part_datagram, part_header, parts_of, piece, piece_size}

-- where a key has parts of one body only and a part of that body is added, a whole body is that one, and each message that
-- is left was there before or has parts of that body only
abbrev pub OneBody : Type 0
OneBody =
    (body : List ℕ) (messages : List Unfinished) (key : Key) (h : Header) (payload : List ℕ)
    → HasOneBody body key messages → IsPartOf body h payload → KeepsBody body key messages (added messages key h payload)

-- a message of one part is whole at once or isn't taken, and no message among the unfinished changes
abbrev pub OnePart : Type 0
OnePart =
    (messages : List Unfinished) (key : Key) (h : Header) (payload : List ℕ)
    → All IsUnfinished messages → count_said h ≡ Exactly 1
    → GivesAtOnce payload (added messages key h payload).0 × ((added messages key h payload).1 ≡ messages)

-- the answers to parts that aren't taken, or are kept already
abbrev pub IsRefusal : Added → Type 0
IsRefusal (Bad why) = Unit {0}
IsRefusal Repeat = Unit {0}
IsRefusal More = ⊥
IsRefusal (Whole body) = ⊥
IsRefusal (Dropped key) = ⊥

-- with such an answer nothing changes
abbrev pub RefusedChangesNothing : Type 0
RefusedChangesNothing =
    (messages : List Unfinished) (key : Key) (h : Header) (payload : List ℕ)
    → IsRefusal (added messages key h payload).0 → (added messages key h payload).1 ≡ messages

-- no more messages than may be are unfinished after any part, where no more were
abbrev pub MostUnfinished : Type 0
MostUnfinished =
    (messages : List Unfinished) (key : Key) (h : Header) (payload : List ℕ)
    → length messages ≤ most_unfinished → length (added messages key h payload).1 ≤ most_unfinished

-- what is unfinished stays so, and what is begun is so
abbrev pub UnfinishedStay : Type 0
UnfinishedStay =
    (messages : List Unfinished) (key : Key) (h : Header) (payload : List ℕ)
    → All IsUnfinished messages → All IsUnfinished (added messages key h payload).1

-- and so where a message is forgotten
abbrev pub ForgettingLeavesUnfinished : Type 0
ForgettingLeavesUnfinished =
    (messages : List Unfinished) (key : Key) → All IsUnfinished messages → All IsUnfinished (without key messages)

-- a part isn't bad; the answer is the body exactly where the part and those that were taken under its key since the key last
-- began are all parts of the body; and it is Repeat exactly where the part was taken since then
pub record Completes (body : List ℕ) (key : Key) (earlier : List Operation) (h : Header) (payload : List ℕ) : Type 0 where
  pub good : GivesBody body (answer_after earlier key h payload)
  pub whole : (answer_after earlier key h payload ≡ Whole body) ↔ HasEach (part_count body) (number_of h ∷ numbers (parts_under key earlier))
  pub repeat : (answer_after earlier key h payload ≡ Repeat) ↔ Contains (numbers (parts_under key earlier)) (number_of h)

-- so it is where the part and those that were taken since then are parts of that body: whatever came under the key before it
-- last began, whatever was refused, and whatever came under other keys
abbrev pub WholeAtTheLastPart : Type 0
WholeAtTheLastPart =
    (body : List ℕ) (key : Key) (earlier : List Operation) (h : Header) (payload : List ℕ)
    → length body ≤ most_reply → ArePartsOf body (parts_under key earlier) → IsPartOf body h payload → Completes body key earlier h payload

-- the pieces of a body, joined in order, are the body; there is one at least; each but the last has `piece_size` bytes, and the
-- last has at most as many, and is empty only for the empty body
pub record IsInPieces (body : List ℕ) : Type 0 where
  pub joined : concat (map (piece body) (range_with_len 0 (part_count body))) ≡ body
  pub some : 1 ≤ part_count body
  pub inner : (n : ℕ) → n + 1 < part_count body → length (piece body n) ≡ piece_size
  pub last : (n : ℕ) → n + 1 ≡ part_count body → length (piece body n) ≤ piece_size
  pub empty : (n : ℕ) → n + 1 ≡ part_count body → piece body n ≡ [] → body ≡ []

abbrev pub EachBodyIsInPieces : Type 0
EachBodyIsInPieces = (body : List ℕ) → IsInPieces body

-- the key is the one that datagrams between these addresses have
pub record IsKeyBetween (spec : PartSpec) : Type 0 where
  pub client : client_of (carried spec) spec.key.class spec.from spec.to ≡ spec.key.rid.client
  pub from : sender_of spec.key.class spec.key.rid.client spec.from ≡ spec.key.from

-- the id, and the client's address where the headers carry it, fit the fields that hold them
pub record FitsHeaders (spec : PartSpec) : Type 0 where
  pub id : spec.key.rid.id < id_limit
  pub client : FitsClient (carried spec)

-- the datagram of a part has its place among those of the body: it goes between the addresses asked for, its bytes
-- are those of a valid header and a piece and read as these, and header and piece are a part of the body
pub record IsPart (spec : PartSpec) (body : List ℕ) (n : ℕ) : Type 0 where
  pub placed : slice_get (parts_of spec body) n ≡ Some (part_datagram spec body n)
  pub between : ((part_datagram spec body n).from ≡ spec.from) × ((part_datagram spec body n).to ≡ spec.to)
  pub bytes : (part_datagram spec body n).bytes ≡ spelling (part_header spec (part_count body) n) ++ piece body n
  pub valid : IsValid (part_header spec (part_count body) n)
  pub read :
      header_at (part_datagram spec body n).bytes ≡ Ok (part_header spec (part_count body) n, length (spelling (part_header spec (part_count body) n)))
  pub payload :
      drop (length (spelling (part_header spec (part_count body) n))) (part_datagram spec body n).bytes ≡ piece body n
  pub part : IsPartOf body (part_header spec (part_count body) n) (piece body n)
  pub number : number_of (part_header spec (part_count body) n) ≡ n

-- each piece of a body is in one datagram, and there are no others
abbrev pub PartsAreOfTheBody : Type 0
PartsAreOfTheBody =
    (spec : PartSpec) (body : List ℕ)
    → IsSendable spec body → FitsHeaders spec → (length (parts_of spec body) ≡ part_count body) × ((n : ℕ) → n < part_count body → IsPart spec body n)

abbrev pub PartsHaveTheKey : Type 0
PartsHaveTheKey =
    (spec : PartSpec) (count n : ℕ) → IsKeyBetween spec → key_at spec.from spec.to (part_header spec count n) ≡ Some spec.key

-- a body of at most `piece_size` bytes is one part, with the body as its payload
abbrev pub ShortBodyIsOnePart : Type 0
ShortBodyIsOnePart =
    (spec : PartSpec) (body : List ℕ) → length body ≤ piece_size
    → parts_of spec body ≡ record { from = spec.from; to = spec.to; bytes = spelling (part_header spec 1 0) ++ body } ∷ []

-- Unfinished messages, the one begun first at the head, and what adding a part to them comes to.
use Rattle.std.specs.Prelude.{ℕ, zero, suc, ◌+◌, ◌==◌, ◌&&◌, max, nat_lt, nat_le, Bool, true, false, not, is_some, if◌then◌else◌, List, [], ◌∷◌, ◌++◌, length, replicate, slice_index_or, slice_set, unwrap_or, Option, Some, None}
use Rattle.std.specs.List.{find}
use Rattle.r2_header.specs.declared.header.Header.{Header}
use Rattle.r2_frag.specs.declared.added.Added.{Added}
use Rattle.r2_frag.specs.declared.added.Added.TheVariants.{More, Whole, Repeat, Bad, Dropped}
use Rattle.r2_frag.specs.declared.added.Why.TheVariants.{Length, Count}
use Rattle.r2_frag.specs.declared.key.Key.{Key}
use Rattle.r2_frag.specs.declared.part_count.PartCount.{PartCount}
use Rattle.r2_frag.specs.declared.part_count.PartCount.TheVariants.{Exactly, AtLeast}
use Rattle.r2_frag.specs.declared.unfinished.Unfinished.{Unfinished}
use Rattle.r2_frag.specs.Keys.{same_key}
use Rattle.r2_frag.specs.Parts.{most_parts, piece_size}

-- how many messages may be unfinished
abbrev pub most_unfinished : ℕ
most_unfinished = 256

-- the number of a part: a first part is 0
abbrev pub number_of : Header → ℕ
number_of h = if h.first then 0 else h.number

-- what a part says of the count: the first exactly, the last its number and one more, another at least one more than that
abbrev pub count_said : Header → PartCount
count_said h =
    if h.first then Exactly h.number
    else (if h.last then Exactly (h.number + 1) else AtLeast (h.number + 2))

-- each part has `piece_size` bytes, the last may have fewer
abbrev pub length_fits : Header → List ℕ → Bool
length_fits h payload = if h.last then nat_le (length payload) piece_size else length payload == piece_size

-- the exact count, or else the least
abbrev pub least_count : PartCount → ℕ
least_count (Exactly n) = n
least_count (AtLeast n) = n

-- whether no count is allowed by both
abbrev pub contradicts : PartCount → PartCount → Bool
contradicts (Exactly a) (Exactly b) = not (a == b)
contradicts (Exactly a) (AtLeast b) = nat_lt a b
contradicts (AtLeast a) (Exactly b) = nat_lt b a
contradicts (AtLeast a) (AtLeast b) = false

-- what two that don't contradict each other say together
abbrev pub both_counts : PartCount → PartCount → PartCount
both_counts (Exactly a) said = Exactly a
both_counts (AtLeast a) (Exactly b) = Exactly b
both_counts (AtLeast a) (AtLeast b) = AtLeast (max a b)

-- the piece with this number, where it is kept
abbrev pub piece_at : ℕ → List (Option (List ℕ)) → Option (List ℕ)
piece_at n pieces = slice_index_or pieces n None

-- whether each piece with a number below n is kept
unfoldable pub has_all : ℕ → List (Option (List ℕ)) → Bool
has_all zero pieces = true
has_all (suc n) pieces = has_all n pieces && is_some (piece_at n pieces)

-- the pieces with a number below n, joined in the order of their numbers
unfoldable pub joined : ℕ → List (Option (List ℕ)) → List ℕ
joined zero pieces = []
joined (suc n) pieces = joined n pieces ++ unwrap_or (piece_at n pieces) []

-- the body, where the count is known exactly and each piece below it is kept
abbrev pub whole_body : PartCount → List (Option (List ℕ)) → Option (List ℕ)
whole_body (Exactly n) pieces = if has_all n pieces then Some (joined n pieces) else None
whole_body (AtLeast n) pieces = None

-- a message of which no part came; it has a place for each part that may be, rather than a map from number to payload,
-- since no header can number more parts
unfoldable pub begun : Key → Unfinished
begun key = record { key = key; count = AtLeast 1; pieces = replicate most_parts None }

-- whether a message has this key
abbrev pub is_of : Key → Unfinished → Bool
is_of key m = same_key m.key key

-- the message with this key, or a new one
unfoldable pub message_under : Key → List Unfinished → Unfinished
message_under key messages = unwrap_or (find (is_of key) messages) (begun key)

-- whether some part with this key is kept
unfoldable pub is_begun : Key → List Unfinished → Bool
is_begun key messages = is_some (find (is_of key) messages)

-- a message with one part more
unfoldable pub with_part : Unfinished → Header → List ℕ → Unfinished
with_part m h payload =
    record m {
      count = both_counts m.count (count_said h);
      pieces = slice_set m.pieces (number_of h) (Some payload);
    }

-- the messages without that of this key
unfoldable pub without : Key → List Unfinished → List Unfinished
without key [] = []
without key (m ∷ rest) = if is_of key m then rest else m ∷ without key rest

-- the messages with this one in the place of that with its key
unfoldable pub put : Unfinished → List Unfinished → List Unfinished
put next [] = []
put next (m ∷ rest) = if is_of next.key m then next ∷ rest else m ∷ put next rest

-- a message after the others: where as many as may be are unfinished, the one begun first leaves
unfoldable pub begin : Unfinished → List Unfinished → Added × List Unfinished
begin next [] = (More, next ∷ [])
begin next (m ∷ rest) =
    if nat_lt (length (m ∷ rest)) most_unfinished then (More, (m ∷ rest) ++ next ∷ []) else (Dropped m.key, rest ++ next ∷ [])

-- a message with one part more goes among the others
unfoldable pub go_on : Unfinished → List Unfinished → Added × List Unfinished
go_on next messages = if is_begun next.key messages then (More, put next messages) else begin next messages

-- a whole body leaves with its message; a message that isn't whole goes on
abbrev pub finish_or : Option (List ℕ) → Key → List Unfinished → Added × List Unfinished → Added × List Unfinished
finish_or (Some body) key messages others = (Whole body, without key messages)
finish_or None key messages others = others

-- a message with one part more is whole, or goes on
unfoldable pub settle : Unfinished → List Unfinished → Added × List Unfinished
settle next messages = finish_or (whole_body next.count next.pieces) next.key messages (go_on next messages)

-- the first of three checks that a part fails, by what its message's parts say of the count and whether it is kept
unfoldable pub refusal : PartCount → Bool → Header → List ℕ → Option Added
refusal count is_kept h payload =
    if not (length_fits h payload) then Some (Bad (Length (number_of h) (length payload)))
    else (if contradicts count (count_said h) then Some (Bad (Count (least_count count) (least_count (count_said h))))
    else (if is_kept then Some Repeat else None))

-- what comes of a part: the messages are left as they were where it is refused
abbrev pub unless_refused : Option Added → List Unfinished → Added × List Unfinished → Added × List Unfinished
unless_refused (Some answer) messages taken = (answer, messages)
unless_refused None messages taken = taken

-- a part is added to its message, which is among these or new
unfoldable pub added_to : Unfinished → List Unfinished → Header → List ℕ → Added × List Unfinished
added_to m messages h payload =
    unless_refused (refusal m.count (is_some (piece_at (number_of h) m.pieces)) h payload) messages (settle (with_part m h payload) messages)

-- a part is added: the answer, and the messages that are left
unfoldable pub added : List Unfinished → Key → Header → List ℕ → Added × List Unfinished
added messages key h payload = added_to (message_under key messages) messages h payload

-- the answer to a part that isn't taken, or is kept already
abbrev pub refused : List Unfinished → Key → Header → List ℕ → Option Added
refused messages key h payload =
    let m = message_under key messages in
    refusal m.count (is_some (piece_at (number_of h) m.pieces)) h payload

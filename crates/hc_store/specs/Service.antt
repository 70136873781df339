-- The one-thread key-value service: what it keeps, and what it answers to each request.
use Rattle.std.specs.Prelude.{ℕ, ◌+◌, ◌-◌, if◌then◌else◌, nat_le, List, [], ◌∷◌, ◌++◌, length, take, sum_by, Option, Some, None}
use Rattle.std.specs.List.{filter, flat_map}
use Rattle.std.specs.Ordering.{nat_cmp, is_le}
use Rattle.std.specs.Cmp.Lexicographic.{slice_cmp}
use Rattle.std.specs.Str.{bytes_eq}
use Rattle.std.specs.FinMap as map
use Rattle.r2_base.specs.declared.entry.Kind.{Kind}
use Rattle.r2_base.specs.declared.entry.Kind.TheVariants.{Read}
use Rattle.r2_base.specs.Numbers.{u16_bytes, u64_bytes}
use Rattle.hc_store.specs.Command.{Command, Get, Put, Del, Cas, Scan, Count, command_of}

-- what the service keeps: values by key, both lists of bytes, the keys in the order of bytes
abbrev pub Contents : Type 0
Contents = map.FinMap (slice_cmp nat_cmp) (List ℕ)

-- how many bytes all keys and values may have together
abbrev pub most_bytes : ℕ
most_bytes = 1073741824

-- how many bytes the value of a reply to a scan may have: with the index and the status before it, a reply has most_reply
abbrev pub most_scanned : ℕ
most_scanned = 65527

-- the status of a request that was carried out
abbrev pub done : ℕ
done = 0

-- of one whose key isn't there
abbrev pub absent : ℕ
absent = 1

-- of an exchange that found another value than the old one
abbrev pub different : ℕ
different = 2

-- of one whose body encodes no command
abbrev pub malformed : ℕ
malformed = 3

-- of a request to read that asks for a change
abbrev pub read_only : ℕ
read_only = 4

-- of one after which keys and values would have too many bytes together
abbrev pub full : ℕ
full = 5

-- the bytes of a key and its value
abbrev pub pair_size : List ℕ × List ℕ → ℕ
pair_size (key, value) = length key + length value

-- the bytes of all keys and values
unfoldable pub size_of : Contents → ℕ
size_of contents = sum_by pair_size (map.entries contents)

-- what a request leaves, and its answer: a status and a value
pub record Served : Type 0 where
  pub contents : Contents
  pub status : ℕ
  pub value : List ℕ

-- an answer that changes nothing
abbrev pub answered : Contents → ℕ → List ℕ → Served
answered contents status value = record { contents = contents; status = status; value = value }

-- a change is made, unless the keys and values would have too many bytes
abbrev pub written : Contents → Contents → Served
written contents changed = if nat_le (size_of changed) most_bytes then answered changed done [] else answered contents full []

-- the value that was looked for, or that there is none
abbrev pub looked_up : Contents → Option (List ℕ) → Served
looked_up contents (Some value) = answered contents done value
looked_up contents None = answered contents absent []

-- a key that has a value is taken out
abbrev pub taken_out : Contents → List ℕ → Option (List ℕ) → Served
taken_out contents key (Some value) = answered (map.remove contents key) done []
taken_out contents key None = answered contents absent []

-- the new value is set where the present one is the old one
abbrev pub exchanged : Contents → List ℕ → List ℕ → List ℕ → Option (List ℕ) → Served
exchanged contents key old new (Some present) =
    if bytes_eq present old then written contents (map.insert contents key new) else answered contents different present
exchanged contents key old new None = answered contents absent []

-- a pair in a reply: the key and the value, each with its length in two bytes before it
unfoldable pub pair_bytes : List ℕ × List ℕ → List ℕ
pair_bytes (key, value) = u16_bytes (length key) ++ key ++ u16_bytes (length value) ++ value

-- the pairs whose key isn't below the given one, in the order of their keys
unfoldable pub pairs_from : Contents → List ℕ → List (List ℕ × List ℕ)
pairs_from contents key = filter (λ pair. is_le (slice_cmp nat_cmp key pair.0)) (map.entries contents)

-- the pairs before the first that would exceed so many bytes
unfoldable pub fitting : ℕ → List (List ℕ × List ℕ) → List (List ℕ × List ℕ)
fitting room [] = []
fitting room (pair ∷ more) =
    if nat_le (length (pair_bytes pair)) room then pair ∷ fitting (room - length (pair_bytes pair)) more else []

-- the bytes of the pairs from a key on, as many as the limit and the size of a reply allow
unfoldable pub scanned : Contents → List ℕ → ℕ → List ℕ
scanned contents key limit = flat_map pair_bytes (fitting most_scanned (take limit (pairs_from contents key)))

-- a change was asked for under this kind: a request to read gets a refusal, any other what the change gives
abbrev pub changing : Contents → Kind → Served → Served
changing contents Read changed = answered contents read_only []
changing contents _ changed = changed

-- a command under the kind of its request
abbrev pub executed : Contents → Kind → Option Command → Served
executed contents kind None = answered contents malformed []
executed contents kind (Some (Get key)) = looked_up contents (map.get contents key)
executed contents kind (Some (Put key value)) = changing contents kind (written contents (map.insert contents key value))
executed contents kind (Some (Del key)) = changing contents kind (taken_out contents key (map.get contents key))
executed contents kind (Some (Cas key old new)) = changing contents kind (exchanged contents key old new (map.get contents key))
executed contents kind (Some (Scan key limit)) = answered contents done (scanned contents key limit)
executed contents kind (Some Count) = answered contents done (u64_bytes (map.len contents))

-- one request is served
unfoldable pub serve : Contents → Kind → List ℕ → Served
serve contents kind body = executed contents kind (command_of body)

-- The bytes that encode a command.
use Rattle.std.specs.Prelude.{ℕ, ◌<◌, List, [], ◌∷◌, ◌++◌, length}
use Rattle.r2_base.specs.Numbers.{u16_bytes}
use Rattle.hc_store.specs.Command.{Command, Get, Put, Del, Cas, Scan, Count, get_tag, put_tag, del_tag, cas_tag, scan_tag, count_tag, field_limit}

-- a field, with its length in two bytes before it
abbrev pub sized : List ℕ → List ℕ
sized field = u16_bytes (length field) ++ field

-- a letter, then fields with their lengths; a value to be set has none, and goes to the end of the body
unfoldable pub spelling : Command → List ℕ
spelling (Get key) = get_tag ∷ sized key
spelling (Put key value) = put_tag ∷ sized key ++ value
spelling (Del key) = del_tag ∷ sized key
spelling (Cas key old new) = cas_tag ∷ sized key ++ (sized old ++ new)
spelling (Scan key limit) = scan_tag ∷ sized key ++ u16_bytes limit
spelling Count = count_tag ∷ []

-- a command whose fields and limit fit the two bytes that they have
abbrev pub FitsCommand : Command → Type 0
FitsCommand (Get key) = length key < field_limit
FitsCommand (Put key value) = length key < field_limit
FitsCommand (Del key) = length key < field_limit
FitsCommand (Cas key old new) = (length key < field_limit) × (length old < field_limit)
FitsCommand (Scan key limit) = (length key < field_limit) × (limit < field_limit)
FitsCommand Count = Unit {0}

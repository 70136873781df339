-- The commands of the key-value service, and the bodies that encode them.
use Rattle.std.specs.Prelude.{ℕ, ◌+◌, ◌*◌, ◌^◌, ◌==◌, if◌then◌else◌, nat_le, List, [], ◌∷◌, length, take, drop, Option, Some, None, option_and_then}

-- what a request asks for
pub data Command : Type 0 where
  -- the value at a key
  Get : List ℕ → Command
  -- a key shall have a value
  Put : List ℕ → List ℕ → Command
  -- a key shall have no value
  Del : List ℕ → Command
  -- a key that has the old value shall have the new one: key, old, new
  Cas : List ℕ → List ℕ → List ℕ → Command
  -- the pairs from a key on, and how many at most
  Scan : List ℕ → ℕ → Command
  -- how many pairs there are
  Count : Command

-- the first byte of a body says what it asks for: it is a letter, G, P, D, C, S or N
abbrev pub get_tag : ℕ
get_tag = 0x47

abbrev pub put_tag : ℕ
put_tag = 0x50

abbrev pub del_tag : ℕ
del_tag = 0x44

abbrev pub cas_tag : ℕ
cas_tag = 0x43

abbrev pub scan_tag : ℕ
scan_tag = 0x53

abbrev pub count_tag : ℕ
count_tag = 0x4E

-- what two bytes can hold: the length of a field and the limit of a scan are below it
abbrev pub field_limit : ℕ
field_limit = 2 ^ 16

-- the number that two bytes encode, the greater first
abbrev pub two_bytes : ℕ → ℕ → ℕ
two_bytes high low = 256 * high + low

-- a field with its length in two bytes before it, and the bytes after it
abbrev pub sized_field : List ℕ → Option (List ℕ × List ℕ)
sized_field (high ∷ low ∷ rest) = if nat_le (two_bytes high low) (length rest) then Some (take (two_bytes high low) rest, drop (two_bytes high low) rest) else None
sized_field _ = None

-- a key to the very end
abbrev pub get_command : List ℕ × List ℕ → Option Command
get_command (key, []) = Some (Get key)
get_command (key, _ ∷ _) = None

-- a key, and a value to the end
abbrev pub put_command : List ℕ × List ℕ → Option Command
put_command (key, value) = Some (Put key value)

-- a key to the very end
abbrev pub del_command : List ℕ × List ℕ → Option Command
del_command (key, []) = Some (Del key)
del_command (key, _ ∷ _) = None

-- the old value of a key, and the new one to the end
abbrev pub exchange : List ℕ → List ℕ × List ℕ → Option Command
exchange key (old, new) = Some (Cas key old new)

-- a key, its old value, and the new one to the end
abbrev pub cas_command : List ℕ × List ℕ → Option Command
cas_command (key, rest) = option_and_then (exchange key) (sized_field rest)

-- a key and a limit of two bytes, and no more
abbrev pub scan_command : List ℕ × List ℕ → Option Command
scan_command (key, high ∷ low ∷ []) = Some (Scan key (two_bytes high low))
scan_command (key, _) = None

-- a command that is its first byte alone
abbrev pub count_command : List ℕ → Option Command
count_command [] = Some Count
count_command (_ ∷ _) = None

-- what comes after the first byte, by that byte
abbrev pub tagged_command : ℕ → List ℕ → Option Command
tagged_command tag rest =
    if tag == get_tag then option_and_then get_command (sized_field rest)
    else if tag == put_tag then option_and_then put_command (sized_field rest)
    else if tag == del_tag then option_and_then del_command (sized_field rest)
    else if tag == cas_tag then option_and_then cas_command (sized_field rest)
    else if tag == scan_tag then option_and_then scan_command (sized_field rest)
    else if tag == count_tag then count_command rest
    else None

-- the command that a body encodes
unfoldable pub command_of : List ℕ → Option Command
command_of [] = None
command_of (tag ∷ rest) = tagged_command tag rest

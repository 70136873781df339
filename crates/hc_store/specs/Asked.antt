-- What a command that was read from a body means.
use Rattle.std.specs.Prelude.{ℕ, List, Option, Some, None}
use Rattle.std.specs.Borrow.{Bor}
use Rattle.hc_store.specs.Command as command
use Rattle.hc_store.specs.declared.asked.Asked.{Asked}
use Rattle.hc_store.specs.declared.asked.Asked.TheVariants.{Get, Put, Del, Cas, Scan, Count}

-- the command without its place in memory
abbrev pub meant : Asked → command.Command
meant (Get key) = command.Get key.now
meant (Put key value) = command.Put key.now value.now
meant (Del key) = command.Del key.now
meant (Cas key old new) = command.Cas key.now old.now new.now
meant (Scan key limit) = command.Scan key.now limit
meant Count = command.Count

-- what was read, or that the body encodes no command
abbrev pub read_as : Option Asked → Option command.Command
read_as None = None
read_as (Some asked) = Some (meant asked)

-- two parts of a text, by their bytes
abbrev pub fields : Option (Bor (List ℕ) × Bor (List ℕ)) → Option (List ℕ × List ℕ)
fields None = None
fields (Some (front, back)) = Some (front.now, back.now)

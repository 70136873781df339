-- The requests of the client.
use Rattle.std.specs.Prelude.{ℕ, ◌+◌, ◌%◌, ◌==◌, if◌then◌else◌, List, [], ◌∷◌}
use Rattle.r2_base.specs.declared.entry.Kind.{Kind}
use Rattle.r2_base.specs.declared.entry.Kind.TheVariants.{Read, Write}
use Rattle.r2_base.specs.Numbers.{u32_bytes}
use Rattle.cmd_simulate.specs.declared.questions.Command.{Command}
use Rattle.cmd_simulate.specs.declared.questions.Command.TheVariants.{Put, Get, Count, Delete}

-- the command of what was drawn of four
abbrev pub command_of : ℕ → Command
command_of n = if n == 0 then Put else (if n == 1 then Get else (if n == 2 then Count else Delete))

-- a write, or a read
abbrev pub kind_of : Command → Kind
kind_of Put = Write
kind_of Get = Read
kind_of Count = Read
kind_of Delete = Write

-- the key of the request with a number: one of sixteen letters
abbrev pub key_of : ℕ → ℕ
key_of number = 97 + number % 16

-- the body of the request with a number: P, G, N or D, the length of the key in two bytes and the key, and for P the number as the value
abbrev pub body_of : Command → ℕ → List ℕ
body_of Put number = 80 ∷ 0 ∷ 1 ∷ key_of number ∷ u32_bytes number
body_of Get number = 71 ∷ 0 ∷ 1 ∷ key_of number ∷ []
body_of Count number = 78 ∷ []
body_of Delete number = 68 ∷ 0 ∷ 1 ∷ key_of number ∷ []

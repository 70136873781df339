-- What bytes that wait begin with.
use Rattle.std.specs.Prelude.{◌≡◌, ℕ, ◌+◌, List, ◌∷◌, ◌++◌, take, drop}
use Rattle.cmd_lines.specs.declared.first_line.FirstLine.{FirstLine}
use Rattle.cmd_lines.specs.declared.first_line.FirstLine.TheVariants.{Line, TooLong, Unfinished}
use Rattle.cmd_lines.specs.Texts.{IsText}
use Rattle.cmd_lines.specs.Reader.{HasLongLine}

-- the bytes begin with a line of this length and its end
pub record IsLineLen (longest : ℕ) (bytes : List ℕ) (len : ℕ) : Type 0 where
  pub text : IsText longest (take len bytes)
  pub split : bytes ≡ take len bytes ++ 10 ∷ drop (len + 1) bytes

-- what the bytes begin with
abbrev pub IsFirstLine : ℕ → List ℕ → FirstLine → Type 0
IsFirstLine longest bytes (Line len) = IsLineLen longest bytes len
IsFirstLine longest bytes TooLong = HasLongLine longest bytes
IsFirstLine longest bytes Unfinished = IsText longest bytes

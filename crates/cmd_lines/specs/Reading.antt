-- Calls for the next line, one after another.
use Rattle.std.specs.Prelude.{◌≡◌, ℕ, ◌+◌, ◌≤◌, List, ◌++◌, length, All, Option}
use Rattle.std.specs.Io.KnownBytes.{Consumes}
use Rattle.cmd_lines.specs.Limits.{most_read}
use Rattle.cmd_lines.specs.Texts.{IsText, fed}
use Rattle.cmd_lines.specs.Reader.{ReaderState}

-- between two states of a reader these bytes were taken of the source, and these lines were handed out, each with its end after it
pub record HasGiven (s t : ReaderState) (left left' : Option (List ℕ)) (taken : List ℕ) (texts : List (List ℕ)) : Type 0 where
  pub took : Consumes left left' taken
  pub counted : t.taken ≡ s.taken + length taken
  pub split : s.pending ++ taken ≡ fed texts ++ t.pending
  pub each : All (IsText s.longest) texts
  pub limit : t.longest ≡ s.longest
  pub lines : t.lines ≡ s.lines + length texts

-- no line was read ahead: before the last of the reads that gave these bytes, of at most 4,096 bytes each, every line that was known was run
pub record IsNeeded (longest : ℕ) (taken : List ℕ) (run : List (List ℕ)) : Type 0 where
  pub before : List ℕ
  pub last : List ℕ
  pub split : taken ≡ before ++ last
  pub one_read : length last ≤ most_read
  pub known : List (List ℕ)
  pub later : List (List ℕ)
  pub were_run : run ≡ known ++ later
  pub rest : List ℕ
  pub lines : before ≡ fed known ++ rest
  pub unknown : IsText longest rest

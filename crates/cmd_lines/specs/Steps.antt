-- The steps of a call for the next line.
use Rattle.std.specs.Prelude.{◌≡◌, ◌⊎◌, ℕ, ◌+◌, ◌<◌, ◌≤◌, List, ◌++◌, length, true, false, Option}
use Rattle.std.specs.Io.KnownBytes.{Consumes, IsAtEnd}
use Rattle.r2_link.specs.Faults.{Rose}
use Rattle.cmd_lines.specs.declared.line_fault.LineFault.{LineFault}
use Rattle.cmd_lines.specs.declared.line_fault.LineFault.TheVariants.{Source, Memory, TooLong, Limit}
use Rattle.cmd_lines.specs.Texts.{IsText}
use Rattle.cmd_lines.specs.Limits.{most_read, most_taken}
use Rattle.cmd_lines.specs.Reader.{ReaderState}

-- a reader gave no more lines than it gave away bytes, took no more than may be, and knows no line where the source's end was reached
pub record IsSound (s : ReaderState) : Type 0 where
  pub few : s.lines + length s.pending ≤ s.taken
  pub most : s.taken ≤ most_taken
  pub last : s.ended ≡ true → IsText s.longest s.pending

-- a read appended so many bytes to a buffer, at most this many and 4,096, and none only at the end
pub record AppendsRead (left left' : Option (List ℕ)) (old new : List ℕ) (most count : ℕ) : Type 0 where
  pub piece : List ℕ
  pub took : Consumes left left' piece
  pub appended : new ≡ old ++ piece
  pub size : length piece ≡ count
  pub bound : count ≤ most
  pub one_read : count ≤ most_read
  pub none_left : count ≡ 0 → IsAtEnd left'

-- why a read failed
abbrev pub FailsRead : ℕ → ℕ → LineFault → Type 0
FailsRead old new Source = Rose old new
FailsRead old new Memory = Unit {0}
FailsRead old new TooLong = ⊥
FailsRead old new Limit = ⊥

-- a reader took some bytes more by one read, or found the source's end
pub record TakesMore (s t : ReaderState) (left left' : Option (List ℕ)) : Type 0 where
  pub taken : List ℕ
  pub took : Consumes left left' taken
  pub counted : t.taken ≡ s.taken + length taken
  pub waits : t.pending ≡ s.pending ++ taken
  pub lines : t.lines ≡ s.lines
  pub limit : t.longest ≡ s.longest
  pub most : t.taken ≤ most_taken
  pub one_read : length taken ≤ most_read
  pub goes_on : (t.ended ≡ false) × (0 < length taken) ⊎ (t.ended ≡ true) × IsAtEnd left'

-- why a reader took no more
abbrev pub FailsMore : ReaderState → ℕ → ℕ → LineFault → Type 0
FailsMore s old new Source = Rose old new
FailsMore s old new Memory = Unit {0}
FailsMore s old new TooLong = ⊥
FailsMore s old new Limit = s.taken ≡ most_taken

-- A reader of a source's lines: what it holds, and what a call for the next line does.
use Rattle.std.specs.Prelude.{◌≡◌, ◌≢◌, ◌⊎◌, ℕ, ◌+◌, ◌≤◌, List, [], ◌∷◌, ◌++◌, length, All, Bool, true, false, Option, Some, None, Result, Ok, Err}
use Rattle.std.specs.Io.KnownBytes.{Consumes, IsAtEnd}
use Rattle.cmd_lines.specs.declared.line_fault.LineFault.{LineFault}
use Rattle.cmd_lines.specs.declared.line_fault.LineFault.TheVariants.{Source, Memory, TooLong, Limit}
use Rattle.cmd_lines.specs.Limits.{most_read, most_taken}
use Rattle.cmd_lines.specs.Texts.{IsText}

-- a reader: the bytes that were taken and given in no line yet, how many were taken, how many lines were given, whether the source's end was reached, and how many bytes a line may have, its end not counted
pub record ReaderState : Type 0 where
  pub pending : List ℕ
  pub taken : ℕ
  pub lines : ℕ
  pub ended : Bool
  pub longest : ℕ

-- the bytes begin with a line and its end
pub record HasLine (longest : ℕ) (bytes : List ℕ) : Type 0 where
  pub line : List ℕ
  pub rest : List ℕ
  pub text : IsText longest line
  pub split : bytes ≡ line ++ 10 ∷ rest

-- the bytes begin with a line that is too long: one byte more of it than it may have, and no end among them
pub record HasLongLine (longest : ℕ) (bytes : List ℕ) : Type 0 where
  pub bad : List ℕ
  pub rest : List ℕ
  pub one_line : All (λ b. b ≢ 10) bad
  pub long : length bad ≡ longest + 1
  pub split : bytes ≡ bad ++ rest

-- the first line of the bytes is known, by its end or by its length
abbrev pub HasKnownLine : ℕ → List ℕ → Type 0
HasKnownLine longest bytes = HasLine longest bytes ⊎ HasLongLine longest bytes

-- a line was handed out with its end after it
pub record GivesLine (s t : ReaderState) (taken line : List ℕ) : Type 0 where
  pub text : IsText s.longest line
  pub split : s.pending ++ taken ≡ line ++ 10 ∷ t.pending
  pub lines : t.lines ≡ s.lines + 1
  pub open_end : t.ended ≡ false

-- the last line was handed out, the one that the source's end ends
pub record GivesLast (s t : ReaderState) (taken line : List ℕ) : Type 0 where
  pub text : IsText s.longest line
  pub nonempty : line ≢ []
  pub split : s.pending ++ taken ≡ line
  pub emptied : t.pending ≡ []
  pub lines : t.lines ≡ s.lines + 1
  pub ended : t.ended ≡ true

-- there is no more line
pub record GivesNone (s t : ReaderState) (taken : List ℕ) : Type 0 where
  pub nothing : s.pending ≡ []
  pub nothing_more : taken ≡ []
  pub emptied : t.pending ≡ []
  pub lines : t.lines ≡ s.lines
  pub ended : t.ended ≡ true

-- no line was handed out: what was taken waits after what waited before
pub record Holds (s t : ReaderState) (taken : List ℕ) : Type 0 where
  pub waits : t.pending ≡ s.pending ++ taken
  pub lines : t.lines ≡ s.lines

-- no line was handed out, and none is known yet
pub record HoldsPart (s t : ReaderState) (taken : List ℕ) : Type 0 where
  pub held : Holds s t taken
  pub unfinished : IsText s.longest t.pending
  pub open_end : t.ended ≡ false

-- what was handed out, and what waits then, by the answer of a call that took these bytes
abbrev pub Answers : ReaderState → ReaderState → List ℕ → Result (Option (List ℕ)) LineFault → Type 0
Answers s t taken (Ok (Some line)) = GivesLine s t taken line ⊎ GivesLast s t taken line
Answers s t taken (Ok None) = GivesNone s t taken
Answers s t taken (Err TooLong) = Holds s t taken × HasLongLine s.longest t.pending
Answers s t taken (Err Source) = HoldsPart s t taken
Answers s t taken (Err Limit) = HoldsPart s t taken × (t.taken ≡ most_taken)
Answers s t taken (Err Memory) = Holds s t taken

-- these bytes were needed to know the next line: before the last of the reads that gave them, of at most 4,096 bytes each, none was known
pub record AreNeeded (s : ReaderState) (taken : List ℕ) : Type 0 where
  pub before : List ℕ
  pub last : List ℕ
  pub split : taken ≡ before ++ last
  pub unknown : IsText s.longest (s.pending ++ before)
  pub open_end : s.ended ≡ false
  pub one_read : length last ≤ most_read

-- a call for the next line that answered so: it took some of what the source had left, and nothing where the line was known
pub record ReadsLine (s t : ReaderState) (left left' : Option (List ℕ)) (answer : Result (Option (List ℕ)) LineFault) : Type 0 where
  pub taken : List ℕ
  pub took : Consumes left left' taken
  pub counted : t.taken ≡ s.taken + length taken
  pub limit : t.longest ≡ s.longest
  pub lazy : HasKnownLine s.longest s.pending ⊎ (s.ended ≡ true) → taken ≡ []
  pub needed : (taken ≡ []) ⊎ AreNeeded s taken
  pub did : Answers s t taken answer

-- where a reader says that the source's end was reached, nothing is left of the source
abbrev pub KnowsEnd : ReaderState → Option (List ℕ) → Type 0
KnowsEnd s left = s.ended ≡ true → IsAtEnd left

-- What a reader makes of a source whose bytes are known.
use Rattle.std.specs.Prelude.{◌≡◌, ◌≢◌, ℕ, List, [], ◌∷◌, ◌++◌, Option, Some, None, Result, Ok, Err}
use Rattle.cmd_lines.specs.declared.line_fault.LineFault.{LineFault}
use Rattle.cmd_lines.specs.declared.line_fault.LineFault.TheVariants.{Source, Memory, TooLong, Limit}
use Rattle.cmd_lines.specs.Texts.{IsText}
use Rattle.cmd_lines.specs.Reader.{ReaderState, ReadsLine, KnowsEnd}

-- these bytes are still to come: those that wait, and those that the source has left
pub record AreToCome (s : ReaderState) (left : Option (List ℕ)) (bytes : List ℕ) : Type 0 where
  pub more : List ℕ
  pub told : left ≡ Some more
  pub joined : s.pending ++ more ≡ bytes

-- an answer where this text comes next with its end, and then the rest
abbrev pub GivesNext : ReaderState → Option (List ℕ) → List ℕ → List ℕ → Result (Option (List ℕ)) LineFault → Type 0
GivesNext t left text rest (Ok (Some line)) = (line ≡ text) × AreToCome t left rest
GivesNext t left text rest (Ok None) = ⊥
GivesNext t left text rest (Err TooLong) = ⊥
GivesNext t left text rest (Err Source) = AreToCome t left (text ++ 10 ∷ rest)
GivesNext t left text rest (Err Memory) = AreToCome t left (text ++ 10 ∷ rest)
GivesNext t left text rest (Err Limit) = AreToCome t left (text ++ 10 ∷ rest)

-- an answer where only this text is to come, without an end
abbrev pub GivesRest : ReaderState → Option (List ℕ) → List ℕ → Result (Option (List ℕ)) LineFault → Type 0
GivesRest t left text (Ok (Some line)) = (line ≡ text) × (text ≢ []) × AreToCome t left []
GivesRest t left text (Ok None) = (text ≡ []) × AreToCome t left []
GivesRest t left text (Err TooLong) = ⊥
GivesRest t left text (Err Source) = AreToCome t left text
GivesRest t left text (Err Memory) = AreToCome t left text
GivesRest t left text (Err Limit) = AreToCome t left text

-- the line that comes next is the one that is handed out
abbrev pub NextLineIsGiven : Type 0
NextLineIsGiven = (s t : ReaderState) (left left' : Option (List ℕ)) (answer : Result (Option (List ℕ)) LineFault) (text rest : List ℕ)
    → ReadsLine s t left left' answer → KnowsEnd t left' → AreToCome s left (text ++ 10 ∷ rest) → IsText s.longest text → GivesNext t left' text rest answer

-- what comes after the last end is handed out as a line, if it is not empty, and then there is no more
abbrev pub LastLineIsGiven : Type 0
LastLineIsGiven = (s t : ReaderState) (left left' : Option (List ℕ)) (answer : Result (Option (List ℕ)) LineFault) (text : List ℕ)
    → ReadsLine s t left left' answer → KnowsEnd t left' → AreToCome s left text → IsText s.longest text → GivesRest t left' text answer

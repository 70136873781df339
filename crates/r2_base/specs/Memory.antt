-- What is said of an answer, where memory may run out at any time. A test says which faults mean that.
use Rattle.std.specs.Prelude.{◌≡◌, Bool, Result, Ok, Err, MatchBool}

-- what a statement says of an answer, unless memory ran out
abbrev pub UnlessMemory : {X E : Type 0} → (E → Bool) → Result X E → Type 0 → Type 0
UnlessMemory is_memory (Ok x) says = says
UnlessMemory is_memory (Err fault) says = MatchBool (is_memory fault) (Unit {0}) says

-- an answer, seen by view, is what was read, unless memory ran out
abbrev pub GivesUnlessMemory : {X Y E : Type 0} → (E → Bool) → (X → Y) → Result X E → Result Y E → Type 0
GivesUnlessMemory is_memory view (Ok x) read = read ≡ Ok (view x)
GivesUnlessMemory is_memory view (Err fault) read = MatchBool (is_memory fault) (Unit {0}) (read ≡ Err fault)

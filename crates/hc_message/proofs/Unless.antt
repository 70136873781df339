-- Statements of answers, where memory may run out.
use Rattle.std.proofs.Common.{◌≡◌, Bool, true, false, Result, Ok, Err, sym}
use Rattle.std.specs.Prelude.{MatchBool}
use Rattle.r2_base.specs.Memory.{GivesUnlessMemory, UnlessMemory}

-- what holds holds unless memory ran out
pub unless_given : (wants : Bool) (P : Type 0) → P → MatchBool wants (Unit {0}) P
unless_given true P p = tt
unless_given false P p = p

-- and so does what follows from it
pub unless_then : (wants : Bool) (P Q : Type 0) → (P → Q) → MatchBool wants (Unit {0}) P → MatchBool wants (Unit {0}) Q
unless_then true P Q then p = tt
unless_then false P Q then p = then p

-- an answer is what was read
pub exact : {X E : Type 0} (is_memory : E → Bool) (r read : Result X E) → GivesUnlessMemory is_memory (λ x. x) r read → UnlessMemory is_memory r (r ≡ read)
exact is_memory (Ok x) read e = sym e
exact {X} {E} is_memory (Err fault) read e =
    let failed : Result X E = Err fault in
    unless_then (is_memory fault) (read ≡ failed) (failed ≡ read) (λ same. sym same) e

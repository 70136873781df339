-- What a client does at one line of its script.
use Rattle.std.specs.Prelude.{◌≡◌, ◌≢◌, ◌⊎◌, ℕ, List, [], ◌∷◌}
use Rattle.cmd_status.specs.declared.status.Status.{Status}
use Rattle.cmd_status.specs.declared.status.Status.TheVariants.{BadScript, Memory}
use Rattle.hc_text.specs.declared.policy.Policy.{Policy}
use Rattle.cmd_loop.specs.Ends.{Ends}
use Rattle.cmd_client.specs.Outside.{Talks}
use Rattle.cmd_lines.specs.Script.{Say}
use Rattle.cmd_client.specs.Script.{AsksFor, IsOutside}
use Rattle.cmd_client.specs.Stops.{Completes, StopsCall}
use Rattle.cmd_client.specs.Talk.{Asked, Talk}

-- the call of the line was made to its end, where it asks for one
pub record MakesLine (policy : Policy) (line : List ℕ) (room left : ℕ) (t u : Talk) (old new : Ends) : Type 0 where
  pub asked : List Asked
  pub said : Say (AsksFor policy) (line ∷ []) asked
  pub made : Completes asked room left t u old new

-- no script has such a line
pub record IsRefused (line : List ℕ) (number counted : ℕ) (old new : Ends) : Type 0 where
  pub count : counted ≡ number
  pub nonempty : line ≢ []
  pub outside : IsOutside line
  pub passed : Talks old new [] [] [] []

-- the call of the line wasn't made to its end
pub record StopsAsked (policy : Policy) (line : List ℕ) (room : ℕ) (t : Talk) (old new : Ends) (status : Status) : Type 0 where
  pub nonempty : line ≢ []
  pub call : Asked
  pub asks : AsksFor policy line call
  pub stops : StopsCall call room t old new status

-- why the line's call wasn't made to its end
abbrev pub StopsLine : Policy → List ℕ → ℕ → ℕ → Talk → Ends → Ends → Status → Type 0
StopsLine policy line number room t old new (BadScript counted) = IsRefused line number counted old new
StopsLine policy line number room t old new Memory = Talks old new [] [] [] [] ⊎ StopsAsked policy line room t old new Memory
StopsLine policy line number room t old new status = StopsAsked policy line room t old new status

-- What the replay of a script does at one of its lines.
use Rattle.std.specs.Prelude.{◌≡◌, ◌≢◌, ◌⊎◌, ℕ, List, [], ◌∷◌, Option}
use Rattle.std.specs.Io.KnownBytes.{Appends, Keeps}
use Rattle.r2_link.specs.Streams.{AppendsPrefix}
use Rattle.cmd_script.specs.declared.line.Line.{Line}
use Rattle.cmd_script.specs.Line.{IsLine}
use Rattle.cmd_lines.specs.Script.{IsOutside, Say}
use Rattle.hc_member.specs.declared.setup.Setup.{Setup}
use Rattle.hc_member.specs.Member.{Member}
use Rattle.cmd_status.specs.declared.status.Status.{Status}
use Rattle.cmd_status.specs.declared.status.Status.TheVariants.{BadScript, Done, Memory, SinkFault}
use Rattle.cmd_replay.specs.Script.{after, line_text, turns_text}

-- the text was run: the member after it, and what it printed
pub record Ran (s : Setup) (m n : Member) (text : List ℕ) (old new : Option (List ℕ)) : Type 0 where
  pub lines : List Line
  pub said : Say IsLine (text ∷ []) lines
  pub at : n ≡ after s m lines
  pub gave : Appends old new (turns_text s m lines)

-- the text with this number is no line, and nothing was written
pub record IsRefused (text : List ℕ) (number counted : ℕ) (old new : Option (List ℕ)) : Type 0 where
  pub count : counted ≡ number
  pub nonempty : text ≢ []
  pub refused : IsOutside IsLine text
  pub kept : Keeps old new

-- of what the text prints as a line a prefix was written
pub record CutsText (s : Setup) (m : Member) (text : List ℕ) (old new : Option (List ℕ)) : Type 0 where
  pub nonempty : text ≢ []
  pub line : Line
  pub said : IsLine text line
  pub prefix : AppendsPrefix old new (line_text s m line)

-- why the text with this number wasn't run to its end
abbrev pub StopsText : Setup → Member → List ℕ → ℕ → Option (List ℕ) → Option (List ℕ) → Status → Type 0
StopsText s m text number old new (BadScript counted) = IsRefused text number counted old new
StopsText s m text number old new SinkFault = CutsText s m text old new
StopsText s m text number old new Memory = Keeps old new ⊎ CutsText s m text old new
StopsText s m text number old new _ = ⊥

-- what is printed after the last line was written, or a prefix of it
abbrev pub ClosesScript : Option (List ℕ) → Option (List ℕ) → List ℕ → Status → Type 0
ClosesScript old new text Done = Appends old new text
ClosesScript old new text SinkFault = AppendsPrefix old new text
ClosesScript old new text Memory = AppendsPrefix old new text
ClosesScript old new text _ = ⊥

-- What the replay of a script has taken, what it has written, and why it ended.
use Rattle.std.specs.Prelude.{◌≡◌, ◌⊎◌, ℕ, List, ◌++◌, Option}
use Rattle.std.specs.Io.KnownBytes.{Consumes, Appends}
use Rattle.cmd_script.specs.declared.line.Line.{Line}
use Rattle.cmd_script.specs.Line.{IsLine}
use Rattle.cmd_lines.specs.Limits.{most_line}
use Rattle.cmd_lines.specs.Script.{EndsBetween, IsNext, IsWhole}
use Rattle.hc_member.specs.declared.setup.Setup.{Setup}
use Rattle.hc_member.specs.Member.{beginning}
use Rattle.cmd_status.specs.declared.status.Status.{Status}
use Rattle.cmd_status.specs.declared.status.Status.TheVariants.{Done, Memory, SinkFault, TurnsSpent}
use Rattle.cmd_replay.specs.Script.{after, last_text, line_text, script_text, turns_text}

-- the whole script was run
pub record RunsWhole (s : Setup) (left : Option (List ℕ)) (taken : List ℕ) (old new : Option (List ℕ)) : Type 0 where
  pub lines : List Line
  pub whole : IsWhole most_line IsLine left taken lines
  pub gave : Appends old new (script_text s lines)

-- the run ended between two lines, and those before were run whole
pub record RunsBetween (s : Setup) (left : Option (List ℕ)) (taken : List ℕ) (old new : Option (List ℕ)) (status : Status) : Type 0 where
  pub lines : List Line
  pub ends : EndsBetween most_line IsLine left taken lines status
  pub gave : Appends old new (turns_text s beginning lines)

-- the lines before this one were run whole, and a prefix was written of what it prints
pub record CutsLine (s : Setup) (left : Option (List ℕ)) (taken : List ℕ) (old new : Option (List ℕ)) : Type 0 where
  pub lines : List Line
  pub text : List ℕ
  pub number : ℕ
  pub next : IsNext most_line IsLine left taken lines text number
  pub line : Line
  pub said : IsLine text line
  pub prefix : List ℕ
  pub rest : List ℕ
  pub split : line_text s (after s beginning lines) line ≡ prefix ++ rest
  pub gave : Appends old new (turns_text s beginning lines ++ prefix)

-- all lines were run whole, and a prefix was written of what is printed after the last one
pub record CutsEnd (s : Setup) (left : Option (List ℕ)) (taken : List ℕ) (old new : Option (List ℕ)) : Type 0 where
  pub lines : List Line
  pub whole : IsWhole most_line IsLine left taken lines
  pub prefix : List ℕ
  pub rest : List ℕ
  pub split : last_text s (after s beginning lines) ≡ prefix ++ rest
  pub gave : Appends old new (turns_text s beginning lines ++ prefix)

-- what was taken and what was written, by the status: what the source has left, what was taken, what the sink had and has
abbrev pub Replays : Setup → Option (List ℕ) → List ℕ → Option (List ℕ) → Option (List ℕ) → Status → Type 0
Replays s left taken old new Done = RunsWhole s left taken old new
Replays s left taken old new SinkFault = CutsLine s left taken old new ⊎ CutsEnd s left taken old new
Replays s left taken old new Memory =
    RunsBetween s left taken old new Memory ⊎ (CutsLine s left taken old new ⊎ CutsEnd s left taken old new)
Replays s left taken old new status = RunsBetween s left taken old new status

-- a replay that ended so: it took some of what the source had left, and wrote what that makes it print
pub record IsReplay (s : Setup) (left left' written written' : Option (List ℕ)) (status : Status) : Type 0 where
  pub taken : List ℕ
  pub took : Consumes left left' taken
  pub did : Replays s left' taken written written' status

-- how a replay ends of a script in its grammar, where neither source nor sink failed
abbrev pub IsComplete : Status → Type 0
IsComplete Done = Unit {0}
IsComplete Memory = Unit {0}
IsComplete TurnsSpent = Unit {0}
IsComplete _ = ⊥

-- What holds of every member that a script leads to.
use Rattle.std.specs.Prelude.{◌≡◌, List, [], ◌∷◌, ◌++◌, All, IfSome}
use Rattle.cmd_script.specs.declared.line.Line.{Line}
use Rattle.cmd_script.specs.declared.line.Line.TheVariants.{Restart}
use Rattle.hc_log.specs.Durable.{replay, IsHistory}
use Rattle.hc_member.specs.declared.setup.Setup.{Setup}
use Rattle.hc_member.specs.Laws.{HasBytes}
use Rattle.hc_member.specs.Member.{anew, beginning, durable_of}
use Rattle.hc_member.specs.Setup.{IsSetup}
use Rattle.hc_member.specs.Sound.{IsSound}
use Rattle.cmd_replay.specs.Script.{after, event_of, records_of}

-- what comes in with a line are bytes
abbrev pub HasLineBytes : Setup → Line → Type 0
HasLineBytes s line = IfSome (event_of s line) HasBytes

-- the records of the turns that these lines make, and the member after them
pub record LeadToTheMember (s : Setup) (lines : List Line) : Type 0 where
  -- the member is one of which all laws on members hold
  pub sound : IsSound s (after s beginning lines)
  -- each record may come next after those before it
  pub history : IsHistory (records_of s beginning lines)
  -- one after another, they lead to what the member keeps over a crash
  pub state : replay (records_of s beginning lines) ≡ durable_of (after s beginning lines)
  -- and a restart makes the member anew from where they lead
  pub restart : after s beginning (lines ++ Restart ∷ []) ≡ anew (replay (records_of s beginning lines))

-- whatever lines came, restarts among them, the records of a replica's turns lead to what its member keeps over a crash
abbrev pub RecordsLeadToTheMember : Type 0
RecordsLeadToTheMember = (s : Setup) (lines : List Line) → IsSetup s → All (HasLineBytes s) lines → LeadToTheMember s lines

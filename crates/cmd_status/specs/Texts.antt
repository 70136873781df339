-- A status as an exit code, as a text, and as the line on the errors of a run that failed.
use Rattle.std.specs.Prelude.{ℕ, List, [], ◌∷◌, ◌++◌, codes}
use Rattle.std.specs.Fmt.{decimal}
use Rattle.cmd_status.specs.declared.status.Status.{Status}
use Rattle.cmd_status.specs.declared.status.Status.TheVariants.{Done, BadWords, BadScript, JournalDamaged, Memory, SourceFault, SinkFault, LinkFault, DiskFault, ClockFault, TimedOut, IdsUsed, TurnsSpent}

-- a status as the program's exit code
abbrev pub code_of : Status → ℕ
code_of Done = 0
code_of BadWords = 64
code_of (BadScript line) = 65
code_of (JournalDamaged at) = 66
code_of Memory = 70
code_of SourceFault = 71
code_of SinkFault = 72
code_of LinkFault = 73
code_of DiskFault = 74
code_of ClockFault = 75
code_of TimedOut = 76
code_of IdsUsed = 77
code_of TurnsSpent = 78

-- a cause as a person reads it
abbrev pub cause_text : Status → List ℕ
cause_text Done = []
cause_text BadWords = codes "words not understood"
cause_text (BadScript line) = codes "line " ++ decimal line ++ codes ": not a script line"
cause_text (JournalDamaged at) = codes "journal damaged at " ++ decimal at
cause_text Memory = codes "out of memory"
cause_text SourceFault = codes "the source failed"
cause_text SinkFault = codes "the sink failed"
cause_text LinkFault = codes "the link failed"
cause_text DiskFault = codes "the disk failed"
cause_text ClockFault = codes "the clock failed"
cause_text TimedOut = codes "no answer"
cause_text IdsUsed = codes "request ids used up"
cause_text TurnsSpent = codes "turns spent"

-- what the errors of a run gain: nothing where all went well, else one line
unfoldable pub error_text : Status → List ℕ
error_text Done = []
error_text status = codes "r2p2_suite: " ++ cause_text status ++ 10 ∷ []

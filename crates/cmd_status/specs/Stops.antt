-- What a call that writes lines has done where it stopped.
use Rattle.std.specs.Prelude.{ℕ, List, Option, ◌⊎◌}
use Rattle.std.specs.Io.KnownBytes.{Appends}
use Rattle.r2_link.specs.Faults.{Rose}
use Rattle.r2_link.specs.Streams.{AppendsPrefix}
use Rattle.cmd_status.specs.declared.status.Status.{Status}
use Rattle.cmd_status.specs.declared.status.Status.TheVariants.{Done, BadWords, BadScript, JournalDamaged, Memory, SourceFault, SinkFault, LinkFault, DiskFault, ClockFault, TimedOut, IdsUsed, TurnsSpent}

-- printing stops where the sink failed or memory ran out, and for no other cause
abbrev pub StopsBySink : ℕ → ℕ → Status → Type 0
StopsBySink old new SinkFault = Rose old new
StopsBySink old new Memory = Unit {0}
StopsBySink old new Done = ⊥
StopsBySink old new BadWords = ⊥
StopsBySink old new (BadScript line) = ⊥
StopsBySink old new (JournalDamaged at) = ⊥
StopsBySink old new SourceFault = ⊥
StopsBySink old new LinkFault = ⊥
StopsBySink old new DiskFault = ⊥
StopsBySink old new ClockFault = ⊥
StopsBySink old new TimedOut = ⊥
StopsBySink old new IdsUsed = ⊥
StopsBySink old new TurnsSpent = ⊥

-- the sink failed in this call, where that is the status
abbrev pub HasSinkCause : ℕ → ℕ → Status → Type 0
HasSinkCause old new SinkFault = Rose old new
HasSinkCause old new _ = Unit {0}

-- all of the text was written, or a prefix of it where the count of the sink's faults rose
abbrev pub Reports : Option (List ℕ) → Option (List ℕ) → ℕ → ℕ → List ℕ → Type 0
Reports old new faults_old faults_new text = Appends old new text ⊎ (AppendsPrefix old new text × Rose faults_old faults_new)

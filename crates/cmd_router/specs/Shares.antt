-- A router's run with several workers: what they did together, what was printed, and how it ended.
use Rattle.std.specs.Prelude.{◌≡◌, ◌⊎◌, ℕ, List}
use Rattle.std.specs.Io.KnownBytes.{Appends, Keeps}
use Rattle.r2_link.specs.Streams.{AppendsPrefix}
use Rattle.r2_desk.specs.declared.totals.Totals.{Totals}
use Rattle.cmd_status.specs.declared.status.Status.{Status}
use Rattle.cmd_status.specs.declared.status.Status.TheVariants.{ClockFault, Done, LinkFault, Memory, SinkFault, TurnsSpent}
use Rattle.cmd_loop.specs.declared.pace.Pace.{Pace}
use Rattle.cmd_loop.specs.Ends.{Ends}
use Rattle.cmd_router.specs.Loops.{NoneRan, WorkersRan}
use Rattle.cmd_router.specs.Routes.{IsWholeRun}
use Rattle.cmd_router.specs.Totals.{totals_line}
use Rattle.cmd_router.specs.Works.{SharesRouter}

-- the line of these totals
abbrev pub line_of : Totals → List ℕ
line_of totals = totals_line totals.turns totals.accepted totals.forwarded totals.answered

-- the workers came to their ends, and their totals were printed
pub record SharesAndTells (slots workers : ℕ) (pace : Pace) (old new : Ends) (ended : Status) : Type 0 where
  pub totals : Totals
  pub shares : SharesRouter slots workers pace old new totals ended
  pub printed : Appends old.written new.written (line_of totals)

-- or a prefix of them was
pub record SharesAndStops (slots workers : ℕ) (pace : Pace) (old new : Ends) : Type 0 where
  pub totals : Totals
  pub ended : Status
  pub whole : IsWholeRun ended
  pub shares : SharesRouter slots workers pace old new totals ended
  pub printed : AppendsPrefix old.written new.written (line_of totals)

-- the workers ran, and the run ended as the lowest of them that met a fault or found no memory; nothing was printed
pub record SharesAndFails (workers : ℕ) (pace : Pace) (old new : Ends) (ended : Status) : Type 0 where
  pub ran : WorkersRan workers pace old.link new.link old.clock new.clock ended
  pub printed : Keeps old.written new.written

-- there was no twin for some worker, or no memory for a twin or a router: none was run, and nothing was printed
pub record SharesNothing (workers : ℕ) (old new : Ends) : Type 0 where
  pub link : NoneRan workers old.link new.link
  pub clock : new.clock ≡ old.clock
  pub printed : Keeps old.written new.written

-- by how the run ended
abbrev pub Shares : ℕ → ℕ → Pace → Ends → Ends → Status → Type 0
Shares slots workers pace old new Done = SharesAndTells slots workers pace old new Done
Shares slots workers pace old new TurnsSpent = SharesAndTells slots workers pace old new TurnsSpent
Shares slots workers pace old new SinkFault = SharesAndStops slots workers pace old new
Shares slots workers pace old new LinkFault = SharesNothing workers old new ⊎ SharesAndFails workers pace old new LinkFault
Shares slots workers pace old new ClockFault = SharesAndFails workers pace old new ClockFault
Shares slots workers pace old new Memory = SharesNothing workers old new ⊎ SharesAndFails workers pace old new Memory
Shares slots workers pace old new _ = ⊥

-- A router's run: what was received and sent, what was printed, and why it ended.
use Rattle.std.specs.Prelude.{◌⊎◌, ℕ, List, Option}
use Rattle.std.specs.Io.KnownBytes.{Appends}
use Rattle.r2_base.specs.declared.datagram.Datagram.{Datagram}
use Rattle.r2_base.specs.declared.event.Event.{Event}
use Rattle.r2_link.specs.Streams.{AppendsPrefix}
use Rattle.r2_jbsq.specs.declared.router_setup.RouterSetup.{RouterSetup}
use Rattle.cmd_status.specs.declared.status.Status.{Status}
use Rattle.cmd_status.specs.declared.status.Status.TheVariants.{Done, Memory, SinkFault, LinkFault, ClockFault, TurnsSpent}
use Rattle.cmd_loop.specs.declared.pace.Pace.{Pace}
use Rattle.cmd_loop.specs.Ends.{Ends, Passes, nothing}
use Rattle.cmd_loop.specs.Plain.{Unstored}
use Rattle.cmd_router.specs.Routed.{RouterSends}
use Rattle.cmd_router.specs.Totals.{totals_text}
use Rattle.cmd_router.specs.Twins.{RunsOnTwin}

-- these datagrams were sent at these events, and their totals were written
abbrev pub TellsTotals : RouterSetup → Option (List ℕ) → Option (List ℕ) → List Event → List Datagram → Type 0
TellsTotals setup written written' events sends = RouterSends setup events sends × Appends written written' (totals_text setup events)

-- and a prefix of their totals was written
abbrev pub TellsPrefix : RouterSetup → Option (List ℕ) → Option (List ℕ) → List Event → List Datagram → Type 0
TellsPrefix setup written written' events sends = RouterSends setup events sends × AppendsPrefix written written' (totals_text setup events)

-- a loop that its link ended, or its last turn
abbrev pub IsWholeRun : Status → Type 0
IsWholeRun Done = Unit {0}
IsWholeRun TurnsSpent = Unit {0}
IsWholeRun _ = ⊥

-- a router's loop on a twin, which stored and wrote nothing; where it came to its end, by this rule
abbrev pub RoutesOnTwin : (List Event → List Datagram → Type 0) → RouterSetup → Pace → Ends → Ends → Status → Type 0
RoutesOnTwin whole setup pace old new status = RunsOnTwin (Unstored whole) (Unstored whole) (Unstored (RouterSends setup)) pace old new status

-- such a loop, and then something was written
abbrev pub RoutesAndTells : (List Event → List Datagram → Type 0) → RouterSetup → Pace → Ends → Ends → Status → Type 0
RoutesAndTells whole setup pace old new status = RoutesOnTwin whole setup pace old (record new { written = old.written }) status

-- a router's run, by how it ended: the totals of what was received are written where the loop came to its end by its link or its
-- last turn, and nothing is where it didn't; without a twin or memory for a router nothing was done
abbrev pub Routes : RouterSetup → Pace → Ends → Ends → Status → Type 0
Routes setup pace old new Done = RoutesAndTells (TellsTotals setup old.written new.written) setup pace old new Done
Routes setup pace old new TurnsSpent = RoutesAndTells (TellsTotals setup old.written new.written) setup pace old new TurnsSpent
Routes setup pace old new SinkFault =
    (ended : Status) × IsWholeRun ended × RoutesAndTells (TellsPrefix setup old.written new.written) setup pace old new ended
Routes setup pace old new LinkFault = Passes old new nothing ⊎ RoutesOnTwin (RouterSends setup) setup pace old new LinkFault
Routes setup pace old new Memory = Passes old new nothing ⊎ RoutesOnTwin (RouterSends setup) setup pace old new Memory
Routes setup pace old new ClockFault = RoutesOnTwin (RouterSends setup) setup pace old new ClockFault
Routes setup pace old new _ = ⊥

-- How workers end together, by how each of them ended.
use Rattle.std.proofs.Common.{◌≡◌, Bool, true, false, List, [], ◌∷◌, All, refl}
use Rattle.std.specs.Prelude.{if◌then◌else◌}
use Rattle.std.specs.List.{find, list_any}
use Rattle.std.specs.Option.{unwrap_or}
use Rattle.std.proofs.lemmas.List.Elements.{All-cons, All-head, All-nil, All-tail}
use Rattle.cmd_status.specs.declared.status.Status.{Status}
use Rattle.cmd_status.specs.declared.status.Status.TheVariants.{ClockFault, DiskFault, Done, LinkFault, Memory, TurnsSpent}
use Rattle.cmd_loop.specs.declared.pace.Pace.{Pace}
use Rattle.cmd_loop.specs.Ends.{Ends}
use Rattle.cmd_loop.specs.Loop.{Rule, Serves}
use Rattle.cmd_router.specs.Routes.{IsWholeRun}
use Rattle.cmd_router.specs.Workers.{IsWorkersEnd, end_of, is_fault, is_spent}

-- what holds of each end, and of both good ones, holds of how they end together
found-as : (Q : Status → Type 0) (good : Status) → Q good → (ends : List Status) → All Q ends → Q (unwrap_or (find is_fault ends) good)
found-as Q good q [] all = q
found-as Q good q (Done ∷ more) all = found-as Q good q more (All-tail Q Done more all)
found-as Q good q (TurnsSpent ∷ more) all = found-as Q good q more (All-tail Q TurnsSpent more all)
found-as Q good q (_ ∷ more) all = All-head Q _ more all

good-as : (Q : Status → Type 0) → Q Done → Q TurnsSpent → (spent : Bool) → Q (if spent then TurnsSpent else Done)
good-as Q done spent true = spent
good-as Q done spent false = done

pub ends-as : (Q : Status → Type 0) → Q Done → Q TurnsSpent → (ends : List Status) → All Q ends → Q (end_of ends)
ends-as Q done spent ends all = found-as Q (if list_any is_spent ends then TurnsSpent else Done) (good-as Q done spent (list_any is_spent ends)) ends all

-- where they came to their ends together, each did
found-whole : (good : Status) (ends : List Status) → IsWholeRun (unwrap_or (find is_fault ends) good) → All IsWholeRun ends
found-whole good [] whole = All-nil IsWholeRun
found-whole good (Done ∷ more) whole = All-cons IsWholeRun Done more tt (found-whole good more whole)
found-whole good (TurnsSpent ∷ more) whole = All-cons IsWholeRun TurnsSpent more tt (found-whole good more whole)
found-whole good (_ ∷ more) whole = absurd whole

pub all-whole : (ends : List Status) → IsWholeRun (end_of ends) → All IsWholeRun ends
all-whole ends whole = found-whole (if list_any is_spent ends then TurnsSpent else Done) ends whole

-- how a loop ends that stores nothing
pub ends-known : (D W S : Rule) (pace : Pace) (old new : Ends) (status : Status) → Serves D W S pace old new status → (status ≡ DiskFault → ⊥) → IsWorkersEnd status
ends-known D W S pace old new Done serves no_disk = tt
ends-known D W S pace old new TurnsSpent serves no_disk = tt
ends-known D W S pace old new LinkFault serves no_disk = tt
ends-known D W S pace old new ClockFault serves no_disk = tt
ends-known D W S pace old new Memory serves no_disk = tt
ends-known D W S pace old new DiskFault serves no_disk = absurd (no_disk refl)
ends-known D W S pace old new _ serves no_disk = absurd serves.ended

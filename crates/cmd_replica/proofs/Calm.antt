-- A loop is served where none of its objects failed.
use Rattle.std.proofs.Common.{ℕ, refl}
use Rattle.r2_link.specs.Faults.{Rose, calm}
use Rattle.cmd_status.specs.Causes.{IsCaused}
use Rattle.cmd_status.specs.declared.status.Status.{Status}
use Rattle.cmd_status.specs.declared.status.Status.TheVariants.{Done, Memory, LinkFault, DiskFault, ClockFault, TurnsSpent}
use Rattle.cmd_loop.specs.declared.pace.Pace.{Pace}
use Rattle.cmd_loop.specs.Ends.{Ends}
use Rattle.cmd_loop.specs.Loop.{IsServed, Rule, Serves}

pub serves-unfailed : (D W S : Rule) (pace : Pace) (a b : Ends) (l l' c c' j j' : ℕ) (status : Status) → Serves D W S pace a b status
    → IsCaused (record calm { link = l; clock = c; disk = j }) (record calm { link = l'; clock = c'; disk = j' }) status
    → (Rose l l' → ⊥) → (Rose c c' → ⊥) → (Rose j j' → ⊥) → IsServed status
serves-unfailed D W S pace a b l l' c c' j j' Done serves caused link clock disk = tt
serves-unfailed D W S pace a b l l' c c' j j' TurnsSpent serves caused link clock disk = tt
serves-unfailed D W S pace a b l l' c c' j j' Memory serves caused link clock disk = tt
serves-unfailed D W S pace a b l l' c c' j j' LinkFault serves caused link clock disk = absurd (link (caused.link refl))
serves-unfailed D W S pace a b l l' c c' j j' ClockFault serves caused link clock disk = absurd (clock (caused.clock refl))
serves-unfailed D W S pace a b l l' c c' j j' DiskFault serves caused link clock disk = absurd (disk (caused.disk refl))
serves-unfailed D W S pace a b l l' c c' j j' _ serves caused link clock disk = absurd serves.ended

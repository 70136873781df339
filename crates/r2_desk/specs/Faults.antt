-- Why a desk could not be closed as it should.
use Rattle.std.specs.Prelude.{◌≡◌, ℕ, ◌<◌, ◌≤◌, List, length}
use Rattle.std.specs.declared.sync.ledger.Ledger.{Ghosts}
use Rattle.r2_desk.specs.declared.close_fault.CloseFault.{CloseFault}
use Rattle.r2_desk.specs.declared.close_fault.CloseFault.TheVariants.{Missing, Differs}
use Rattle.r2_desk.specs.States.{PassState}
use Rattle.r2_desk.specs.Closing.{Settles, TellsFirstOther}

-- passes are missing of so many that were made, and all that was given is handed back; or none is missing, and the own list of some
-- pass isn't that of its steps in the trail
abbrev pub Tells : {T S A F W : Type 0} (most : ℕ) {gT : Ghosts T} {gS : Ghosts S} {gA : Ghosts A} {gF : Ghosts F} {gW : Ghosts W} → ℕ → List PassState → CloseFault T S A F W most gT gS gA gF gW → Type 0
Tells most made passes (Missing desk back all given) =
    (given < made) × (all ≡ made) × (given ≡ length passes) × (back.items ≡ passes) × (desk.made.passes ≡ made)
Tells most made passes (Differs totals pass steps own) =
    (made ≤ length passes) × Settles most passes totals steps × TellsFirstOther steps passes pass own

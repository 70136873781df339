-- What a log keeps beside its entries, so that nothing has to be looked for.
use Rattle.std.specs.Prelude.{◌≡◌, ℕ, ◌+◌, List, length}
use Rattle.std.specs.BTreeMap.{BTreeMap}
use Rattle.r2_base.specs.declared.rid.Rid.{Rid}
use Rattle.hc_log.specs.declared.stored.Stored.{Stored}
use Rattle.hc_log.specs.declared.runs.Run.{Run}
use Rattle.hc_log.specs.declared.totals.Totals.{Totals}
use Rattle.hc_log.specs.Log.{IsLog}
use Rattle.hc_log.specs.Runs.{AreRunsBefore}
use Rattle.hc_log.specs.Places.{TellPlaces}
use Rattle.hc_log.specs.Totals.{totals_of}

-- the runs, the places and the totals are those of a log
pub record IsKept (log : List Stored) (runs : List Run) (places : BTreeMap Rid ℕ) (totals : Totals) : Type 0 where
  pub formed : IsLog log
  pub ascend : AreRunsBefore (length log + 1) runs
  pub tell : TellPlaces places log
  pub counted : totals ≡ totals_of log

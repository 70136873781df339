-- A log and a pool beside it.
use Rattle.std.specs.Prelude.{◌≡◌, false, List, All}
use Rattle.hc_log.specs.declared.stored.Stored.{Stored}
use Rattle.hc_log.specs.Log.{stands_in}
use Rattle.hc_pool.specs.declared.request.Request.{Request}

-- no request that waits in the pool is in the log
abbrev pub ShareNoRequest : List Stored → List Request → Type 0
ShareNoRequest log pool = All (λ r. stands_in r.rid log ≡ false) pool

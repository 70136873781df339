-- How a pool holds its requests: each under its id.
use Rattle.std.specs.Prelude.{◌≡◌, List, All}
use Rattle.r2_base.specs.declared.rid.Rid.{Rid}
use Rattle.hc_pool.specs.declared.request.Request.{Request}

-- each request is under its own id
abbrev pub AreUnderTheirIds : List (Rid × Request) → Type 0
AreUnderTheirIds entries = All (λ e. e.0 ≡ e.1.rid) entries

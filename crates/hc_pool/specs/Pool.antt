-- What a pool holds: a list of requests, in the order in which they were put.
use Rattle.std.specs.Prelude.{◌≡◌, ◌≢◌, ◌≤◌, ℕ, Bool, true, not, List, [], ◌∷◌, length, Option, Some, None, filter, All, AllPairs}
use Rattle.std.specs.List.{find, list_any}
use Rattle.r2_base.specs.declared.rid.Rid.{Rid}
use Rattle.r2_base.specs.Entry.{is_request}
use Rattle.r2_base.specs.Names.{same_rid}
use Rattle.r2_base.specs.Limits.{most_body}
use Rattle.hc_pool.specs.declared.request.Request.{Request}

-- a client's request is added to fewer waiting ones than these
abbrev pub most_pooled : ℕ
most_pooled = 4096

-- whether a request has this id
abbrev pub has_rid : Rid → Request → Bool
has_rid rid r = same_rid rid r.rid

-- whether a request with this id waits
unfoldable pub waits_in : Rid → List Request → Bool
waits_in rid pool = list_any (has_rid rid) pool

-- the request with this id
unfoldable pub request_of : Rid → List Request → Option Request
request_of rid pool = find (has_rid rid) pool

-- the others, in their order
unfoldable pub without : Rid → List Request → List Request
without rid pool = filter (λ r. not (has_rid rid r)) pool

-- the id of the request that was put first
abbrev pub oldest_of : List Request → Option Rid
oldest_of [] = None
oldest_of (r ∷ later) = Some r.rid

-- a request that a pool may hold
pub record MayWait (r : Request) : Type 0 where
  pub asks : is_request r.kind ≡ true
  pub body : length r.body ≤ most_body

-- what a pool may hold: each request may wait, and no id is found twice
pub record IsPool (pool : List Request) : Type 0 where
  pub requests : All MayWait pool
  pub ids : AllPairs (λ a b. a.rid ≢ b.rid) pool

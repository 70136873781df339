-- Where the requests of a log stand, by their ids.
use Rattle.std.specs.Prelude.{◌≡◌, ℕ, List, Option}
use Rattle.std.specs.declared.cmp.Ordering.{Ordering}
use Rattle.std.specs.Ordering.{nat_cmp, ordering_then}
use Rattle.std.specs.BTreeMap.{BTreeMap, get}
use Rattle.r2_base.specs.declared.rid.Rid.{Rid}
use Rattle.hc_log.specs.declared.stored.Stored.{Stored}
use Rattle.hc_log.specs.Log.{place_of}

-- the order of request ids: by the client's number, then by its address
abbrev pub rid_order : Rid → Rid → Ordering
rid_order a b =
    ordering_then (nat_cmp a.id b.id) (ordering_then (nat_cmp a.client.ip b.client.ip) (nat_cmp a.client.port b.client.port))

-- the index that the places tell for a request
unfoldable pub told_place : BTreeMap Rid ℕ → Rid → Option ℕ
told_place places rid = get rid_order places rid

-- the places tell where each request of a log stands
abbrev pub TellPlaces : BTreeMap Rid ℕ → List Stored → Type 0
TellPlaces places log = (rid : Rid) → told_place places rid ≡ place_of rid log

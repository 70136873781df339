-- The names of parties and requests: addresses and request ids, when two are the same, and which fit their fields.
use Rattle.std.specs.Prelude.{◌≡◌, ℕ, ◌<◌, ◌^◌, ◌==◌, ◌&&◌, ◌↔◌, Bool, true}
use Rattle.r2_base.specs.declared.addr.Addr.{Addr}
use Rattle.r2_base.specs.declared.rid.Rid.{Rid}
use Rattle.r2_base.specs.Limits.{id_limit}

-- whether two addresses are the same
abbrev pub same_addr : Addr → Addr → Bool
same_addr a b = (a.ip == b.ip) && (a.port == b.port)

-- whether two request ids are the same
abbrev pub same_rid : Rid → Rid → Bool
same_rid a b = (a.id == b.id) && same_addr a.client b.client

-- the numbers of an address fit the fields that hold them
pub record FitsAddr (a : Addr) : Type 0 where
  pub ip : a.ip < 2 ^ 32
  pub port : a.port < 2 ^ 16

-- the numbers of a request id fit the fields that hold them
pub record FitsRid (r : Rid) : Type 0 where
  pub id : r.id < id_limit
  pub client : FitsAddr r.client

-- the test of addresses is their equality
abbrev pub SameAddressesAreEqual : Type 0
SameAddressesAreEqual = (a b : Addr) → (same_addr a b ≡ true) ↔ (a ≡ b)

-- the test of request ids is their equality
abbrev pub SameRequestIdsAreEqual : Type 0
SameRequestIdsAreEqual = (a b : Rid) → (same_rid a b ≡ true) ↔ (a ≡ b)

-- The members that an aggregator serves: which there may be, and who of them sent something.
use Rattle.std.specs.Prelude.{◌≢◌, ◌+◌, ◌/◌, ◌≤◌, ◌&&◌, ℕ, Bool, nat_lt, List, length, slice_index_or, All, AllPairs}
use Rattle.r2_base.specs.declared.addr.Addr.{Addr}
use Rattle.r2_base.specs.Limits.{greatest_member}
use Rattle.r2_base.specs.Names.{same_addr}

-- a group that there may be: 1 to 7 members at distinct addresses, of which none is the aggregator's
pub record IsGroup (me : Addr) (members : List Addr) : Type 0 where
  pub some : 1 ≤ length members
  pub few : length members ≤ greatest_member + 1
  pub distinct : AllPairs (λ a b. a ≢ b) members
  pub apart : All (λ member. member ≢ me) members

-- the address of a member
abbrev pub address_of : List Addr → ℕ → Addr
address_of members member = slice_index_or members member (record { ip = 0; port = 0 })

-- a datagram from this address was sent by that member
abbrev pub is_from_member : List Addr → Addr → ℕ → Bool
is_from_member members from member = nat_lt member (length members) && same_addr from (address_of members member)

-- how many of so many members are a majority
abbrev pub majority : ℕ → ℕ
majority size = size / 2 + 1

-- The group of a member: which there may be, who is in it, and how many are a majority.
use Rattle.std.specs.Prelude.{◌≡◌, ◌≢◌, ◌+◌, ◌*◌, ◌/◌, ◌<◌, ◌≤◌, ◌==◌, ◌&&◌, ℕ, Bool, false, not, nat_lt, List, length, filter, slice_index_or, Option, Some, None, IfSome, All, AllPairs}
use Rattle.std.specs.List.{range_with_len}
use Rattle.r2_base.specs.declared.addr.Addr.{Addr}
use Rattle.r2_base.specs.Names.{same_addr}
use Rattle.hc_replier.specs.Bounds.{AreBounds, most_members}
use Rattle.hc_member.specs.declared.setup.Setup.{Setup}

-- a group that there may be: 1 to 7 members at distinct addresses, of which none is the aggregator's, with a bound for each
pub record IsSetup (s : Setup) : Type 0 where
  pub few : length s.members ≤ most_members
  pub own : s.me < length s.members
  pub distinct : AllPairs (λ a b. a ≢ b) s.members
  pub apart : IfSome s.aggregator (λ aggregator. All (λ member. member ≢ aggregator) s.members)
  pub bounds : AreBounds s.bounds
  pub bound_each : length s.bounds ≡ length s.members
  pub election_low : 1 ≤ s.election
  pub election_high : s.election ≤ 1000

-- the address of a member
abbrev pub address_of : Setup → ℕ → Addr
address_of s member = slice_index_or s.members member (record { ip = 0; port = 0 })

-- the address of the member itself
abbrev pub own_address : Setup → Addr
own_address s = address_of s s.me

-- a number is that of another member
abbrev pub is_other : Setup → ℕ → Bool
is_other s member = nat_lt member (length s.members) && not (member == s.me)

-- the numbers of the other members
abbrev pub others : Setup → List ℕ
others s = filter (is_other s) (range_with_len 0 (length s.members))

-- how many members are a majority
abbrev pub majority : Setup → ℕ
majority s = length s.members / 2 + 1

-- after how many ticks without word from a leader a member stands for election: each later than those before it
abbrev pub patience : Setup → ℕ
patience s = s.election + 3 * s.me

-- a datagram from this address was sent by that member, and it isn't this one
abbrev pub is_from_member : Setup → Addr → ℕ → Bool
is_from_member s from member = is_other s member && same_addr from (address_of s member)

-- a datagram from this address was sent by the aggregator
abbrev pub is_from_aggregator : Option Addr → Addr → Bool
is_from_aggregator (Some aggregator) from = same_addr from aggregator
is_from_aggregator None from = false

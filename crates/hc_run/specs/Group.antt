-- Groups: which there may be, and who receives what is sent to an address.
use Rattle.std.specs.Prelude.{◌≡◌, ◌≢◌, ◌≤◌, ℕ, Bool, true, false, List, length, position, Option, Some, None, IfSome, All, AllPairs}
use Rattle.r2_base.specs.declared.addr.Addr.{Addr}
use Rattle.r2_base.specs.Names.{FitsAddr, same_addr}
use Rattle.hc_replier.specs.Bounds.{AreBounds, most_members}
use Rattle.hc_member.specs.declared.setup.Setup.{Setup}
use Rattle.hc_member.specs.Setup.{is_from_aggregator}

-- a group: the addresses of its members, by their numbers; that of its aggregator, if it has one; for each member, how many requests
-- it may have to answer; and after how many ticks the first member stands for election
pub record Group : Type 0 where
  pub members : List Addr
  pub aggregator : Option Addr
  pub bounds : List ℕ
  pub election : ℕ

-- a group that there may be: 1 to 7 members at distinct addresses, of which none is the aggregator's, with a bound for each
pub record IsGroup (g : Group) : Type 0 where
  pub some : 1 ≤ length g.members
  pub few : length g.members ≤ most_members
  pub fits : All FitsAddr g.members
  pub distinct : AllPairs (λ a b. a ≢ b) g.members
  pub aggregator_fits : IfSome g.aggregator FitsAddr
  pub apart : IfSome g.aggregator (λ aggregator. All (λ member. member ≢ aggregator) g.members)
  pub bounds : AreBounds g.bounds
  pub bound_each : length g.bounds ≡ length g.members
  pub election_low : 1 ≤ g.election
  pub election_high : g.election ≤ 1000

-- the group as one of its members has it
abbrev pub setup_of : Group → ℕ → Setup
setup_of g v =
    record {
      members = g.members;
      me = v;
      aggregator = g.aggregator;
      bounds = g.bounds;
      election = g.election;
    }

-- who receives what is sent to an address: a member, the aggregator, or nobody of the group
pub data Receiver : Type 0 where
  Member : ℕ → Receiver
  Aggregator Outside : Receiver

-- an address that is no member's
abbrev pub other_receiver : Bool → Receiver
other_receiver true = Aggregator
other_receiver false = Outside

-- an address that is this member's, or no member's
abbrev pub receiver_by : Bool → Option ℕ → Receiver
receiver_by is_aggregators (Some v) = Member v
receiver_by is_aggregators None = other_receiver is_aggregators

-- who receives at an address
unfoldable pub receiver_at : Group → Addr → Receiver
receiver_at g to = receiver_by (is_from_aggregator g.aggregator to) (position (same_addr to) g.members)

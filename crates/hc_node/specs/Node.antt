-- What contracts see of a replica.
use Rattle.std.specs.Prelude.{ℕ, Bool, Option, Some, None, if◌then◌else◌}
use Rattle.hc_member.specs.declared.setup.Setup.{Setup}
use Rattle.hc_member.specs.declared.role.Role.{Role}
use Rattle.hc_member.specs.declared.role.Role.TheVariants.{Follower}
use Rattle.hc_replier.specs.Queues.{unreported}
use Rattle.hc_member.specs.Member.{Member, is_leader}
use Rattle.hc_member.specs.Setup.{IsSetup}
use Rattle.hc_member.specs.Sound.{IsSound}

-- who it is, and the member that it runs
pub record NodeState : Type 0 where
  pub setup : Setup
  pub member : Member

-- its group is one that there may be, and its member is one that can be reached
pub record IsSoundNode (n : NodeState) : Type 0 where
  pub setup : IsSetup n.setup
  pub sound : IsSound n.setup n.member

-- a replica that memory ran out for is spent, and nothing holds of it
abbrev pub IsSoundUnlessSpent : Option NodeState → Type 0
IsSoundUnlessSpent (Some n) = IsSoundNode n
IsSoundUnlessSpent None = Unit {0}

-- a replica that isn't spent
abbrev pub IsLive : Option NodeState → Type 0
IsLive (Some n) = Unit {0}
IsLive None = ⊥

-- the same replica with another member
abbrev pub with_member : NodeState → Member → NodeState
with_member n m = record { setup = n.setup; member = m }

-- a number of the member, and 0 where the replica is spent
abbrev pub number_of : (Member → ℕ) → Option NodeState → ℕ
number_of f (Some n) = f n.member
number_of f None = 0

-- its role, that of a follower where it is spent
abbrev pub role_of : Option NodeState → Role
role_of (Some n) = n.member.role
role_of None = Follower

-- how many entries a leader gave a member to answer that it hasn't reported applied; 0 at a member that doesn't lead
abbrev pub unreported_by : ℕ → Member → ℕ
unreported_by member m = if is_leader m.role then unreported m.lead.queues member else 0

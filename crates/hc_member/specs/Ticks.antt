-- What a member does at a tick.
use Rattle.std.specs.Prelude.{◌+◌, ◌^◌, ◌&&◌, Bool, nat_lt, nat_le, min, if◌then◌else◌, List, [], length, map, drop}
use Rattle.r2_base.specs.Limits.{greatest_number}
use Rattle.hc_pool.specs.declared.request.Request.{Request}
use Rattle.hc_pool.specs.Pool.{most_pooled}
use Rattle.hc_member.specs.declared.setup.Setup.{Setup}
use Rattle.hc_member.specs.declared.role.Role.{Role}
use Rattle.hc_member.specs.declared.role.Role.TheVariants.{Leader}
use Rattle.hc_member.specs.Setup.{others, patience}
use Rattle.hc_member.specs.Member.{Member}
use Rattle.hc_member.specs.Outcome.{Outcome, stays}
use Rattle.hc_member.specs.Orders.{direct_order}
use Rattle.hc_member.specs.Votes.{is_elected, stands, vote_requests, wins}

-- a full pool loses its oldest request
abbrev pub relieved : List Request → List Request
relieved pool = if nat_le most_pooled (length pool) then drop 1 pool else pool

-- one tick more without word from a leader
unfoldable pub waited : Member → Member
waited m = record m { silent = min (m.silent + 1) (2 ^ 31); pool = relieved m.pool }

-- whether a member stands for election now
abbrev pub is_impatient : Setup → Member → Bool
is_impatient s m = nat_le (patience s) m.silent && nat_lt m.term greatest_number && nat_lt (length m.log) greatest_number

-- a new candidate asks the others for their votes; a group's only member has a majority at once
unfoldable pub campaigns : Setup → Member → Member → Outcome
campaigns s old m = if is_elected s m.votes then stays old (wins s m) [] else stays old m (vote_requests s m)

-- a tick at a member that isn't a leader
unfoldable pub waits : Setup → Member → Outcome
waits s m = if is_impatient s (waited m) then campaigns s m (stands s (waited m)) else stays m (waited m) []

-- a tick: a leader tells each other member what comes next for it
unfoldable pub ticked : Setup → Member → Role → Outcome
ticked s m Leader = stays m m (map (direct_order s m) (others s))
ticked s m _ = waits s m

use Rattle.std.proofs.Common.{◌≡◌, map}
use Rattle.std.specs.List.{range_with_len}
use Rattle.hc_world.specs.Addresses.{member_address}
use Rattle.hc_world.proofs.group.member_addresses.Given as goal

abbrev pub invariant-members : goal.invariant-members
invariant-members l = l.addresses.items ≡ map member_address (range_with_len 0 l.member)

use Rattle.hc_world.specs.Addresses.{group_with}
use Rattle.hc_world.specs.Live.{AreNew}
use Rattle.hc_world.proofs.group.seats_of.Given as goal

abbrev pub invariant-members : goal.invariant-members
invariant-members l = AreNew (group_with l.members l.address l.bounds) l.me l.seats.items

use Rattle.hc_world.proofs.Begun.{group-there}
use Rattle.hc_world.proofs.world.World.new.Goals as goal

pub returns-in_err-live-clause-group : goal.returns-in_err-live-clause-group
returns-in_err-live-clause-group c = group-there c.args.members c.args.bounds c.args.has_aggregator c.requires.some c.requires.few c.requires.bounds c.requires.each

pub returns-clause-group : goal.returns-clause-group
returns-clause-group c = group-there c.args.members c.args.bounds c.args.has_aggregator c.requires.some c.requires.few c.requires.bounds c.requires.each

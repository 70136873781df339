use Rattle.std.proofs.Common.{refl}
use Rattle.hc_world.proofs.Begun.{group-like, new-shows}
use Rattle.hc_world.proofs.live.Live.new.Goals as goal

pub seats_of-requires : goal.seats_of-requires
seats_of-requires c =
    group-like c.args.members c.in_ok-members.members c.address_where-address.result c.args.bounds c.args.has_aggregator c.requires.some c.requires.few c.requires.bounds c.requires.each c.in_ok-members.ensures
    c.address_where-address.ensures

pub aggregator_at-requires-clause-few : goal.aggregator_at-requires-clause-few
aggregator_at-requires-clause-few c =
    let is = group-like c.args.members c.in_ok-members.members c.address_where-address.result c.args.bounds c.args.has_aggregator c.requires.some c.requires.few c.requires.bounds c.requires.each c.in_ok-members.ensures
    c.address_where-address.ensures in
    is.few

pub aggregator_at-requires-clause-distinct : goal.aggregator_at-requires-clause-distinct
aggregator_at-requires-clause-distinct c =
    let is = group-like c.args.members c.in_ok-members.members c.address_where-address.result c.args.bounds c.args.has_aggregator c.requires.some c.requires.few c.requires.bounds c.requires.each c.in_ok-members.ensures
    c.address_where-address.ensures in
    is.distinct

pub aggregator_at-requires-clause-apart : goal.aggregator_at-requires-clause-apart
aggregator_at-requires-clause-apart c =
    let is = group-like c.args.members c.in_ok-members.members c.address_where-address.result c.args.bounds c.args.has_aggregator c.requires.some c.requires.few c.requires.bounds c.requires.each c.in_ok-members.ensures
    c.address_where-address.ensures in
    is.apart

pub returns : goal.returns
returns c =
    let is = group-like c.args.members c.in_ok-members.members c.address_where-address.result c.args.bounds c.args.has_aggregator c.requires.some c.requires.few c.requires.bounds c.requires.each c.in_ok-members.ensures
    c.address_where-address.ensures in
    new-shows _ c.args.members c.args.bounds c.args.has_aggregator is c.in_ok-members.ensures c.address_where-address.ensures refl c.in_ok-seats.ensures c.in_ok-aggregator.ensures c.new.ensures.items c.in_ok-answered.ensures
    refl refl refl refl refl

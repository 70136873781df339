use Rattle.std.proofs.Common.{refl, ap}
use Rattle.hc_aggregate.specs.Turn.{AggregatorState}
use Rattle.hc_world.proofs.Worlds.{aggregate-shows, aggregated-seen, on-ok, world-aggregated}
use Rattle.hc_world.proofs.live.Live.aggregate.Goals as goal

pub send-requires : goal.send-requires
send-requires c =
    let turn = c.in_ok-more.ensures.turn in
    world-aggregated c.args.self.now _ c.in-Some.aggregator c.turn.new.self c.requires c.in-Some.is (ap (λ (x : AggregatorState). x.me) turn.becomes) (ap (λ (x : AggregatorState). x.members) turn.becomes)
    (record { group = record { members = refl; address = refl; bounds = refl }; seats = refl; ids = refl; aggregator = refl })

pub returns : goal.returns
returns c =
    on-ok _ _ c.send.result
    (λ did. λ me at.
    aggregate-shows c.args.self.now _ c.send.new.self c.in-Some.aggregator c.turn.new.self me c.args.event.now c.in_ok-more.more c.requires c.in-Some.is at c.in_ok-more.ensures.turn
    (aggregated-seen c.args.self.now _ c.turn.new.self (record { group = record { members = refl; address = refl; bounds = refl }; seats = refl; ids = refl; aggregator = refl })
    (record { datagrams = refl; events = refl; requests = refl; replies = refl }) refl refl) did)
    c.send.ensures

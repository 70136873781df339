use Rattle.std.proofs.Common.{refl, arith}
use Rattle.hc_world.proofs.Worlds.{crash-shows, stands-at, up-inside}
use Rattle.hc_world.proofs.live.Live.crash.Goals as goal

pub index_mut-requires : goal.index_mut-requires
index_mut-requires c =
    let inside = up-inside c.args.self.now c.args.member c.requires.up in
    let long = c.args.self.now.seats.ok.0 in
    omega (arith, inside, long)

pub stop-requires : goal.stop-requires
stop-requires c =
    let stands = stands-at c.args.self.now c.args.member c.index_mut.result.now c.requires.world c.requires.up c.index_mut.ensures.value in
    stands.runs

pub returns : goal.returns
returns c =
    let stands = stands-at c.args.self.now c.args.member c.index_mut.result.now c.requires.world c.requires.up c.index_mut.ensures.value in
    crash-shows c.args.self.now c.args.member c.index_mut.result.now c.requires.world stands _ c.stop.new.self c.stop.ensures.rests c.stop.ensures.records
    (record { group = record { members = refl; address = refl; bounds = refl }; aggregator = refl; ids = refl; seats = refl })
    (record { datagrams = refl; events = refl; requests = refl; replies = refl }) refl c.saturating_add-self.ensures

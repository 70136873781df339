use Rattle.std.proofs.Common.{refl}
use Rattle.hc_world.proofs.Worlds.{own-seat, restart-shows, seat-there}
use Rattle.hc_world.proofs.live.Live.restart.Goals as goal

pub restart-requires : goal.restart-requires
restart-requires c =
    let there = seat-there c.args.self.now c.args.member c.index_mut.result.now c.requires.world c.requires.member c.index_mut.ensures.value in
    own-seat _ c.index_mut.result.now there.1

pub returns : goal.returns
returns c =
    restart-shows c.args.self.now _ c.args.member c.index_mut.result.now c.restart.new.self c.requires.world c.requires.member c.index_mut.ensures.value c.in_ok-restart.ensures.runs c.in_ok-restart.ensures.records
    (record { group = record { members = refl; address = refl; bounds = refl }; aggregator = refl; ids = refl; seats = refl })
    (record { datagrams = refl; events = refl; requests = refl; replies = refl }) refl refl

use Rattle.std.proofs.Common.{refl}
use Rattle.hc_world.proofs.Worlds.{on-ok, send-shows}
use Rattle.hc_world.proofs.live.Live.send.Goals as goal

pub returns : goal.returns
returns c =
    on-ok _ _ c.send_all.result
    (λ sent. send-shows c.args.self.now _ c.args.more c.requires
    (record { group = record { members = refl; address = refl; bounds = refl }; aggregator = refl; seats = refl }) refl refl refl refl sent)
    c.send_all.ensures

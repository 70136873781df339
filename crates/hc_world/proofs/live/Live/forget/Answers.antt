use Rattle.std.proofs.Common.{refl}
use Rattle.hc_world.proofs.Worlds.{forget-none, forget-shows}
use Rattle.hc_world.proofs.live.Live.forget.Goals as goal

pub returns-in-Some : goal.returns-in-Some
returns-in-Some c =
    forget-shows c.args.self.now _ c.in-Some.aggregator c.forget.new.self c.requires c.in-Some.is c.forget.ensures
    (record { group = record { members = refl; address = refl; bounds = refl }; seats = refl; ids = refl; aggregator = refl })
    (record { datagrams = refl; events = refl; requests = refl; replies = refl }) refl refl

pub returns-in-None : goal.returns-in-None
returns-in-None c = forget-none c.args.self.now c.requires c.in-None.is

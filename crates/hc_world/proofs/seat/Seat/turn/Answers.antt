use Rattle.std.proofs.Common.{refl}
use Rattle.hc_world.specs.Seat.{member_of}
use Rattle.hc_world.proofs.Seats.{runs-turned}
use Rattle.hc_world.proofs.seat.Seat.turn.Goals as goal

pub returns-clause-runs : goal.returns-clause-runs
returns-clause-runs c =
    runs-turned c.args.self.now.setup (member_of c.args.self.now) c.args.self.now c.make_turn.new.self c.keep.new.self _ _ _ c.requires c.requires refl c.in_ok-turn.ensures.gives
    c.keep.ensures.setup c.keep.ensures.node c.in_ok-keep.ensures.records

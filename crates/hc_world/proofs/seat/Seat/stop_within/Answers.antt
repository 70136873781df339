use Rattle.std.proofs.Common.{refl}
use Rattle.hc_world.proofs.Seats.{rests-within}
use Rattle.hc_world.proofs.seat.Seat.stop_within.Goals as goal

pub returns-clause-rests : goal.returns-clause-rests
returns-clause-rests c =
    rests-within c.args.self.now c.make_turn.new.self c.keep_where.new.self _ _ _ _ c.args.kept c.requires c.in_ok-turn.ensures.gives
    c.keep_where.ensures.setup c.in_ok-keep_where.ensures.records refl refl refl

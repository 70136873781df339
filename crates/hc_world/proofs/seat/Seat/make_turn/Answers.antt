-- A turn by its two halves.
use Rattle.hc_world.proofs.Seats.{gives-turn, runs-running}
use Rattle.hc_world.proofs.seat.Seat.make_turn.Goals as goal

pub react-requires : goal.react-requires
react-requires c = runs-running _ _ c.finish.new.self c.in_ok-replies.ensures.runs

pub returns-clause-gives : goal.returns-clause-gives
returns-clause-gives c =
    gives-turn c.args.self.now c.finish.new.self c.react.new.self c.args.event.now c.in_ok-stored.field-0.stored c.in_ok-replies.field-0.replies c.in_ok-stored.field-0.sends
    c.in_ok-replies.ensures.runs c.in_ok-replies.ensures.records c.in_ok-replies.ensures.sends c.in_ok-stored.ensures

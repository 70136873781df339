use Rattle.std.proofs.Common.{Some, refl, ap}
use Rattle.hc_world.proofs.Seats.{runs-first, runs-member, runs-seat}
use Rattle.hc_world.proofs.seat.Seat.begin.Goals as goal

pub returns-clause-seat : goal.returns-clause-seat
returns-clause-seat c =
    runs-seat c.args.setup _ _ (runs-first c.args.setup _ c.begin.result.state c.requires c.begin.ensures.state refl (ap Some c.in_ok-node.ensures) c.new.ensures)

pub returns-clause-shows : goal.returns-clause-shows
returns-clause-shows c =
    let runs = runs-first c.args.setup (record { setup = c.args.setup; node = Some c.in_ok-node.node; records = c.new.result }) c.begin.result.state c.requires c.begin.ensures.state refl (ap Some c.in_ok-node.ensures) c.new.ensures in
    let same = runs-member c.args.setup _ _ runs in
    let none = c.new.ensures in
    cc

use Rattle.std.proofs.Common.{Some, refl, ap, ◌∙◌}
use Rattle.hc_log.specs.Durable.{replay}
use Rattle.hc_world.proofs.Seats.{runs-restarted}
use Rattle.hc_world.proofs.seat.Seat.restart.Goals as goal

pub returns-clause-runs : goal.returns-clause-runs
returns-clause-runs c =
    runs-restarted c.args.self.now.setup c.args.self.now _ c.in-Ok.durable.state c.requires (c.in-Ok.ensures.state ∙ ap replay c.as_slice.ensures) refl (ap Some c.in_ok-node.ensures) refl

use Rattle.std.proofs.Common.{refl, ap, ◌∙◌}
use Rattle.hc_log.specs.Durable.{replay}
use Rattle.cmd_replay.specs.Replica.{member_of}
use Rattle.cmd_replay.proofs.Replicas.{runs-restarted}
use Rattle.cmd_replay.proofs.replica.Replica.restart.Goals as goal

pub returns : goal.returns
returns c =
    let s = c.args.self.now.setup in
    runs-restarted s (member_of c.args.self.now) c.args.self.now _ c.in-Ok.durable.state c.requires (c.in-Ok.ensures.state ∙ ap replay c.as_slice.ensures) refl c.in_ok-self.ensures refl

use Rattle.std.proofs.Common.{Some, refl, ap, ◌∙◌}
use Rattle.hc_log.specs.Durable.{State}
use Rattle.hc_member.specs.Member.{anew}
use Rattle.cmd_replay.proofs.Replicas.{runs-first}
use Rattle.cmd_replay.proofs.replica.Replica.begin.Goals as goal

pub returns : goal.returns
returns c =
    let s = c.args.setup in
    runs-first s _ c.requires refl (c.in_ok-node.ensures ∙ ap (λ (d : State). Some (record { setup = s; member = anew d })) c.begin.ensures.state) c.new.ensures

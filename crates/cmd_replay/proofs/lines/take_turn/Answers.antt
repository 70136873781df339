-- A turn is printed as it was made, and its record is put after the others.
use Rattle.std.proofs.Common.{ap, ◌∙◌, ◌++◌}
use Rattle.hc_member.specs.Turn.{turned}
use Rattle.cmd_replay.specs.Replica.{member_of, stored_list}
use Rattle.cmd_replay.proofs.Replicas.{runs-turned}
use Rattle.cmd_replay.proofs.lines.take_turn.Goals as goal

pub returns-in-Ok-keep-clause-runs : goal.returns-in-Ok-keep-clause-runs
returns-in-Ok-keep-clause-runs g c =
    let s = c.args.replica.now.setup in
    let m = member_of c.args.replica.now in
    let gives = c.in-Ok.ensures in
    runs-turned s m (turned s m c.args.event.now).member c.args.replica.now c.keep.new.self c.in-Ok.turn.reaction.stored c.requires gives.changed
    (c.keep.ensures.setup ∙ gives.setup) (c.keep.ensures.node ∙ gives.node)
    (c.in-Ok-keep.ensures.records ∙ ap (λ rs. rs ++ stored_list c.in-Ok.turn.reaction.stored) gives.records)

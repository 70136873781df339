-- A turn by its two halves.
use Rattle.cmd_replay.proofs.Replicas.{gives-turn, runs-running}
use Rattle.cmd_replay.proofs.replica.Replica.turn.Goals as goal

pub react-requires : goal.react-requires
react-requires c = runs-running _ _ c.finish.new.self c.in_ok-replies.ensures.runs

pub returns : goal.returns
returns c =
    gives-turn c.args.self.now c.finish.new.self c.react.new.self c.args.event.now c.in_ok-reaction.reaction.stored c.in_ok-replies.replies c.in_ok-reaction.reaction.sends
    c.in_ok-replies.ensures.runs c.in_ok-replies.ensures.records c.in_ok-replies.ensures.sends c.in_ok-reaction.ensures

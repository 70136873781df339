use Rattle.std.proofs.Common.{subst, ◌∙◌}
use Rattle.std.specs.Io.KnownBytes.{Appends}
use Rattle.r2_link.specs.Streams.{AppendsPrefix}
use Rattle.cmd_replay.specs.Replica.{member_of}
use Rattle.cmd_replay.proofs.Turned.{batch_text-of}
use Rattle.cmd_replay.proofs.lines.take_batch.Goals as goal

pub returns-in-Err-clause-prefix : goal.returns-in-Err-clause-prefix
returns-in-Err-clause-prefix g c =
    subst (AppendsPrefix (g.K.Sink.written c.args.sink.now) (g.K.Sink.written c.print_turn.new.sink))
    (batch_text-of c.args.replica.now.setup (member_of c.args.replica.now) _ (c.as_slice.ensures ∙ c.in-Ok.ensures.sends)) c.in-Err.ensures.prefix

pub returns-clause-whole : goal.returns-clause-whole
returns-clause-whole g c =
    subst (Appends (g.K.Sink.written c.args.sink.now) (g.K.Sink.written c.print_turn.new.sink))
    (batch_text-of c.args.replica.now.setup (member_of c.args.replica.now) _ (c.as_slice.ensures ∙ c.in-Ok.ensures.sends)) c.in_default-print_turn.ensures.whole

pub returns-clause-prefix : goal.returns-clause-prefix
returns-clause-prefix g c =
    subst (AppendsPrefix (g.K.Sink.written c.args.sink.now) (g.K.Sink.written c.print_turn.new.sink))
    (batch_text-of c.args.replica.now.setup (member_of c.args.replica.now) _ (c.as_slice.ensures ∙ c.in-Ok.ensures.sends)) c.print_turn.ensures.prefix

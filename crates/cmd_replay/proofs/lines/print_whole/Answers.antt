-- A turn is printed in two pieces: what was pending, then the reaction.
use Rattle.std.proofs.Common.{None, refl, sym, subst}
use Rattle.std.specs.Io.KnownBytes.{Appends}
use Rattle.r2_link.specs.Streams.{AppendsPrefix}
use Rattle.r2_link.proofs.Streams.{Appends-trans, AppendsPrefix-longer, AppendsPrefix-then}
use Rattle.cmd_replay.specs.Printed.{turn_text}
use Rattle.cmd_replay.proofs.Turned.{two_pieces}
use Rattle.cmd_replay.proofs.lines.print_whole.Goals as goal

pub returns-in-Err-clause-prefix : goal.returns-in-Err-clause-prefix
returns-in-Err-clause-prefix g c =
    let turn = c.args.turn.now in
    subst (AppendsPrefix (g.K.Sink.written c.args.sink.now) (g.K.Sink.written c.print_turn.new.sink)) (sym (two_pieces turn.reaction.stored turn.replies turn.reaction.sends _ turn.reaction.sends c.as_slice.ensures refl))
    (AppendsPrefix-longer _ _ _ (turn_text None turn.reaction.sends) c.in-Err.ensures.prefix)

pub returns-in-Err-print_turn-clause-prefix : goal.returns-in-Err-print_turn-clause-prefix
returns-in-Err-print_turn-clause-prefix g c =
    let turn = c.args.turn.now in
    subst (AppendsPrefix (g.K.Sink.written c.args.sink.now) (g.K.Sink.written c.print_turn-2.new.sink)) (sym (two_pieces turn.reaction.stored turn.replies turn.reaction.sends _ _ c.as_slice.ensures c.as_slice-2.ensures))
    (AppendsPrefix-then _ _ _ _ _ c.in-Err-print_turn.ensures.prefix c.in_default.ensures.whole)

pub returns-clause-whole : goal.returns-clause-whole
returns-clause-whole g c =
    let turn = c.args.turn.now in
    subst (Appends (g.K.Sink.written c.args.sink.now) (g.K.Sink.written c.print_turn-2.new.sink)) (sym (two_pieces turn.reaction.stored turn.replies turn.reaction.sends _ _ c.as_slice.ensures c.as_slice-2.ensures))
    (Appends-trans _ _ _ _ _ c.in_default.ensures.whole c.in_default-print_turn.ensures.whole)

pub returns-clause-prefix : goal.returns-clause-prefix
returns-clause-prefix g c =
    let turn = c.args.turn.now in
    subst (AppendsPrefix (g.K.Sink.written c.args.sink.now) (g.K.Sink.written c.print_turn-2.new.sink)) (sym (two_pieces turn.reaction.stored turn.replies turn.reaction.sends _ _ c.as_slice.ensures c.as_slice-2.ensures))
    (AppendsPrefix-then _ _ _ _ _ c.in_default-print_turn.ensures.prefix c.in_default.ensures.whole)

use Rattle.std.specs.List.{flat_map}
use Rattle.cmd_script.specs.Printed.{out_text}
use Rattle.cmd_replay.specs.Printed.{stored_text, turn_text}
use Rattle.r2_link.proofs.Streams.{Appends-trans, AppendsPrefix-longer, AppendsPrefix-then}
use Rattle.cmd_status.proofs.Reports.{on_ok}
use Rattle.cmd_replay.proofs.print.print_turn.Goals as goal

pub returns-in-Err-clause-prefix : goal.returns-in-Err-clause-prefix
unfolding turn_text
returns-in-Err-clause-prefix g c =
    AppendsPrefix-longer _ _ (stored_text c.args.stored.now) (flat_map out_text c.args.sends.now) c.in-Err.ensures.prefix

pub returns-clause-whole : goal.returns-clause-whole
unfolding turn_text
returns-clause-whole g c =
    on_ok c.print_sends.result _ _ (λ sent. Appends-trans _ _ _ (stored_text c.args.stored.now) (flat_map out_text c.args.sends.now) c.in_default.ensures.whole sent) c.print_sends.ensures.whole

pub returns-clause-prefix : goal.returns-clause-prefix
unfolding turn_text
returns-clause-prefix g c =
    AppendsPrefix-then _ _ _ (stored_text c.args.stored.now) (flat_map out_text c.args.sends.now) c.print_sends.ensures.prefix c.in_default.ensures.whole

use Rattle.r2_server.proofs.tests.is_sent_by.Goals as goal

pub lines-preserved : goal.lines-preserved
lines-preserved c = c.in_ok-sends.ensures.counted c.lines.i c.lines.invariant

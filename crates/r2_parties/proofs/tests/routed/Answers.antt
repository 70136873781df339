use Rattle.r2_parties.proofs.tests.routed.Goals as goal

pub heard-preserved : goal.heard-preserved
heard-preserved c = c.in_ok-sends.ensures.counted c.heard.i c.heard.invariant

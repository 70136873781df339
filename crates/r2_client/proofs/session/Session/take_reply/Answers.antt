use Rattle.r2_client.proofs.ShortReplies.{whole_short}
use Rattle.r2_client.proofs.session.Session.take_reply.Goals as goal

pub returns-in-Whole-clause-short : goal.returns-in-Whole-clause-short
returns-in-Whole-clause-short c =
    rw c.ending.ensures (whole_short c.in-Some.key.class c.in-Whole.body (rw c.in-Whole.is at c.in_ok-body.ensures.body))

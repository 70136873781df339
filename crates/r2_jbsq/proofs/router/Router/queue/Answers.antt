use Rattle.r2_jbsq.specs.declared.decision.Decision.TheVariants as decision
use Rattle.r2_jbsq.proofs.Packets.{queued-requests}
use Rattle.r2_jbsq.proofs.Sound.{step-sound}
use Rattle.r2_jbsq.proofs.router.Router.queue.Goals as goal

pub invariant_of-self-2 : goal.invariant_of-self-2
invariant_of-self-2 c =
    rw c.in_ok-queue.ensures.ok
    (record {
      servers = c.self.invariant.servers;
      n = c.self.invariant.n;
      sound = step-sound _ (decision.Queue c.args.request) c.self.invariant.sound (rw (← c.self.view_is) at c.requires.fits);
      requests = queued-requests _ c.args.request c.self.invariant.requests c.requires.brings;
    })

use Rattle.std.proofs.Common.{arith}
use Rattle.r2_jbsq.specs.declared.decision.Decision.TheVariants as decision
use Rattle.r2_jbsq.proofs.Chosen.{chosen-Some}
use Rattle.r2_jbsq.proofs.Packets.{put-requests}
use Rattle.r2_jbsq.proofs.Sound.{step-sound}
use Rattle.r2_jbsq.proofs.router.Router.forward.Goals as goal

pub forward-requires-clause-server : goal.forward-requires-clause-server
forward-requires-clause-server c =
    let fits = rw (← c.self.view_is) at c.requires.fits in
    let chosen = chosen-Some c.self.inside.setup.n c.self.inside.requests.rows c.args.server fits.chosen in
    chosen.inside

pub forward-requires-clause-room : goal.forward-requires-clause-room
forward-requires-clause-room c =
    let fits = rw (← c.self.view_is) at c.requires.fits in
    let chosen = chosen-Some c.self.inside.setup.n c.self.inside.requests.rows c.args.server fits.chosen in
    omega (arith, chosen.few, c.self.invariant.n)

pub invariant_of-self-2 : goal.invariant_of-self-2
invariant_of-self-2 c =
    rw c.in_ok-forward.ensures.ok
    (record {
      servers = c.self.invariant.servers;
      n = c.self.invariant.n;
      sound = step-sound _ (decision.Forward c.args.request c.args.server) c.self.invariant.sound (rw (← c.self.view_is) at c.requires.fits);
      requests = put-requests _ c.args.request c.args.server (chosen-Some _ _ c.args.server (rw (← c.self.view_is) at c.requires.fits).chosen).inside c.self.invariant.requests c.requires.brings;
    })

use Rattle.std.proofs.Common.{sym, subst}
use Rattle.r2_jbsq.specs.Standing.{closed}
use Rattle.r2_jbsq.specs.State.{IsSound}
use Rattle.r2_jbsq.specs.declared.decision.Decision.TheVariants as decision
use Rattle.r2_jbsq.proofs.Closing.{closing, room-after}
use Rattle.r2_jbsq.proofs.Packets.{closed-inside, closed-requests, first-gone-requests}
use Rattle.r2_jbsq.proofs.Sound.{step-sound}
use Rattle.r2_jbsq.proofs.router.Router.close.Goals as goal

pub move_on-moved_on-requires-clause-room : goal.move_on-moved_on-requires-clause-room
move_on-moved_on-requires-clause-room c =
    let fits = rw (← c.self.view_is) at c.requires.fits in
    rw c.close.ensures (room-after _ _ _ c.self.invariant.sound fits c.self.invariant.n)

pub invariant_of-self : goal.invariant_of-self
invariant_of-self c =
    let fits = rw (← c.self.view_is) at c.requires.fits in
    rw (c.move_on-moved_on.ensures.gone, c.from.ensures, c.move_on-moved_on.ensures.waited, c.close.ensures)
    (record {
      servers = c.self.invariant.servers;
      n = c.self.invariant.n;
      sound = subst IsSound (closing _ _ _ c.self.invariant.sound fits) (step-sound _ (decision.Close c.args.rid.now c.args.server) c.self.invariant.sound fits);
      requests = first-gone-requests (closed c.args.rid.now c.args.server c.self.inside.requests) c.args.server (closed-inside c.self.inside.requests c.args.rid.now c.args.server fits.is_server)
          (closed-requests c.self.inside.requests c.args.rid.now c.args.server fits.is_server c.self.invariant.requests);
    })

pub returns : goal.returns
returns c =
    let fits = rw (← c.self.view_is) at c.requires.fits in
    rw (c.move_on-moved_on.ensures.gone, c.from.ensures, c.move_on-moved_on.ensures.waited, c.close.ensures, ← c.self.view_is)
    (sym (closing _ _ _ c.self.invariant.sound fits))

use Rattle.r2_jbsq.proofs.Turns.{within-slots}
use Rattle.r2_jbsq.proofs.router.Router.forwarded.Goals as goal

pub returns-clause-within : goal.returns-clause-within
returns-clause-within c = rw (← c.self.view_is) (within-slots _ c.self.invariant.sound)

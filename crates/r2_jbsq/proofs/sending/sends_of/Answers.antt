use Rattle.std.proofs.Common.{arith}
use Rattle.r2_jbsq.proofs.Chosen.{chosen-Some}
use Rattle.r2_jbsq.proofs.Freed.{next_closed}
use Rattle.r2_jbsq.proofs.sending.sends_of.Goals as goal

pub forward-requires : goal.forward-requires
forward-requires c =
    let fits = rw c.in-Forward.is at c.requires.fits in
    let chosen = chosen-Some c.args.setup.now.n c.args.requests.now.rows c.in-Forward.server fits.chosen in
    omega (arith, chosen.inside, c.requires.rows)

pub returns-in-Close-clause-sends : goal.returns-in-Close-clause-sends
returns-in-Close-clause-sends c =
    let fits = rw c.in-Close.is at c.requires.fits in
    rw (c.in-Close.is, next_closed c.args.setup.now.n c.in-Close.field-0 c.in-Close.server c.args.requests.now c.requires.full fits) c.forward_first.ensures

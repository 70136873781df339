use Rattle.r2_jbsq.proofs.Runs.{begin-stands}
use Rattle.r2_jbsq.proofs.router.Router.new.Goals as goal

pub returns-clause-stands : goal.returns-clause-stands
returns-clause-stands c =
    rw (c.in_ok-requests.ensures, c.len.ensures) (begin-stands (record { me = c.args.me; servers = c.args.servers; n = c.args.n }))

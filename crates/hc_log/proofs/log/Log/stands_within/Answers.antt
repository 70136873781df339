use Rattle.std.proofs.Common.{sym}
use Rattle.hc_log.proofs.Standing.{within-None, within-Some}
use Rattle.hc_log.proofs.log.Log.stands_within.Goals as goal

pub returns-in-None : goal.returns-in-None
returns-in-None c = sym (within-None c.args.rid.now c.args.self.now c.args.keep (sym c.in-None.ensures.index))

pub returns-in-Some : goal.returns-in-Some
returns-in-Some c = sym (within-Some c.args.rid.now c.args.self.now c.args.keep c.in-Some.index (sym c.in-Some.ensures.index))

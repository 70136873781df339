use Rattle.std.proofs.Common.{◌∙◌, ap, is_some}
use Rattle.hc_log.specs.Log.{place_of}
use Rattle.hc_log.specs.Places.{told_place}
use Rattle.hc_log.proofs.Standing.{stands-from_place}
use Rattle.hc_log.proofs.log.Log.place_of.Goals as goal

pub returns-in_err-index-clause-index : goal.returns-in_err-index-clause-index
unfolding told_place
returns-in_err-index-clause-index c =
    c.from_residual.ensures ∙ c.in_err-index.ensures.value ∙ c.self.invariant.tell c.args.rid.now ∙ ap (place_of c.args.rid.now) c.self.view_is

pub returns-in_err-index-clause-stands : goal.returns-in_err-index-clause-stands
returns-in_err-index-clause-stands c = ap is_some (returns-in_err-index-clause-index c) ∙ stands-from_place c.args.rid.now c.args.self.now

pub returns-clause-index : goal.returns-clause-index
unfolding told_place
returns-clause-index c = c.in_ok-index.ensures.value ∙ c.self.invariant.tell c.args.rid.now ∙ ap (place_of c.args.rid.now) c.self.view_is

pub returns-clause-stands : goal.returns-clause-stands
returns-clause-stands c = ap is_some (returns-clause-index c) ∙ stands-from_place c.args.rid.now c.args.self.now

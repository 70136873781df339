use Rattle.std.proofs.Common.{None, ◌∙◌, sym}
use Rattle.hc_log.proofs.Standing.{told-changed}
use Rattle.hc_log.proofs.places.forget_place.Goals as goal

pub returns : goal.returns
returns c =
    told-changed c.args.places.now c.remove.new.self c.args.s.now None (sym c.is_request.ensures ∙ c.if-not-is_request.false) c.remove.ensures.updates.0

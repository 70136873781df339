use Rattle.std.proofs.Common.{◌≡◌, ℕ, ◌+◌, ◌-◌, length, drop, take, sym, subst, refl, arith, length-drop}
use Rattle.std.proofs.lemmas.List.{take_all}
use Rattle.hc_log.specs.Log.{term_at}
use Rattle.hc_order.specs.Taking.{AreNext}
use Rattle.hc_order.proofs.Agreed.{agreed-next}
use Rattle.hc_order.proofs.taking.take_after.Goals as goal

pub take_rest-requires-clause-next : goal.take_rest-requires-clause-next
take_rest-requires-clause-next c =
    let log = c.args.log.now in
    let at = c.args.at in
    let entries = c.args.entries.now in
    let n = c.agreeing-agreed.result in
    let next = agreed-next log at entries (term_at log at) c.requires.term c.requires.inside c.requires.ordered refl in
    let whole : take (length entries - n) (drop n entries) ≡ drop n entries = take_all (length entries - n) (drop n entries) (omega (arith, length-drop n entries)) in
    subst (AreNext (take (at + n) log)) (sym whole)
    (subst (λ (m : ℕ). AreNext (take (at + m) log) (drop m entries)) (sym c.agreeing-agreed.ensures.count) next)

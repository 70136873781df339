use Rattle.std.proofs.Common.{List, take, sym, subst}
use Rattle.hc_log.specs.declared.stored.Stored.{Stored}
use Rattle.hc_order.specs.Taking.{AreNext}
use Rattle.hc_order.proofs.Agreed.{after-end-next}
use Rattle.hc_order.proofs.taking.take_rest.Goals as goal

pub append_each-requires : goal.append_each-requires
append_each-requires c =
    let keep = c.cut_at-keep.result in
    let rest = c.args.rest.now in
    subst (λ (l : List Stored). AreNext l c.after_end-more.result.now) (sym c.in_ok-cut_off.ensures.log)
    (subst (AreNext (take keep c.args.log.now)) (sym c.after_end-more.ensures.rest)
    (after-end-next c.args.log.now keep c.args.reach rest c.cut_at-keep.ensures.holds c.requires.next c.cut_at-keep.ensures.inside))

use Rattle.std.proofs.Common.{◌++◌, take, sym, ◌∙◌}
use Rattle.hc_log.proofs.CheckedEntries.{may_follow-passed, may_follow-within}
use Rattle.hc_log.proofs.checks.may_follow.Goals as goal

pub returns : goal.returns
returns c =
    let log = take c.args.keep c.args.log.now ++ c.args.before.now in
    let stored = c.is_stored.ensures.0 c.if-not-is_stored.false in
    let new = sym c.asks_again.ensures ∙ c.if-asks_again.false in (
      (λ t. may_follow-passed log c.args.s.now c.args.totals c.with.result c.requires.totals c.with.ensures stored c.if-s-totals.false new (c.is_within_limits.ensures.0 t)),
      (λ may. c.is_within_limits.ensures.1 (may_follow-within log c.args.s.now c.args.totals c.with.result c.requires.totals c.with.ensures may)),
    )

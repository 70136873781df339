use Rattle.std.proofs.Common.{◌≡◌, ◌+◌, ◌-◌, ◌<◌, ◌∙◌, ◌++◌, ◌∷◌, [], length, take, drop, get_or, ap, sym, arith, length-drop}
use Rattle.hc_log.specs.Log.{blank_of}
use Rattle.hc_log.proofs.Kept.{after_more}
use Rattle.hc_log.proofs.log.Log.entries_after.Goals as goal

pub entries-preserved : goal.entries-preserved
entries-preserved c =
    let log = c.args.self.now in
    let keep = c.args.keep in
    let n = c.entries.n in
    let within : n < length (drop keep log) = omega (arith, c.last.ensures.index, c.entries-test.true, length-drop keep log) in
    let place : keep + n + 1 - 1 ≡ keep + n = omega arith in
    c.in_ok-push.ensures.items
    ∙ ap (λ copies. copies ++ c.in_ok-copy_at.field-0 ∷ []) c.entries.invariant
    ∙ ap (λ s. take n (drop keep log) ++ s ∷ []) (c.in_ok-copy_at.ensures ∙ ap (λ i. get_or log i (blank_of 0)) place)
    ∙ sym (after_more log keep n (blank_of 0) within)

use Rattle.std.proofs.Common.{◌≡◌, ◌+◌, ◌-◌, ◌<◌, ◌∙◌, ◌++◌, ◌∷◌, [], min, length, take, drop, ap, sym, arith, length-drop}
use Rattle.hc_log.specs.Log.{metas_of}
use Rattle.hc_log.proofs.Logs.{IsLog-limits, metas_of-slice, metas_of-more}
use Rattle.hc_log.proofs.log.Log.slice.Goals as goal

pub overflow_add-last : goal.overflow_add-last
overflow_add-last c =
    let limits = IsLog-limits c.args.self.now c.last.ensures.holds in
    omega (arith, limits.entries, c.last.ensures.index)

pub entries-preserved : goal.entries-preserved
entries-preserved c =
    let log = c.args.self.now in
    let within : c.args.from - 1 + c.entries.n < length log = omega (arith, c.min-count.ensures, c.last.ensures.index, c.requires.first, c.entries-test.true) in
    c.in_ok-push.ensures.items
    ∙ ap (λ metas. metas ++ c.entry.result ∷ []) c.entries.invariant
    ∙ ap (λ e. metas_of (take c.entries.n (drop (c.args.from - 1) log)) ++ e ∷ []) c.entry.ensures
    ∙ sym (metas_of-more log c.args.from c.entries.n c.requires.first within)

pub returns : goal.returns
returns c =
    let log = c.args.self.now in
    let rest = drop (c.args.from - 1) log in
    let count : c.entries.n ≡ min (length rest) c.args.most =
    omega (arith, c.min-count.ensures, c.from.ensures, c.last.ensures.index, c.requires.first, c.requires.last, length-drop (c.args.from - 1) log) in
    c.from_vec.ensures ∙ c.entries.invariant ∙ ap (λ n. metas_of (take n rest)) count ∙ metas_of-slice log (c.args.from - 1) c.args.most

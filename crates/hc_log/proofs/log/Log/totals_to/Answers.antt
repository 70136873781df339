use Rattle.std.proofs.Common.{◌≡◌, ◌+◌, ◌-◌, ◌∙◌, length, take, ap, sym, arith}
use Rattle.hc_log.specs.Runs.{term_in}
use Rattle.hc_log.specs.Totals.{totals_of}
use Rattle.hc_log.proofs.Counting.{CanTake, can_take_last, totals_of_less}
use Rattle.hc_log.proofs.Formed.{last_term-first}
use Rattle.hc_log.proofs.Rows.{within_rows, first_rows}
use Rattle.hc_log.proofs.log.Log.totals_to.Goals as goal

pub index-requires : goal.index-requires
index-requires c =
    let within = within_rows c.self.inside.runs.items c.self.inside.rows.items c.args.self.now (c.last-last.result - c.entries.n) c.self.view_is (omega (arith, c.last-last.ensures.index)) in
    omega (arith, within, c.entries-test.true)

-- the last of the entries that are still counted can be taken
taken : (c : goal.After-term_at) → CanTake c.entries.totals c.index.result.now
taken c =
    let log = c.args.self.now in
    let before = c.last-last.result - c.entries.n - 1 in
    let split = first_rows c.self.inside.runs.items c.self.inside.rows.items log (length log - c.entries.n) before c.index.result.now c.self.view_is
    (omega (arith, c.last-last.ensures.index, c.entries-test.true)) (omega (arith, c.last-last.ensures.index)) c.index.ensures in
    can_take_last (take before log) c.index.result.now c.entries.totals (term_in c.self.inside.runs.items (before + 1)) (c.entries.invariant ∙ ap totals_of split)

pub without-totals-requires-clause-requests : goal.without-totals-requires-clause-requests
without-totals-requires-clause-requests c = (taken c).requests

pub without-totals-requires-clause-body_bytes : goal.without-totals-requires-clause-body_bytes
without-totals-requires-clause-body_bytes c = (taken c).body_bytes

pub entries-preserved : goal.entries-preserved
entries-preserved c =
    let log = c.args.self.now in
    let before = c.last-last.result - c.entries.n - 1 in
    let split = first_rows c.self.inside.runs.items c.self.inside.rows.items log (length log - c.entries.n) before c.index.result.now c.self.view_is
    (omega (arith, c.last-last.ensures.index, c.entries-test.true)) (omega (arith, c.last-last.ensures.index)) c.index.ensures in
    let last = c.term_at.ensures ∙ sym (last_term-first log before (omega (arith, c.last-last.ensures.index))) in
    let left : before ≡ length log - (c.entries.n + 1) = omega (arith, c.last-last.ensures.index) in
    c.without-totals.ensures
    ∙ totals_of_less (take before log) c.index.result.now c.entries.totals (term_in c.self.inside.runs.items (before + 1)) c.term_at.result (c.entries.invariant ∙ ap totals_of split) last
    ∙ ap (λ n. totals_of (take n log)) left

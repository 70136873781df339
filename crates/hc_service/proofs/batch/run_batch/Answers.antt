use Rattle.std.proofs.Common.{◌-◌, ◌≤◌, sym, subst, ◌∙◌, arith}
use Rattle.hc_log.proofs.Logs.{IsLog-limits}
use Rattle.hc_service.specs.Batch.{entries_between, run_all}
use Rattle.hc_service.specs.Laws.{HasRun}
use Rattle.hc_service.proofs.Counts.{requests_of-front}
use Rattle.hc_service.proofs.Running.{batches_run, counts-more, leads-end, leads-more}
use Rattle.hc_service.proofs.batch.run_batch.Goals as goal

pub overflow_add-index-end : goal.overflow_add-index-end
overflow_add-index-end g c = let limits = IsLog-limits c.args.log.now c.last-last.ensures.holds in omega (arith, limits.entries)

pub run_one-requires-clause-writes : goal.run_one-requires-clause-writes
run_one-requires-clause-writes g c = λ κs lives.
    let limits = IsLog-limits c.args.log.now c.last-last.ensures.holds in
    let front = requests_of-front (c.entries.index - 1) c.args.log.now in
    omega (arith, limits.requests, front, c.entries.invariant.counts.writes, c.requires.counts.writes)

pub run_one-requires-clause-reads : goal.run_one-requires-clause-reads
run_one-requires-clause-reads g c = λ κs lives.
    let limits = IsLog-limits c.args.log.now c.last-last.ensures.holds in
    let front = requests_of-front (c.entries.index - 1) c.args.log.now in
    omega (arith, limits.requests, front, c.entries.invariant.counts.reads, c.requires.counts.reads)

pub entries-preserved : goal.entries-preserved
entries-preserved g c =
    let log = c.args.log.now in
    let index = c.entries.index in
    let state = g.V.Service.state in
    let whole = run_all c.args.me c.args.from (entries_between log c.args.from c.args.to) (state c.args.service.now) in
    let did = c.in_ok-run_one.ensures in
    let some : 1 ≤ index = omega arith in
    let inside : index ≤ c.args.to = omega arith in
    record {
      counts = counts-more c.args.me index log (state c.args.service.now) (state c.entries.service) (state c.run_one.new.service) some (omega arith) did.service c.entries.invariant.counts;
      leads = leads-more c.args.me index c.args.to log (state c.entries.service) (state c.run_one.new.service) c.entries.answers.items c.run_one.new.answers.items whole some inside c.requires.last did.service did.answers c.entries.invariant.leads;
    }

pub returns-clause-service : goal.returns-clause-service
returns-clause-service g c =
    let log = c.args.log.now in
    let state = g.V.Service.state in
    let whole = run_all c.args.me c.args.from (entries_between log c.args.from c.args.to) (state c.args.service.now) in
    (leads-end c.args.me c.entries.index c.args.to log (state c.entries.service) c.entries.answers.items whole (omega arith) c.entries.invariant.leads).0

pub returns-clause-answers : goal.returns-clause-answers
returns-clause-answers g c =
    let log = c.args.log.now in
    let state = g.V.Service.state in
    let whole = run_all c.args.me c.args.from (entries_between log c.args.from c.args.to) (state c.args.service.now) in
    c.from_vec.ensures ∙ (leads-end c.args.me c.entries.index c.args.to log (state c.entries.service) c.entries.answers.items whole (omega arith) c.entries.invariant.leads).1

pub returns-clause-counted : goal.returns-clause-counted
returns-clause-counted g c =
    let log = c.args.log.now in
    let state = g.V.Service.state in
    let entries = entries_between log c.args.from c.args.to in
    let whole = run_all c.args.me c.args.from entries (state c.args.service.now) in
    let ends = (leads-end c.args.me c.entries.index c.args.to log (state c.entries.service) c.entries.answers.items whole (omega arith) c.entries.invariant.leads).0 in
    subst (HasRun c.args.me entries (state c.args.service.now)) (sym ends) (batches_run c.args.me c.args.from entries (state c.args.service.now))

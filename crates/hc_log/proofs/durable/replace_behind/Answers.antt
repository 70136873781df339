use Rattle.hc_log.proofs.Logs.{partway-IsLog, partway-terms}
use Rattle.hc_log.proofs.durable.replace_behind.Goals as goal

pub returns-in_err-duplicate-clause-is_log : goal.returns-in_err-duplicate-clause-is_log
returns-in_err-duplicate-clause-is_log c =
    rw c.entries.invariant (partway-IsLog c.args.log.now c.args.entries.now c.args.keep c.entries.s-index c.requires.is_log c.requires.entries)

pub returns-in_err-duplicate-clause-terms : goal.returns-in_err-duplicate-clause-terms
returns-in_err-duplicate-clause-terms c =
    λ t old new. rw c.entries.invariant (partway-terms t c.args.log.now c.args.entries.now c.args.keep c.entries.s-index old new)

pub returns-in_err-append-clause-is_log : goal.returns-in_err-append-clause-is_log
returns-in_err-append-clause-is_log c =
    rw (c.in_err-append.ensures.err, c.entries.invariant) (partway-IsLog c.args.log.now c.args.entries.now c.args.keep c.entries.s-index c.requires.is_log c.requires.entries)

pub returns-in_err-append-clause-terms : goal.returns-in_err-append-clause-terms
returns-in_err-append-clause-terms c =
    λ t old new. rw (c.in_err-append.ensures.err, c.entries.invariant) (partway-terms t c.args.log.now c.args.entries.now c.args.keep c.entries.s-index old new)

pub returns-clause-is_log : goal.returns-clause-is_log
returns-clause-is_log c =
    rw c.entries.invariant (partway-IsLog c.args.log.now c.args.entries.now c.args.keep c.entries.s-index c.requires.is_log c.requires.entries)

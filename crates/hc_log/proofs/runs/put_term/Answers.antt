use Rattle.std.proofs.Common.{◌∙◌, ap, arith}
use Rattle.hc_log.specs.declared.runs.Run.{Run}
use Rattle.hc_log.specs.Runs.{term_in}
use Rattle.hc_log.proofs.Terms.{term_in_push-there, term_in_push-before}
use Rattle.hc_log.proofs.runs.put_term.Goals as goal

pub returns-clause-there : goal.returns-clause-there
returns-clause-there c =
    let run : Run = record { first = c.args.index; term = c.args.term } in
    ap (λ rs. term_in rs c.args.index) c.push_reserved.ensures.items ∙ term_in_push-there c.args.runs.now.items run c.args.index (omega arith)

pub returns-clause-before : goal.returns-clause-before
returns-clause-before c =
    let run : Run = record { first = c.args.index; term = c.args.term } in
    λ i h. ap (λ rs. term_in rs i) c.push_reserved.ensures.items ∙ term_in_push-before c.args.runs.now.items run i h

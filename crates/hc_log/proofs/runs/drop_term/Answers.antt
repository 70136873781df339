use Rattle.std.proofs.Common.{sym, arith}
use Rattle.std.specs.Vec.{vec_len}
use Rattle.std.proofs.lemmas.Bool.{ltb-true}
use Rattle.hc_log.proofs.Terms.{dropped_before}
use Rattle.hc_log.proofs.runs.drop_term.Goals as goal

pub returns-then-run-index-clause-before : goal.returns-then-run-index-clause-before
returns-then-run-index-clause-before c =
    dropped_before c.args.runs.now.items c.deref.result.now c.pop.new.self.items c.in-Some.run'.now c.args.index (vec_len c.args.runs.now) c.deref.ensures.value
    (ltb-true _ _ (sym c.in-Some.ensures.item.0)) c.in-Some.ensures.item.1 c.if-run-index.true c.requires (omega arith) c.pop.ensures.rest

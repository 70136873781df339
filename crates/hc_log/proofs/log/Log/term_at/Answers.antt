use Rattle.std.proofs.Common.{◌∙◌, ap, sym}
use Rattle.hc_log.specs.Runs.{term_in}
use Rattle.hc_log.proofs.Rows.{read_term}
use Rattle.hc_log.proofs.log.Log.term_at.Goals as goal

pub returns : goal.returns
returns c =
    c.term_in.ensures ∙ ap (λ rs. term_in rs c.args.index) c.as_slice.ensures.value
    ∙ sym (read_term c.self.inside.runs.items c.self.inside.rows.items c.args.self.now c.args.index _ c.self.view_is c.self.invariant.ascend c.requires)

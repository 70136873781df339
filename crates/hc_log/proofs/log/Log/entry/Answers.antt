use Rattle.std.proofs.Common.{◌∙◌, ap, sym, arith}
use Rattle.hc_log.specs.declared.stored.Stored.{Stored}
use Rattle.hc_log.specs.Rows.{stored_of}
use Rattle.hc_log.proofs.Rows.{read_row, read_term, within_rows}
use Rattle.hc_log.proofs.log.Log.entry.Goals as goal

pub index-requires : goal.index-requires
index-requires c =
    let within = within_rows c.self.inside.runs.items c.self.inside.rows.items c.args.self.now c.args.index c.self.view_is c.requires.last in
    omega (arith, within)

pub returns : goal.returns
returns c =
    let runs = c.self.inside.runs.items in
    let rows = c.self.inside.rows.items in
    let log = c.args.self.now in
    let row = c.index.result.now in
    let term = c.term_at.ensures ∙ read_term runs rows log c.args.index _ c.self.view_is c.self.invariant.ascend c.requires.last in
    c.entry.ensures ∙ ap (λ t. (stored_of t row).entry) term
    ∙ sym (ap (λ (s : Stored). s.entry) (read_row runs rows log c.args.index row c.self.view_is c.requires.first c.requires.last c.index.ensures))

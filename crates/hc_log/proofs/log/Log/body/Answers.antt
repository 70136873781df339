use Rattle.std.proofs.Common.{ap, sym, arith}
use Rattle.hc_log.specs.declared.stored.Stored.{Stored}
use Rattle.hc_log.proofs.Rows.{read_row, within_rows}
use Rattle.hc_log.proofs.log.Log.body.Goals as goal

pub index-requires : goal.index-requires
index-requires c =
    let within = within_rows c.self.inside.runs.items c.self.inside.rows.items c.args.self.now c.args.index c.self.view_is c.requires.last in
    omega (arith, within)

pub returns : goal.returns
returns c =
    sym (ap (λ (s : Stored). s.body) (read_row c.self.inside.runs.items c.self.inside.rows.items c.args.self.now c.args.index c.index.result.now c.self.view_is c.requires.first c.requires.last c.index.ensures))

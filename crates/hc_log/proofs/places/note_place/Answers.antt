use Rattle.std.proofs.Common.{Some, Ok, Err, ◌∙◌, sym}
use Rattle.std.specs.Prelude.{Result, OnErr}
use Rattle.hc_log.proofs.Standing.{told-changed, told-unchanged}
use Rattle.hc_log.proofs.places.note_place.Goals as goal

on_err : {T E : Type 0} (P : Type 0) (r : Result T E) → P → OnErr r P
on_err P (Ok x) p = tt
on_err P (Err e) p = p

pub returns-in_err-insert-clause-err : goal.returns-in_err-insert-clause-err
returns-in_err-insert-clause-err c =
    on_err _ c.from_residual.result (told-unchanged c.args.places.now c.insert.new.self c.in_err-insert.ensures.err)

pub returns-clause-ok : goal.returns-clause-ok
returns-clause-ok c =
    told-changed c.args.places.now c.insert.new.self c.args.s.now (Some c.args.index) (sym c.is_request.ensures ∙ c.if-not-is_request.false) c.in_ok-insert.ensures.updates.0

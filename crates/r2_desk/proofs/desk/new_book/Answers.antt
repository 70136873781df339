use Rattle.std.proofs.Common.{List, subst, sym}
use Rattle.r2_desk.specs.declared.step.Step.{Step}
use Rattle.r2_desk.specs.Trails.{IsBook}
use Rattle.r2_desk.proofs.Beginnings as beginnings
use Rattle.r2_desk.proofs.desk.new_book.Goals as goal

pub invariant_of-result : goal.invariant_of-result
invariant_of-result g c =
    subst (λ (steps : List Step). IsBook (record { router = c.args.router; turns = 0; trail = steps }) g.row.TRAIL c.args.books) (sym c.new.ensures)
    (beginnings.new_book c.args.router g.row.TRAIL c.args.books c.requires.new c.requires.counted)

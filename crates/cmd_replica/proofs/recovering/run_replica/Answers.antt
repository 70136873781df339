use Rattle.std.proofs.Common.{inl, inr}
use Rattle.cmd_loop.proofs.Passing.{Passes-nothing}
use Rattle.cmd_replica.proofs.Refusals.{unrecovered}
use Rattle.cmd_replica.proofs.recovering.run_replica.Goals as goal

-- the file wasn't selected
pub returns-in-Err-clause-ran : goal.returns-in-Err-clause-ran
returns-in-Err-clause-ran g c o = inl (inl c.in-Err.ensures.told, Passes-nothing _)

pub returns-in-Ok-clause-ran : goal.returns-in-Ok-clause-ran
returns-in-Ok-clause-ran g c o =
    inr (record { selected = g.D.Disk.told c.select.new.self; selects = c.in_default.ensures.told; is = c.in-Ok.ensures.served o })

-- its journal wasn't recovered
pub returns-in-Err-serve_selected-clause-ran : goal.returns-in-Err-serve_selected-clause-ran
returns-in-Err-serve_selected-clause-ran g c o =
    inl (
      rw c.refusal.ensures
          (unrecovered c.args.journal.now (g.D.Disk.told c.args.disk.now) (g.D.Disk.told c.select.new.self) (g.D.Disk.told c.serve_selected.new.disk)
          c.in-Err-serve_selected.fault c.in_default.ensures.told c.in-Err-serve_selected.ensures.refused),
      rw c.in-Err-serve_selected.ensures.unbound (rw c.in-Err-serve_selected.ensures.unasked (Passes-nothing _)),
    )

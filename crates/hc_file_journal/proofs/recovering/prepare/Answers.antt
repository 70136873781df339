-- The sync, and what was done then.
use Rattle.std.proofs.Common.{arith, subst}
use Rattle.hc_file_journal.specs.RowReading.{EndsRow}
use Rattle.hc_file_journal.proofs.Prepared as prepared
use Rattle.hc_file_journal.proofs.recovering.prepare.Goals as goal
use Rattle.hc_file_journal.proofs.recovering.prepare.Goals.{in-Ok-start_anew, in-Err-start_anew}

pub returns-in-Err-read_all-clause-any_moment : goal.returns-in-Err-read_all-clause-any_moment
returns-in-Err-read_all-clause-any_moment g c = prepared.was_all (g.D.Disk.told c.args.disk.now) (g.D.Disk.told c.read_all.new.disk) (prepared.synced_then (g.D.Disk.told c.args.disk.now) _ (g.D.Disk.told c.read_all.new.disk) c.in_default.ensures.told c.in-Err-read_all.ensures.told)

pub returns-then-len-le1-clause-found : goal.returns-then-len-le1-clause-found
returns-then-len-le1-clause-found g c = elim c.match-start_anew.branch [
  | in-Ok-start_anew w ↦
      rw (w.result-is) (prepared.found_none (g.D.Disk.told c.args.disk.now) (g.D.Disk.told c.read_all.new.disk) c.in-Ok.bytes.items (prepared.synced_then (g.D.Disk.told c.args.disk.now) _ (g.D.Disk.told c.read_all.new.disk) c.in_default.ensures.told c.in-Ok.ensures.told) (prepared.read_then _ (g.D.Disk.told c.read_all.new.disk) c.in-Ok.bytes.items c.in-Ok.ensures.bytes c.in-Ok.ensures.told) _ _ (omega (arith, c.if-len-le1.true, c.len.ensures)) w.begin.ensures.state w.in-Ok-start_anew.ensures.recovers)
  | in-Err-start_anew w ↦ rw (w.result-is) tt
]

pub returns-then-len-le1-clause-any_moment : goal.returns-then-len-le1-clause-any_moment
returns-then-len-le1-clause-any_moment g c = prepared.then_same (g.D.Disk.told c.args.disk.now) (g.D.Disk.told c.read_all.new.disk) _ (prepared.synced_then (g.D.Disk.told c.args.disk.now) _ (g.D.Disk.told c.read_all.new.disk) c.in_default.ensures.told c.in-Ok.ensures.told) c.start_anew.ensures.any_moment

pub cut_to-requires-clause-ends : goal.cut_to-requires-clause-ends
cut_to-requires-clause-ends g c = prepared.ends_at (g.D.Disk.told c.args.disk.now) (g.D.Disk.told c.read_all.new.disk) c.in-Ok.bytes.items (prepared.synced_then (g.D.Disk.told c.args.disk.now) _ (g.D.Disk.told c.read_all.new.disk) c.in_default.ensures.told c.in-Ok.ensures.told) (prepared.read_then _ (g.D.Disk.told c.read_all.new.disk) c.in-Ok.bytes.items c.in-Ok.ensures.bytes c.in-Ok.ensures.told) c.in-Ok-read_row.end c.in-Ok-read_row.durable.state (subst (EndsRow c.in-Ok-read_row.end c.in-Ok-read_row.durable.state) c.deref.ensures.value c.in-Ok-read_row.ensures.found)

pub returns-in-Ok-cut_to-clause-found : goal.returns-in-Ok-cut_to-clause-found
returns-in-Ok-cut_to-clause-found g c = prepared.found (g.D.Disk.told c.args.disk.now) (g.D.Disk.told c.read_all.new.disk) c.in-Ok.bytes.items (prepared.synced_then (g.D.Disk.told c.args.disk.now) _ (g.D.Disk.told c.read_all.new.disk) c.in_default.ensures.told c.in-Ok.ensures.told) (prepared.read_then _ (g.D.Disk.told c.read_all.new.disk) c.in-Ok.bytes.items c.in-Ok.ensures.bytes c.in-Ok.ensures.told) _ c.in-Ok-read_row.end c.in-Ok-read_row.durable.state (subst (EndsRow c.in-Ok-read_row.end c.in-Ok-read_row.durable.state) c.deref.ensures.value c.in-Ok-read_row.ensures.found) c.in-Ok-cut_to.ensures.recovers

pub returns-in-Ok-cut_to-clause-any_moment : goal.returns-in-Ok-cut_to-clause-any_moment
returns-in-Ok-cut_to-clause-any_moment g c = prepared.then_same (g.D.Disk.told c.args.disk.now) (g.D.Disk.told c.read_all.new.disk) _ (prepared.synced_then (g.D.Disk.told c.args.disk.now) _ (g.D.Disk.told c.read_all.new.disk) c.in_default.ensures.told c.in-Ok.ensures.told) c.cut_to.ensures.any_moment

pub returns-in-Ok-read_row-clause-any_moment : goal.returns-in-Ok-read_row-clause-any_moment
returns-in-Ok-read_row-clause-any_moment g c = prepared.then_same (g.D.Disk.told c.args.disk.now) (g.D.Disk.told c.read_all.new.disk) _ (prepared.synced_then (g.D.Disk.told c.args.disk.now) _ (g.D.Disk.told c.read_all.new.disk) c.in_default.ensures.told c.in-Ok.ensures.told) c.cut_to.ensures.any_moment

pub returns-clause-any_moment : goal.returns-clause-any_moment
returns-clause-any_moment g c = prepared.was_all (g.D.Disk.told c.args.disk.now) (g.D.Disk.told c.read_all.new.disk) (prepared.synced_then (g.D.Disk.told c.args.disk.now) _ (g.D.Disk.told c.read_all.new.disk) c.in_default.ensures.told c.in-Ok.ensures.told)

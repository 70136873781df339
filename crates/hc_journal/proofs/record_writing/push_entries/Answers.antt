use Rattle.std.proofs.Common.{arith, subst}
use Rattle.std.proofs.lemmas.Grind.{common_steps}
use Rattle.r2_base.specs.Names.{FitsRid}
use Rattle.hc_log.specs.declared.stored.Stored.{Stored}
use Rattle.hc_journal.proofs.RecordLoop.{fits_more}
use Rattle.hc_journal.proofs.record_writing.push_entries.Goals as goal

pub entries-preserved : goal.entries-preserved
entries-preserved c = record {
  written = grind (arith, common_steps);
  fits = fits_more c.args.entries.now c.entries.stored-index c.stored-item.result c.entries-test.true c.entries.invariant.fits (subst (λ (s : Stored). FitsRid s.entry.rid) c.stored-item.is c.in_ok-push_stored.ensures.fits);
}

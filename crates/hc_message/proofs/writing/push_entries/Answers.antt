use Rattle.std.proofs.Common.{arith}
use Rattle.std.proofs.lemmas.Grind.{common_steps}
use Rattle.hc_message.proofs.EntriesFit.{fits_more}
use Rattle.hc_message.proofs.writing.push_entries.Goals as goal

pub entries-preserved : goal.entries-preserved
entries-preserved c = record {
  written = grind (arith, common_steps);
  fits = fits_more c.args.entries.now c.entries.entry-index _ c.entries-test.true c.entries.invariant.fits c.in_ok-push_entry.ensures.fits;
}

use Rattle.hc_journal.proofs.RecordPrefixes.{range_stays}
use Rattle.hc_journal.proofs.record_laws.range_stays.Goals as goal

pub returns : goal.returns
returns c = range_stays

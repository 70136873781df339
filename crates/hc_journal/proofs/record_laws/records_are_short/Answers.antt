use Rattle.hc_journal.proofs.RecordLaws.{records_are_short}
use Rattle.hc_journal.proofs.record_laws.records_are_short.Goals as goal

pub returns : goal.returns
returns c = records_are_short

use Rattle.hc_journal.proofs.RecordLaws.{spelling_is_read}
use Rattle.hc_journal.proofs.record_laws.a_spelling_is_read.Goals as goal

pub returns : goal.returns
returns c = spelling_is_read

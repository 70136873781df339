use Rattle.hc_journal.proofs.RecordLaws.{what_is_read_is_spelled}
use Rattle.hc_journal.proofs.record_laws.what_is_read_is_spelled.Goals as goal

pub returns : goal.returns
returns c = what_is_read_is_spelled

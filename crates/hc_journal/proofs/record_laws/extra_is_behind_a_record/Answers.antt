use Rattle.hc_journal.proofs.RecordLaws.{extra_is_behind_a_record}
use Rattle.hc_journal.proofs.record_laws.extra_is_behind_a_record.Goals as goal

pub returns : goal.returns
returns c = extra_is_behind_a_record

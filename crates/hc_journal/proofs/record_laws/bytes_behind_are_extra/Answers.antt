use Rattle.hc_journal.proofs.RecordLaws.{bytes_behind_are_extra}
use Rattle.hc_journal.proofs.record_laws.bytes_behind_are_extra.Goals as goal

pub returns : goal.returns
returns c = bytes_behind_are_extra

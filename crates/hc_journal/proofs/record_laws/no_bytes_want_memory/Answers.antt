use Rattle.hc_journal.proofs.RecordLaws.{no_bytes_want_memory}
use Rattle.hc_journal.proofs.record_laws.no_bytes_want_memory.Goals as goal

pub returns : goal.returns
returns c = no_bytes_want_memory

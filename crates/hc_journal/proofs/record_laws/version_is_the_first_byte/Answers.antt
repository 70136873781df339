use Rattle.hc_journal.proofs.RecordPrefixes.{version_is_the_first_byte}
use Rattle.hc_journal.proofs.record_laws.version_is_the_first_byte.Goals as goal

pub returns : goal.returns
returns c = version_is_the_first_byte

use Rattle.hc_journal.proofs.RecordPrefixes.{prefixes_are_short}
use Rattle.hc_journal.proofs.record_laws.prefixes_are_short.Goals as goal

pub returns : goal.returns
returns c = prefixes_are_short

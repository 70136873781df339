use Rattle.hc_file_journal.proofs.Crashes.{a_crash_is_recovered as lemma}
use Rattle.hc_file_journal.proofs.laws.a_crash_is_recovered.Goals as goal

pub returns : goal.returns
returns c = lemma

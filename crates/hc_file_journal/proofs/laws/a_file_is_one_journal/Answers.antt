use Rattle.hc_file_journal.proofs.Rows.{one_journal as lemma}
use Rattle.hc_file_journal.proofs.laws.a_file_is_one_journal.Goals as goal

pub returns : goal.returns
returns c = lemma

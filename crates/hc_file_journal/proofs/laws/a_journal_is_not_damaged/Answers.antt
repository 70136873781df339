use Rattle.hc_file_journal.proofs.Rows.{not_damaged as lemma}
use Rattle.hc_file_journal.proofs.laws.a_journal_is_not_damaged.Goals as goal

pub returns : goal.returns
returns c = lemma

use Rattle.hc_text.proofs.Worked.{some_words_are_taken}
use Rattle.hc_text.proofs.laws.some_words_are_taken.Goals as goal

pub returns : goal.returns
returns c = some_words_are_taken

use Rattle.hc_text.proofs.Worked.{some_words_mean_nothing}
use Rattle.hc_text.proofs.laws.some_words_mean_nothing.Goals as goal

pub returns : goal.returns
returns c = some_words_mean_nothing

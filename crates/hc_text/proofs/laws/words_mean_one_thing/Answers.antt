use Rattle.hc_text.proofs.OneMeaning.{words_mean_one_thing}
use Rattle.hc_text.proofs.laws.words_mean_one_thing.Goals as goal

pub returns : goal.returns
returns c = words_mean_one_thing

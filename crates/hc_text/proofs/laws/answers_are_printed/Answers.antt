use Rattle.hc_text.proofs.Worked.{answers_are_printed}
use Rattle.hc_text.proofs.laws.answers_are_printed.Goals as goal

pub returns : goal.returns
returns c = answers_are_printed

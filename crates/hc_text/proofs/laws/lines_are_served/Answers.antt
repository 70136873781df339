use Rattle.hc_text.proofs.Worked.{lines_are_served}
use Rattle.hc_text.proofs.laws.lines_are_served.Goals as goal

pub returns : goal.returns
returns c = lines_are_served

use Rattle.r2_server.proofs.Ages.{requests_age_right}
use Rattle.r2_server.proofs.laws.requests_age_right.Goals as goal

pub returns : goal.returns
returns c = requests_age_right

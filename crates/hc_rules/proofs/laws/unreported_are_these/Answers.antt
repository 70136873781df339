use Rattle.hc_rules.proofs.Unreported.{unreported_are}
use Rattle.hc_rules.proofs.laws.unreported_are_these.Goals as goal

pub returns : goal.returns
returns c = unreported_are

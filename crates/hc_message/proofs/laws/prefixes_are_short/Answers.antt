use Rattle.hc_message.proofs.Prefixes.{prefixes_are_short}
use Rattle.hc_message.proofs.laws.prefixes_are_short.Goals as goal

pub returns : goal.returns
returns c = prefixes_are_short

use Rattle.r2_client.proofs.OtherParts.{no_others}
use Rattle.r2_client.proofs.laws.one_part_has_no_others.Goals as goal

pub returns : goal.returns
returns c = no_others

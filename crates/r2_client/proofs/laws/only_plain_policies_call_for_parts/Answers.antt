use Rattle.r2_client.proofs.OtherParts.{only_plain}
use Rattle.r2_client.proofs.laws.only_plain_policies_call_for_parts.Goals as goal

pub returns : goal.returns
returns c = only_plain

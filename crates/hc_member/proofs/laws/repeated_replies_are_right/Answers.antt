use Rattle.hc_member.proofs.Answers.{repeated_replies_are_right}
use Rattle.hc_member.proofs.laws.repeated_replies_are_right.Goals as goal

pub returns : goal.returns
returns c = repeated_replies_are_right

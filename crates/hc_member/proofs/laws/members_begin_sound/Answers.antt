use Rattle.hc_member.proofs.Begun.{sound-anew}
use Rattle.hc_member.proofs.laws.members_begin_sound.Goals as goal

pub returns : goal.returns
returns c = sound-anew

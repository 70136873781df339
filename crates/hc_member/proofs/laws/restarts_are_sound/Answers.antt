use Rattle.hc_member.proofs.Begun.{sound-restarted}
use Rattle.hc_member.proofs.laws.restarts_are_sound.Goals as goal

pub returns : goal.returns
returns c = sound-restarted

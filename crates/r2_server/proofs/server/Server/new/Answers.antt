use Rattle.r2_server.proofs.Sound.{begin_sound}
use Rattle.r2_server.proofs.server.Server.new.Goals as goal

pub invariant_of-result : goal.invariant_of-result
invariant_of-result g c = rw c.in_ok-live.ensures (begin_sound _ _)

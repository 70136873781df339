use Rattle.std.proofs.Common.{length}
use Rattle.r2_desk.proofs.sameness.+same_datagrams.Given as goal

abbrev pub decreases-same_datagrams : goal.decreases-same_datagrams
decreases-same_datagrams l = length l.a.now

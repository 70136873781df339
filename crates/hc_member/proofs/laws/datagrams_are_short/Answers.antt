use Rattle.hc_member.proofs.Datagrams.{datagrams_are_short}
use Rattle.hc_member.proofs.laws.datagrams_are_short.Goals as goal

pub returns : goal.returns
returns c = datagrams_are_short

use Rattle.hc_packet.proofs.Packets.{packets_are_short}
use Rattle.hc_packet.proofs.laws.packets_are_short.Goals as goal

pub returns : goal.returns
returns c = packets_are_short

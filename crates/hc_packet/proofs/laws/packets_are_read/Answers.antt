use Rattle.hc_packet.proofs.Packets.{packets_are_read}
use Rattle.hc_packet.proofs.laws.packets_are_read.Goals as goal

pub returns : goal.returns
returns c = packets_are_read

use Rattle.hc_packet.proofs.Packets.{what_is_read_is_a_packet}
use Rattle.hc_packet.proofs.laws.what_is_read_is_a_packet.Goals as goal

pub returns : goal.returns
returns c = what_is_read_is_a_packet

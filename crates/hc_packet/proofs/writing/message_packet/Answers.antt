use Rattle.std.proofs.Common.{◌≡◌, Some, List, ℕ, rules, subst, sym}
use Rattle.hc_packet.specs.Packet.{message_in, message_packet}
use Rattle.hc_packet.proofs.Packets.{packet_read}
use Rattle.hc_packet.proofs.writing.message_packet.Goals as goal

pub returns-clause-read_back : goal.returns-clause-read_back
returns-clause-read_back c =
    let same : c.from_vec.result ≡ message_packet c.args.message.now = search rules in
    let payload = c.in_ok-payload.ensures in
    subst (λ (bytes : List ℕ). message_in bytes ≡ Some c.args.message.now) (sym same)
    (packet_read c.args.message.now (rw payload.written at payload.read_back))

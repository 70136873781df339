use Rattle.std.proofs.Common.{◌≡◌, Err, sym, ap, ◌∙◌, arith}
use Rattle.std.proofs.lemmas.List.{take_rest}
use Rattle.r2_header.specs.declared.packet.Packet.TheVariants.{Ordering}
use Rattle.hc_message.specs.declared.msg_fault.MsgFault.{MsgFault}
use Rattle.hc_packet.proofs.Packets.{none_carried}
use Rattle.hc_packet.proofs.reading.message_in.Goals as goal

pub returns-in-Err-Memory-clause-free : goal.returns-in-Err-Memory-clause-free
returns-in-Err-Memory-clause-free c = λ none.
    let bytes = c.args.bytes.now in
    let is : c.in-Ok.header.packet ≡ Ordering = grind arith in
    let free = rw (take_rest bytes c.in-Ok.size) at c.read-2.ensures.free in
    absurd (none_carried bytes c.in-Ok.header c.in-Ok.size c.read-2.result (sym c.read.ensures.read ∙ c.in-Ok.is) is free
    (c.in-Err-Memory.is ∙ ap (λ (f : MsgFault). Err f) c.in-Err-Memory.field-0-is) none)

use Rattle.std.proofs.Common.{sym}
use Rattle.r2_server.proofs.Taken.{taken}
use Rattle.r2_server.proofs.live_server.LiveServer.receive.Goals as goal

pub take_part-requires-clause-part : goal.take_part-requires-clause-part
take_part-requires-clause-part g c =
    taken _ c.args.datagram.now.from c.args.datagram.now.to _ _ c.in-Ok.ensures.begun.spells.valid (sym c.in-Some.ensures.key) (sym c.if-not-is_taken.ensures)

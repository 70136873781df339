use Rattle.std.proofs.Common.{arith}
use Rattle.r2_frag.proofs.Headers.{IsValid-part_header, part_count-sendable}
use Rattle.r2_frag.proofs.datagrams.part_datagram.Goals as goal

pub part_header-requires : goal.part_header-requires
part_header-requires c =
    omega (arith, part_count-sendable c.args.spec.now c.args.body.now c.requires.sendable)

pub write-size-requires-clause-valid : goal.write-size-requires-clause-valid
write-size-requires-clause-valid c =
    rw (c.part_header.ensures, c.requires.counted) (IsValid-part_header c.args.spec.now c.args.body.now c.args.n c.requires.sendable (rw c.requires.counted at c.requires.number))

use Rattle.std.proofs.Common.{subst}
use Rattle.r2_header.specs.Laws.{FitsHeader}
use Rattle.r2_jbsq.proofs.Packets.{forwarded-request}
use Rattle.r2_jbsq.proofs.receiving.forwarded_packet.Goals as goal

pub returns-clause-request : goal.returns-clause-request
returns-clause-request c =
    let fits = subst FitsHeader c.with_client-extended.ensures.is c.with_client-extended.ensures.fits in
    forwarded-request c.args.header.now c.args.client c.args.payload.now c.requires.valid c.requires.fits fits.client c.requires.packet c.requires.policy

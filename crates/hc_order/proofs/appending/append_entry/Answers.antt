use Rattle.hc_order.proofs.Growing.{blank-follows}
use Rattle.hc_order.proofs.appending.append_entry.Goals as goal

pub append-requires : goal.append-requires
append-requires c =
    blank-follows c.args.log.now c.args.e.now c.new-body.result c.last-last.ensures.holds c.requires.entry c.requires.latest c.requires.room c.in-Blank.is c.new-body.ensures

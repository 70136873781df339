use Rattle.std.proofs.Common.{length, ap, arith}
use Rattle.hc_store.proofs.Maps.{insert_is_insert}
use Rattle.hc_store.proofs.Sizes.{size-beside, IsMeasured-insert}
use Rattle.hc_store.proofs.store.Store.set.Goals as goal

pub returns-in_default-clause-fits : goal.returns-in_default-clause-fits
returns-in_default-clause-fits c =
    let size = size-beside c.args.self.now c.bytes_beside-others.result c.args.key c.args.value.now c.bytes_beside-others.ensures in
    cc (c.in_default.ensures.fits, c.len.ensures, size)

pub invariant_of-self-2 : goal.invariant_of-self-2
invariant_of-self-2 c =
    IsMeasured-insert c.self.inside.pairs c.insert.new.self c.args.self.now c.bytes_beside-others.result c.in-Some.bytes c.args.key c.in_ok-value.value
    c.self.view_is c.bytes_beside-others.ensures c.in_ok-_before.ensures.ordered
    c.in_ok-_before.ensures.updates.0 (omega (arith, c.in-Some.ensures.bytes, c.len.ensures, ap length c.in_ok-value.ensures))

pub returns-clause-fits : goal.returns-clause-fits
returns-clause-fits c =
    let size = size-beside c.args.self.now c.bytes_beside-others.result c.args.key c.args.value.now c.bytes_beside-others.ensures in
    cc (c.in-Some.ensures.fits, c.len.ensures, size)

pub returns-clause-contents : goal.returns-clause-contents
returns-clause-contents c =
    let put = insert_is_insert c.self.inside.pairs c.insert.new.self c.args.key c.in_ok-value.value c.in_ok-_before.ensures.updates.0 in
    let view = c.self.view_is in
    let value = c.in_ok-value.ensures in
    cc (put, view, value)

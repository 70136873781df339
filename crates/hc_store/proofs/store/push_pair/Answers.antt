use Rattle.std.proofs.Common.{arith}
use Rattle.hc_store.proofs.Scans.{length-pair_bytes}
use Rattle.hc_store.proofs.store.push_pair.Goals as goal

pub returns-then-len-size-clause-fits : goal.returns-then-len-size-clause-fits
returns-then-len-size-clause-fits c =
    let size = length-pair_bytes c.args.key.now c.args.value.now in
    grind (arith, size)

pub returns-clause-fits : goal.returns-clause-fits
returns-clause-fits c =
    let size = length-pair_bytes c.args.key.now c.args.value.now in
    grind (arith, size)

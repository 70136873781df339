use Rattle.std.proofs.Common.{◌∷◌, ◌+◌, drop, take, subst}
use Rattle.cmd_loop.specs.Sending.{SendsPrefix}
use Rattle.cmd_loop.proofs.Sends.{around, prefix-begun, prefix-then}
use Rattle.cmd_loop.proofs.turning.send_all.Goals as goal

pub returns-in-Err-clause-part : goal.returns-in-Err-clause-part
returns-in-Err-clause-part g c =
    let first = g.L.Link.told c.args.link.now in
    let before = g.L.Link.told c.sends.link in
    let after = g.L.Link.told c.send.new.self in
    let xs = c.args.sends.now in
    let i = c.sends.datagram-index in
    let d = c.datagram-item.result in
    subst (SendsPrefix first after) (around xs i d c.sends-test.true c.datagram-item.is)
    (prefix-then first before after (take i xs) (d ∷ drop (i + 1) xs) c.sends.invariant.passed
    (prefix-begun before after d (drop (i + 1) xs) c.in-Err.ensures.failed))

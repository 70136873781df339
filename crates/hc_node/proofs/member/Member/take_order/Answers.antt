use Rattle.std.proofs.Common.{◌≡◌, ◌∙◌, max, ap, arith}
use Rattle.hc_order.specs.Taking.{taken_of}
use Rattle.hc_member.specs.Member.{Member}
use Rattle.hc_node.proofs.OrderRows.{applied-fits, matched-fits, taken-fits}
use Rattle.hc_node.proofs.member.Member.take_order.Goals as goal

pub acknowledge-requires-clause-matched : goal.acknowledge-requires-clause-matched
acknowledge-requires-clause-matched g c =
    let s = c.args.setup.now in
    let m : Member = c.args.self.now in
    let order = c.args.order.now in
    let most = taken-fits s m order (max m.commit m.matched) c.requires.sound c.requires.order in
    let upto : c.in_ok-taken.taken.upto ≡ (taken_of m.log m.pool order (max m.commit m.matched)).upto =
    c.in_ok-taken.ensures.upto ∙ ap (λ (x : Member). (taken_of x.log x.pool order (max x.commit x.matched)).upto) c.self.view_is in
    let matched = matched-fits s m c.requires.sound in
    let same = ap (λ (x : Member). x.matched) c.self.view_is in
    omega (arith, most, upto, matched, same)

pub acknowledge-requires-clause-applied : goal.acknowledge-requires-clause-applied
acknowledge-requires-clause-applied g c =
    let most = applied-fits c.args.setup.now c.args.self.now c.requires.sound in
    let same = ap (λ (x : Member). x.applied) c.self.view_is in
    omega (arith, most, same)

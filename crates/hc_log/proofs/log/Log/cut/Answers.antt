use Rattle.std.proofs.Common.{◌≡◌, ◌∙◌, length, reverse, arith}
use Rattle.hc_log.proofs.Kept.{parted}
use Rattle.hc_log.proofs.log.Log.cut.Goals as goal

pub pop-requires : goal.pop-requires
pop-requires c = omega (arith, c.entries.invariant.left, c.last.ensures.index)

pub push_reserved-requires : goal.push_reserved-requires
push_reserved-requires c = omega (arith, c.entries.invariant.taken, c.entries.invariant.room)

pub returns-clause-kept : goal.returns-clause-kept
returns-clause-kept c =
    let left : length c.entries.self ≡ c.args.keep = omega (arith, c.entries.invariant.left, c.last.ensures.index) in
    (parted c.args.self.now c.entries.self (reverse c.entries.others.items) c.args.keep c.entries.invariant.whole left).0

pub returns-clause-others : goal.returns-clause-others
returns-clause-others c =
    let left : length c.entries.self ≡ c.args.keep = omega (arith, c.entries.invariant.left, c.last.ensures.index) in
    c.from_vec.ensures ∙ c.reverse.ensures.items ∙ (parted c.args.self.now c.entries.self (reverse c.entries.others.items) c.args.keep c.entries.invariant.whole left).1

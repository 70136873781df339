use Rattle.std.proofs.Common.{rules, refl}
use Rattle.r2_frag.specs.Assembly.{begun, with_part}
use Rattle.r2_frag.proofs.Taken.{added-first, added-only}
use Rattle.r2_frag.proofs.assembly.add_new.Goals as goal

pub returns-then-is_one_part-clause-ok : goal.returns-then-is_one_part-clause-ok
returns-then-is_one_part-clause-ok c =
    let e = added-only c.args.messages.now.items c.args.key c.args.header.now c.args.payload.now c.requires.absent c.requires.good (search rules) in
    rw e (rw (c.from_vec-piece.ensures, c.in_ok-from_slice.ensures.items) refl)

pub returns-clause-ok : goal.returns-clause-ok
unfolding begun with_part
returns-clause-ok c =
    let e = added-first c.args.messages.now.items c.args.key c.args.header.now c.args.payload.now c.requires.valid c.requires.absent c.requires.good (search rules) in
    rw e (search rules)

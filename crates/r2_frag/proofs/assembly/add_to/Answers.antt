use Rattle.std.proofs.Common.{rules, sym}
use Rattle.r2_frag.proofs.Taken.{IsTaken, added-more, added-whole, place-inside, same_read}
use Rattle.r2_frag.proofs.assembly.add_to.Goals as goal

pub returns-in-Some-clause-ok : goal.returns-in-Some-clause-ok
returns-in-Some-clause-ok c =
    let taken : IsTaken c.args.messages.now.items c.args.key c.args.header.now c.args.payload.now c.args.place c.index-message.result.now c.and-count.result c.number_of-number.result =
    record { found = c.requires.place; good = c.requires.good; read = c.index-message.ensures; counted = search rules; numbered = c.number_of-number.ensures.number }
    in
    rw c.remove-finished.ensures.items (sym (added-whole _ _ _ _ _ _ _ _ c.in-Some.body taken (search rules)))

pub returns-clause-ok : goal.returns-clause-ok
returns-clause-ok c =
    let taken : IsTaken c.args.messages.now.items c.args.key c.args.header.now c.args.payload.now c.args.place c.index-message.result.now c.and-count.result c.number_of-number.result =
    record { found = c.requires.place; good = c.requires.good; read = c.index-message.ensures; counted = search rules; numbered = c.number_of-number.ensures.number }
    in
    let inside = place-inside c.args.key c.args.messages.now.items c.args.place c.requires.place in
    let same = same_read c.args.messages.now.items c.args.place c.index_mut-message.result.now c.index-message.result.now inside (search rules) c.index-message.ensures in
    rw (c.put_part.ensures, same, c.from_vec-piece.ensures, c.in_ok-from_slice.ensures.items) (sym (added-more _ _ _ _ _ _ _ _ taken (search rules)))

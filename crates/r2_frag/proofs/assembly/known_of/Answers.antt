use Rattle.std.proofs.Common.{◌∙◌, is_some, refl, ap, rules}
use Rattle.r2_frag.specs.declared.unfinished.Unfinished.{Unfinished}
use Rattle.r2_frag.specs.Assembly.{begun, piece_at}
use Rattle.r2_frag.proofs.Taken.{message_under-absent, message_under-first, piece_at-begun}
use Rattle.r2_frag.proofs.assembly.known_of.Goals as goal

pub returns-in-None-clause-count : goal.returns-in-None-clause-count
unfolding begun
returns-in-None-clause-count c =
    let e = message_under-absent c.args.key c.args.messages.now (search rules) in rw e refl

pub returns-in-None-clause-kept : goal.returns-in-None-clause-kept
returns-in-None-clause-kept c =
    let e = message_under-absent c.args.key c.args.messages.now (search rules) in
    rw (e, piece_at-begun c.args.key c.args.number c.requires.number) refl

pub returns-in-Some-clause-count : goal.returns-in-Some-clause-count
returns-in-Some-clause-count c =
    let e = message_under-first c.args.key c.args.messages.now c.in-Some.place c.index-messages-place.result (search rules) in
    rw e (ap (λ (m : Unfinished). m.count) c.index-messages-place.is)

pub returns-in-Some-clause-kept : goal.returns-in-Some-clause-kept
returns-in-Some-clause-kept c =
    let e = message_under-first c.args.key c.args.messages.now c.in-Some.place c.index-messages-place.result (search rules) in
    rw e (c.has.ensures ∙ ap (λ (m : Unfinished). is_some (piece_at c.args.number m.pieces)) c.index-messages-place.is)

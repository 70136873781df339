use Rattle.std.proofs.Common.{◌≡◌, ◌+◌, cond, ℕ, Option, Bool, [], ◌∷◌, None, Some, sym, ap, ◌∙◌}
use Rattle.std.specs.Prelude.{is_some}
use Rattle.r2_base.specs.declared.datagram.Datagram.{Datagram}
use Rattle.hc_world.specs.Notes.{begun_id, capped, replies_in}
use Rattle.hc_world.proofs.Noting.{count-one, note-none, note-some}
use Rattle.hc_world.proofs.notes.note.Goals as goal

counts : (d : Datagram) (found : Option ℕ) (test : Bool) (before n : ℕ) → found ≡ begun_id d → test ≡ is_some found → n ≡ capped (before + cond test 1 0)
    → n ≡ capped (before + replies_in (d ∷ []))
counts d found test before n is tests counted =
    counted ∙ ap (λ (b : Bool). capped (before + cond b 1 0)) tests ∙ ap (λ (m : ℕ). capped (before + m)) (sym (count-one d found (sym is)))

pub returns-in-None-clause-answered : goal.returns-in-None-clause-answered
returns-in-None-clause-answered c =
    let none : begun_id c.args.datagram.now ≡ None = sym c.begun_id-begun.ensures ∙ c.in-None.is in
    note-none c.args.answered.now.items c.args.datagram.now c.requires none

pub returns-in-None-clause-replies : goal.returns-in-None-clause-replies
returns-in-None-clause-replies c =
    counts c.args.datagram.now c.begun_id-begun.result c.is_some.result c.args.replies.now c.counted.result c.begun_id-begun.ensures c.is_some.ensures c.counted.ensures

pub returns-in-Some-clause-answered : goal.returns-in-Some-clause-answered
returns-in-Some-clause-answered c =
    let some : begun_id c.args.datagram.now ≡ Some c.in-Some.id = sym c.begun_id-begun.ensures ∙ c.in-Some.is in
    c.mark.ensures.marked ∙ note-some c.args.answered.now.items c.args.datagram.now c.in-Some.id c.eq.result c.requires c.mark.ensures.fits some c.eq.ensures

pub returns-in-Some-clause-replies : goal.returns-in-Some-clause-replies
returns-in-Some-clause-replies c =
    counts c.args.datagram.now c.begun_id-begun.result c.is_some.result c.args.replies.now c.counted.result c.begun_id-begun.ensures c.is_some.ensures c.counted.ensures

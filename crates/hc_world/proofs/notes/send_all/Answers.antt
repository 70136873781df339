use Rattle.std.proofs.Common.{rules, ◌≡◌, ◌∷◌, [], ◌++◌, List, ℕ, ◌-◌, ◌≤◌, ◌^◌, min, length, refl, sym, ap, subst, ◌∙◌, append_assoc, append-nil, arith}
use Rattle.std.specs.Vec.Iter.{into_iter_items}
use Rattle.std.proofs.lemmas.List.{nil_from_length}
use Rattle.r2_base.specs.declared.datagram.Datagram.{Datagram}
use Rattle.hc_world.specs.Steps.{AreSent}
use Rattle.hc_world.proofs.Noting.{sent-length, sent-more, sent-none}
use Rattle.hc_world.proofs.notes.send_all.Goals as goal

small : (n most : ℕ) → n ≤ most → min n most ≡ n
small n most fits = omega arith

pub sends-init : goal.sends-init
sends-init c =
    let fits = c.type_inv._before.fits in
    record {
      left = refl;
      size = search rules;
      ids = c.requires;
      done = sent-none c.args.datagrams.now.items c.args.answered.now.items c.args.replies.now c.requires (small c.args.replies.now (2 ^ 64 - 1) (omega (arith, fits)));
    }

pub sends-preserved : goal.sends-preserved
sends-preserved c =
    let at = c.sends in
    let x = c.in-Some.datagram in
    let steps : into_iter_items at.datagram-iterator ≡ x ∷ into_iter_items c.next.new.self = c.in-Some.ensures.steps.0 in
    let was = at.invariant.done in
    let done : AreSent (at.yielded ++ x ∷ []) c.args.datagrams.now.items c.args.answered.now.items c.args.replies.now (at.datagrams.items ++ x ∷ []) c.note.new.answered.items c.note.new.replies =
    sent-more at.yielded c.args.datagrams.now.items at.datagrams.items c.args.answered.now.items at.answered.items c.args.replies.now at.replies x c.note.new.answered.items c.note.new.replies
    c.requires was c.note.ensures.answered c.note.ensures.replies in
    record {
      left = append_assoc at.yielded (x ∷ []) _ ∙ rw (← steps) at.invariant.left;
      size =
          (let before = at.invariant.size in
          let gone = c.in-Some.ensures.steps.1 in
          let short = ap length steps in
          omega arith);
      ids = sent-length _ _ _ _ _ _ _ c.requires done;
      done = rw c.in_ok-push.ensures.items done;
    }

pub returns : goal.returns
returns c =
    let at = c.sends in
    let none = c.in-None.ensures.steps in
    let empty : into_iter_items at.datagram-iterator ≡ [] = nil_from_length _ (sym at.invariant.size ∙ none.0) in
    let all : at.yielded ≡ c.args.sends =
    sym (append-nil at.yielded) ∙ rw empty at at.invariant.left ∙ c.into_iter-datagram-iterator.ensures.into_iter_gives.0 ∙ c.into_vec-datagram-items.ensures in
    subst (λ (xs : List Datagram). AreSent xs c.args.datagrams.now.items c.args.answered.now.items c.args.replies.now at.datagrams.items at.answered.items at.replies) all at.invariant.done

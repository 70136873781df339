use Rattle.std.proofs.Common.{◌≡◌, ◌∷◌, [], ◌++◌, List, length, sym, ap, ◌∙◌, append_assoc, append-nil, arith}
use Rattle.std.specs.Vec.Iter.{into_iter_items}
use Rattle.std.proofs.lemmas.List.{nil_from_length}
use Rattle.r2_base.specs.declared.datagram.Datagram.{Datagram}
use Rattle.hc_world.proofs.requests.append.Goals as goal

pub datagrams-preserved : goal.datagrams-preserved
datagrams-preserved c =
    let at = c.datagrams in
    let x = c.in-Some.datagram in
    let steps : into_iter_items at.datagram-iterator ≡ x ∷ into_iter_items c.next.new.self = c.in-Some.ensures.steps.0 in
    record {
      left = append_assoc at.yielded (x ∷ []) _ ∙ rw (← steps) at.invariant.left;
      size =
          (let before = at.invariant.size in
          let gone = c.in-Some.ensures.steps.1 in
          let short = ap length steps in
          omega arith);
      done =
          c.in_ok-push.ensures.items ∙ ap (λ (xs : List Datagram). xs ++ x ∷ []) at.invariant.done ∙ append_assoc c.args.all.now.items at.yielded (x ∷ []);
    }

pub returns : goal.returns
returns c =
    let at = c.datagrams in
    let none = c.in-None.ensures.steps in
    let empty : into_iter_items at.datagram-iterator ≡ [] = nil_from_length _ (sym at.invariant.size ∙ none.0) in
    let all : at.yielded ≡ c.args.datagrams =
    sym (append-nil at.yielded) ∙ rw empty at at.invariant.left ∙ c.into_iter-datagram-iterator.ensures.into_iter_gives.0 ∙ c.into_vec-datagram-items.ensures in
    at.invariant.done ∙ ap (λ (xs : List Datagram). c.args.all.now.items ++ xs) all

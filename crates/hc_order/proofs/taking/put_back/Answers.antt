use Rattle.std.proofs.Common.{◌≡◌, ◌∷◌, [], ◌++◌, List, sym, ap, subst, ◌∙◌, append_assoc, append-nil}
use Rattle.std.specs.Vec.Iter.{into_iter_items}
use Rattle.std.proofs.lemmas.List.{nil_from_length}
use Rattle.hc_log.specs.declared.stored.Stored.{Stored}
use Rattle.hc_order.specs.Taking.{MayReturn, released}
use Rattle.hc_order.proofs.Apart.{may-return-later, nothing-released, released-append}
use Rattle.hc_order.proofs.taking.put_back.Goals as goal

pub entries-preserved : goal.entries-preserved
entries-preserved c =
    let pool = c.entries.pool in
    let s = c.in-Some.s in
    let rest = into_iter_items c.next.new.self in
    let step : into_iter_items c.entries.s-iterator ≡ s ∷ rest = c.in-Some.ensures.steps.0 in
    let more : c.put_back_one.new.pool ≡ pool ++ released (s ∷ []) = c.in_ok-put_back_one.ensures in
    let both : (pool ++ released (s ∷ [])) ++ released rest ≡ pool ++ released (s ∷ rest) =
    append_assoc pool (released (s ∷ [])) (released rest) ∙ ap (λ rs. pool ++ rs) (sym (released-append (s ∷ []) rest)) in
    record {
      can = c.entries.invariant.can;
      finite = c.entries.invariant.finite;
      may = subst (λ p. MayReturn p rest) (sym more) (may-return-later pool s rest (subst (MayReturn pool) step c.entries.invariant.may));
      all = ap (λ p. p ++ released rest) more ∙ both ∙ ap (λ (xs : List Stored). pool ++ released xs) (sym step) ∙ c.entries.invariant.all;
    }

pub returns : goal.returns
returns c =
    let pool = c.entries.pool in
    let rest = into_iter_items c.entries.s-iterator in
    let none : rest ≡ [] = nil_from_length rest (sym c.entries.s-iterator.rest.ok.0 ∙ c.in-None.ensures.steps.0) in
    sym (append-nil pool) ∙ ap (λ rs. pool ++ rs) (sym (ap released none ∙ nothing-released)) ∙ c.entries.invariant.all

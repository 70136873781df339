use Rattle.std.proofs.Common.{◌≡◌, ◌++◌, List, drop, sym, ap, subst, ◌∙◌, append-nil, arith}
use Rattle.std.proofs.lemmas.List.{drop_all}
use Rattle.hc_log.specs.declared.stored.Stored.{Stored}
use Rattle.hc_pool.specs.declared.request.Request.{Request}
use Rattle.hc_order.specs.Apart.{ShareNoRequest}
use Rattle.hc_order.specs.Taking.{MayReturn, released}
use Rattle.hc_order.proofs.Apart.{may-return, nothing-released, share-released}
use Rattle.hc_order.proofs.taking.cut_off.Goals as goal

pub returns-then-keep-last-clause-pool : goal.returns-then-keep-last-clause-pool
returns-then-keep-last-clause-pool c =
    let pool = c.args.pool.now in
    let none = drop_all c.args.keep c.args.log.now (omega arith) in
    sym (append-nil pool) ∙ ap (λ rs. pool ++ rs) (sym (ap released none ∙ nothing-released))

pub put_back-requires : goal.put_back-requires
put_back-requires c =
    subst (MayReturn c.args.pool.now) (sym (c.into_vec.ensures ∙ c.in_ok-cut.ensures.others))
    (may-return c.args.keep c.args.log.now c.args.pool.now c.last.ensures.holds c.requires.apart)

pub returns-clause-apart : goal.returns-clause-apart
returns-clause-apart c =
    let keep = c.args.keep in
    let cut = drop keep c.args.log.now in
    let pool : c.put_back.new.pool ≡ c.args.pool.now ++ released cut =
    c.in_ok-put_back.ensures ∙ ap (λ (xs : List Stored). c.args.pool.now ++ released xs) (c.into_vec.ensures ∙ c.in_ok-cut.ensures.others) in
    subst (λ (p : List Request). ShareNoRequest c.cut.new.self p) (sym pool)
    (subst (λ (l : List Stored). ShareNoRequest l (c.args.pool.now ++ released cut)) (sym c.in_ok-cut.ensures.kept)
    (share-released keep c.args.log.now c.args.pool.now c.last.ensures.holds c.requires.apart))

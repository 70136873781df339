-- The oldest request may follow the log, where there is room for it.
use Rattle.std.proofs.Common.{◌≡◌, ◌≤◌, ℕ, ◌+◌, [], ◌∷◌, ◌++◌, List, length, true, Some, slice_get, sym, ap, subst, ◌∙◌, arith}
use Rattle.r2_base.specs.Limits.{greatest_member}
use Rattle.hc_pool.specs.declared.request.Request.{Request}
use Rattle.hc_log.specs.Log.{has_room, MayFollow}
use Rattle.hc_log.specs.declared.stored.Stored.{Stored}
use Rattle.hc_replier.specs.Queues.{assign}
use Rattle.hc_order.specs.Ordering.{Waiting, entry_of}
use Rattle.hc_order.proofs.Orders.{oldest-new, ordered-follows, ready-more, ready-same}
use Rattle.hc_order.proofs.ordering.order_next.Goals as goal

-- the request that was looked at is the one that was taken out
first-is : (pool later : List Request) (r oldest : Request) → pool ≡ r ∷ later → slice_get pool 0 ≡ Some oldest → r ≡ oldest
first-is pool later r oldest is found = let both : Some r ≡ Some oldest = ap (λ (xs : List Request). slice_get xs 0) (sym is) ∙ found in cc

pub append-requires : goal.append-requires
append-requires c =
    let w : Waiting = record { log = c.args.log.now; pool = c.args.pool.now; queues = c.args.queues.now } in
    let r = c.in-Some-take_first.request in
    let is = c.in-Some-take_first.ensures.first in
    let same = first-is w.pool c.take_first.new.self r c.in-Some-first.oldest.now is c.in-Some-first.ensures in
    let room : has_room w.log r.body ≡ true =
    ap (λ (x : Request). has_room w.log x.body) same ∙ ap (has_room w.log) (sym c.as_slice.ensures) ∙ sym c.has_room.ensures ∙ c.if-not-has_room.false in
    let member : c.in-Some.replier ≤ greatest_member = omega (arith, c.in-Some.ensures.found.is_member, c.in-Some.ensures.holds.few) in
    subst (MayFollow w.log) (sym c.entry_of-stored.ensures)
    (ordered-follows c.args.term c.in-Some.replier w.log r c.requires.is_set c.requires.fits c.requires.latest member c.in-Some-take_first.ensures.fits
    (oldest-new c.args.term w r c.take_first.new.self c.requires is) room)

pub returns-clause-ready : goal.returns-clause-ready
returns-clause-ready c =
    let w : Waiting = record { log = c.args.log.now; pool = c.args.pool.now; queues = c.args.queues.now } in
    let r = c.in-Some-take_first.request in
    let later = c.take_first.new.self in
    let replier = c.in-Some.replier in
    let took = c.in-Some-take_first.ensures in
    let log : c.append.new.self ≡ w.log ++ entry_of c.args.term replier r ∷ [] = c.in_ok-append.ensures.ok ∙ ap (λ (s : Stored). w.log ++ s ∷ []) c.entry_of-stored.ensures in
    let queues : c.assign.new.self ≡ assign w.queues replier (length w.log + 1) = c.assign.ensures ∙ ap (λ (n : ℕ). assign w.queues replier (n + 1)) c.last-index.ensures.index in
    ready-same c.args.term (w.log ++ entry_of c.args.term replier r ∷ []) c.append.new.self later (assign w.queues replier (length w.log + 1)) c.assign.new.self
    (ready-more c.args.term replier w r later c.requires took.first took.once c.in-Some.ensures.found.is_member) log queues

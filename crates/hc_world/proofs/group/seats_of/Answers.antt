use Rattle.std.proofs.Common.{◌+◌, ℕ, List, sym, subst, arith}
use Rattle.hc_member.specs.declared.setup.Setup.{Setup}
use Rattle.hc_world.specs.declared.seat.Seat.{Seat}
use Rattle.hc_world.specs.Addresses.{group_with}
use Rattle.hc_world.specs.Live.{AreNew}
use Rattle.hc_world.specs.Seat.{IsSeat}
use Rattle.hc_world.proofs.Begun.{new-more}
use Rattle.hc_world.proofs.group.seats_of.Goals as goal

pub members-preserved : goal.members-preserved
members-preserved c =
    let g = group_with c.args.members.now c.args.address c.args.bounds.now in
    subst (λ (xs : List Seat). AreNew g (c.members.me + 1) xs) (sym c.in_ok-push.ensures.items)
    (new-more g c.members.me c.members.seats.items c.in_ok-begin.field-0 c.members.invariant (subst (λ (s : Setup). IsSeat s c.in_ok-begin.field-0) c.in_ok-setup.ensures c.in_ok-begin.ensures.seat)
    c.in_ok-begin.ensures.shows)

pub returns : goal.returns
returns c =
    let high = c.members.auto.me-end in
    let past = c.members-test.false in
    let len = c.len-count.ensures in
    subst (λ (n : ℕ). AreNew (group_with c.args.members.now c.args.address c.args.bounds.now) n c.members.seats.items) (omega (arith, high, past, len)) c.members.invariant

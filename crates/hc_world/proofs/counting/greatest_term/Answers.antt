use Rattle.std.proofs.Common.{max, ℕ, ap, ◌∙◌, sym, subst}
use Rattle.hc_world.specs.declared.seat.Seat.{Seat}
use Rattle.hc_world.specs.Seat.{IsSeat, replica_of}
use Rattle.hc_world.specs.Seen.{term_of}
use Rattle.hc_world.proofs.Tallied.{greatest-more}
use Rattle.hc_world.proofs.counting.greatest_term.Goals as goal

pub term-requires : goal.term-requires
term-requires c =
    subst (λ (x : Seat). IsSeat x.setup x) (sym c.seat-item.is) (c.requires.each c.seats.seat-index c.seat-item.result c.seats-test.true)

pub seats-preserved : goal.seats-preserved
seats-preserved c =
    c.max-greatest.ensures ∙ ap (λ (n : ℕ). max n c.seats.greatest) c.term.ensures ∙ ap (max (term_of (replica_of c.seat-item.result))) c.seats.invariant
    ∙ sym (greatest-more (λ (s : Seat). term_of (replica_of s)) c.args.seats.now c.seats.seat-index c.seat-item.result c.seats-test.true c.seat-item.is)

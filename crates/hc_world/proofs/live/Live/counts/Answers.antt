use Rattle.std.proofs.Common.{◌≡◌, Bool, List, [], ◌∷◌, map, take, refl, ap, ◌∙◌}
use Rattle.std.specs.Prelude.{count_by}
use Rattle.hc_world.specs.declared.seat.Seat.{Seat}
use Rattle.hc_world.specs.Live.{seen_of}
use Rattle.hc_world.specs.Seat.{replica_of}
use Rattle.hc_world.specs.Seen.{counts_of, greatest, term_of}
use Rattle.hc_world.proofs.Worlds.{all-seats}
use Rattle.hc_world.proofs.live.Live.counts.Goals as goal

map-both : {X Y Z : Type 0} (f : Y → Z) (g : X → Y) (xs : List X) → map (λ x. f (g x)) xs ≡ map f (map g xs)
map-both f g [] = refl
map-both {X} {Y} {Z} f g (x ∷ xs) = ap (λ (zs : List Z). f (g x) ∷ zs) (map-both f g xs)

pub greatest_term-requires : goal.greatest_term-requires
greatest_term-requires c = all-seats c.args.self.now c.deref-2.result.now c.requires c.deref-2.ensures.value

pub returns : goal.returns
unfolding seen_of counts_of
returns c =
    let replied = c.count_answered.ensures ∙ ap (λ (xs : List Bool). count_by (λ x. x) (take c.args.self.now.requests xs)) c.deref.ensures.value in
    let terms = c.greatest_term.ensures ∙ ap (λ (xs : List Seat). greatest (map (λ seat. term_of (replica_of seat)) xs)) c.deref-2.ensures.value
    ∙ ap greatest (map-both term_of replica_of c.args.self.now.seats.items) in
    cc

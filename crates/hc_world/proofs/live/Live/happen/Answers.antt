use Rattle.std.proofs.Common.{◌≡◌, ℕ, ◌<◌, length, sym, subst, arith}
use Rattle.hc_world.specs.declared.live.Live.{Live}
use Rattle.hc_world.specs.declared.event.WorldEvent.{WorldEvent}
use Rattle.hc_world.specs.declared.event.WorldEvent.TheVariants.{Restart}
use Rattle.hc_world.specs.Events.{MayHappen}
use Rattle.hc_world.specs.Live.{ShowsWorld, seen_of}
use Rattle.hc_world.specs.Steps.{happens}
use Rattle.hc_world.proofs.Worlds.{on-ok}
use Rattle.hc_world.proofs.live.Live.happen.Goals as goal

member-there : (l : Live) (e : WorldEvent) (v : ℕ) → MayHappen (seen_of l) e → e ≡ Restart v → v < length l.members
unfolding seen_of
member-there l e v may is = let down = subst (MayHappen (seen_of l)) is may in down.member

pub restart-requires-clause-member : goal.restart-requires-clause-member
restart-requires-clause-member c =
    let inside = member-there c.args.self.now c.args.event c.in-Restart.member c.requires.may c.in-Restart.is in
    let same = c.from-in-Restart.ensures in
    omega (arith, inside, same)

pub returns-in-Deliver : goal.returns-in-Deliver
unfolding seen_of
returns-in-Deliver c =
    on-ok _ _ c.deliver.result (λ did. subst (λ (e : WorldEvent). ShowsWorld (happens e (seen_of c.args.self.now)) c.deliver.new.self) (sym c.in-Deliver.is) did) c.deliver.ensures

use Rattle.std.proofs.Common.{◌≡◌, Option, Some, sym, ap, subst, ◌∙◌}
use Rattle.hc_world.specs.Events.{IsPossible, MayHappen}
use Rattle.hc_world.specs.Live.{seen_in, seen_of}
use Rattle.hc_world.specs.Seen.{Seen}
use Rattle.hc_world.proofs.OneThread.{serves-on}
use Rattle.hc_world.proofs.Shown.{shows-more}
use Rattle.hc_world.proofs.world.World.step.Goals as goal

pub returns-clause-run : goal.returns-clause-run
returns-clause-run c =
    let here : c.args.self.now ≡ Some (seen_of c.in-Some.live) = sym c.self.view_is ∙ ap seen_in (sym c.in-Some.ensures.value) in
    let may : MayHappen (seen_of c.in-Some.live) c.args.event = subst (λ (o : Option Seen). IsPossible o c.args.event) here c.requires in
    let did = c.in_ok-step.ensures in
    λ g events shows. shows-more g events c.args.event (seen_of c.in-Some.live) c.args.self.now _ shows here may (ap Some did.seen)

pub returns-clause-serves : goal.returns-clause-serves
returns-clause-serves c =
    let here : c.args.self.now ≡ Some (seen_of c.in-Some.live) = sym c.self.view_is ∙ ap seen_in (sym c.in-Some.ensures.value) in
    let may : MayHappen (seen_of c.in-Some.live) c.args.event = subst (λ (o : Option Seen). IsPossible o c.args.event) here c.requires in
    let did = c.in_ok-step.ensures in
    λ g events shows.
    serves-on g _ c.step.new.self did.is
    (shows-more g events c.args.event (seen_of c.in-Some.live) c.args.self.now (Some (seen_of c.step.new.self)) shows here may (ap Some did.seen))

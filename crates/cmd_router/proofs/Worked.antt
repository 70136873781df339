-- What one worker did whose loop came to its end.
use Rattle.std.proofs.Common.{◌≡◌, ◌≤◌, ℕ, List, Option, length, refl, ◌∙◌, subst, arith}
use Rattle.r2_base.specs.declared.datagram.Datagram.{Datagram}
use Rattle.r2_base.specs.declared.event.Event.{Event}
use Rattle.r2_link.specs.Links.{LinkPasses, LinkTold}
use Rattle.r2_link.specs.Moments.{Tells}
use Rattle.r2_link.specs.Told.{RanDry}
use Rattle.r2_desk.specs.States.{PassState}
use Rattle.cmd_status.specs.declared.status.Status.{Status}
use Rattle.cmd_status.specs.declared.status.Status.TheVariants.{Done, TurnsSpent}
use Rattle.cmd_loop.specs.declared.pace.Pace.{Pace}
use Rattle.cmd_loop.specs.Events.{events}
use Rattle.cmd_loop.specs.Happenings.{came, events_of, happenings}
use Rattle.cmd_loop.specs.Loop.{Serves}
use Rattle.cmd_loop.specs.Plain.{Unstored}
use Rattle.cmd_loop.proofs.Passing.{silent}
use Rattle.cmd_router.proofs.Still.{events_of-came, events_of-closed}
use Rattle.cmd_router.specs.Counted.{CountsTurns}
use Rattle.cmd_router.specs.Routes.{IsWholeRun}
use Rattle.cmd_router.specs.Works.{EndsWell, Work}

pub record Worked (pace : Pace) (p p' : PassState) (told told' : LinkTold) (left left' : Option (List ℕ)) (w : Work) : Type 0 where
  pub passed : LinkPasses told told' w.items w.sends
  pub moments : List ℕ
  pub tells : Tells left left' moments
  pub timed : w.events ≡ events pace.tick_ms w.items moments
  pub asked : length w.items ≤ length moments
  pub counts : CountsTurns p w.events w.sends p'
  pub well : EndsWell pace.turns w.items w.ended
  pub dry : w.ended ≡ Done → RanDry told.left told'.left

module _ (pace : Pace) (p p' : PassState) (told told' : LinkTold) (left left' : Option (List ℕ)) (S : List Event → List Datagram → Type 0) where
  abbrev Over : List Event → List Datagram → Type 0
  Over es sent = CountsTurns p es sent p'

  abbrev pub HasWorked : Status → Type 0
  HasWorked ended = (w : Work) × (w.ended ≡ ended) × Worked pace p p' told told' left left' w

  pub worked : (ended : Status) → Serves (Unstored Over) (Unstored Over) (Unstored S) pace (record silent { link = told; clock = left }) (record silent { link = told'; clock = left' }) ended
      → IsWholeRun ended → HasWorked ended
  worked Done serves whole =
      let items = serves.items in
      let moments = serves.moments in
      let made = serves.ended.1 in
      let found = serves.found_end serves.ended.0 in
      let same : events_of (happenings pace.tick_ms items moments serves.closings) ≡ events pace.tick_ms items moments =
      events_of-closed serves.closings (came (events pace.tick_ms items moments)) ∙ events_of-came (events pace.tick_ms items moments) in
      let w : Work = record { items = items; events = events pace.tick_ms items moments; sends = made.sends; ended = Done } in (
        w,
        refl,
        record {
          passed = made.passed.link;
          moments = moments;
          tells = made.passed.clock;
          timed = refl;
          asked = omega (arith, found.asked);
          counts = subst (λ (es : List Event). CountsTurns p es made.sends p') same made.right.1;
          well = tt;
          dry = λ e. found.dry;
        },
      )
  worked TurnsSpent serves whole =
      let items = serves.items in
      let moments = serves.moments in
      let made = serves.ended.3 in
      let w : Work = record { items = items; events = events pace.tick_ms items moments; sends = made.sends; ended = TurnsSpent } in (
        w,
        refl,
        record {
          passed = made.passed.link;
          moments = moments;
          tells = made.passed.clock;
          timed = refl;
          asked = omega (arith, serves.ended.1);
          counts = subst (λ (es : List Event). CountsTurns p es made.sends p') (events_of-came (events pace.tick_ms items moments)) made.right.1;
          well = serves.ended.2;
          dry = λ e. absurd cc;
        },
      )
  worked _ serves whole = absurd whole

-- What workers over one desk did, each with its pass and on its twin of a link.
use Rattle.std.specs.Prelude.{◌≡◌, ℕ, List, [], ◌∷◌, ⊤, Option, length}
use Rattle.r2_link.specs.Links.{LinkTold, Rejoins, Splits}
use Rattle.r2_desk.specs.States.{PassState}
use Rattle.cmd_status.specs.declared.status.Status.{Status}
use Rattle.cmd_loop.specs.declared.pace.Pace.{Pace}
use Rattle.cmd_router.specs.Counted.{CountsTurns}
use Rattle.cmd_router.specs.Works.{Work, WorkTogether}

-- twins were made beside a link, one after another
abbrev pub AreTwins : LinkTold → LinkTold → List LinkTold → Type 0
AreTwins old new [] = new ≡ old
AreTwins old new (twin ∷ more) = (between : LinkTold) × Splits old between twin × AreTwins between new more

-- twins were taken back, one after another
abbrev pub ComeBack : LinkTold → LinkTold → List LinkTold → Type 0
ComeBack old new [] = new ≡ old
ComeBack old new (twin ∷ more) = (between : LinkTold) × Rejoins old between twin × ComeBack between new more

-- each of these passes counted its worker's turns
abbrev pub AllCount : List PassState → List Work → List PassState → Type 0
AllCount [] [] [] = ⊤
AllCount (p ∷ before) (w ∷ more) (p' ∷ after) = CountsTurns p w.events w.sends p' × AllCount before more after
AllCount _ _ _ = ⊥

-- workers with these passes came to their ends together
pub record WorkAtDesk (pace : Pace) (before after : List PassState) (old new : LinkTold) (clock clock' : Option (List ℕ)) (ended : Status) : Type 0 where
  pub first : Work
  pub others : List Work
  pub work : WorkTogether (length before) pace old new clock clock' first others ended
  pub counts : AllCount before (first ∷ others) after

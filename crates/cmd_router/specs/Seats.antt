-- What one worker's loop does on its twin of a link.
use Rattle.std.specs.Prelude.{◌≡◌, ℕ, ◌<◌, ◌≤◌, List, [], ◌∷◌, Option, Some, length, slice_index_or}
use Rattle.r2_base.specs.declared.datagram.Datagram.{Datagram}
use Rattle.r2_base.specs.declared.event.Event.{Event}
use Rattle.r2_base.specs.Limits.{most_turns}
use Rattle.r2_link.specs.Faults.{NoneFalls, calm}
use Rattle.r2_link.specs.Links.{LinkTold}
use Rattle.cmd_status.specs.Causes.{IsCaused}
use Rattle.cmd_status.specs.declared.status.Status.{Status}
use Rattle.cmd_loop.specs.declared.pace.Pace.{Pace}
use Rattle.cmd_loop.specs.Ends.{Ends}
use Rattle.cmd_loop.specs.Loop.{Serves}
use Rattle.cmd_loop.specs.Plain.{Unstored}

-- a loop of this pace may be run with a party that had no turns
pub record IsReady (fresh : Type 0) (pace : Pace) : Type 0 where
  pub new : fresh
  pub tick : 1 ≤ pace.tick_ms
  pub turns : pace.turns ≤ most_turns

-- a party was run from one state to another, on a twin and by a clock that told these and failed so often before and after
pub record RanSeat {P : Type 0} (T : P → List Event → List Datagram → P → Type 0) (pace : Pace) (party party' : P) (told told' : LinkTold)
    (left left' : Option (List ℕ)) (link link' clock clock' : ℕ) (ended : Status) : Type 0 where
  pub ran : (o : Ends) → Serves (Unstored (λ (events : List Event) (sent : List Datagram). T party events sent party'))
      (Unstored (λ (events : List Event) (sent : List Datagram). T party events sent party'))
      (Unstored (λ (events : List Event) (sent : List Datagram). (last : P) × T party events sent last)) pace
      (record o { link = told; clock = left }) (record o { link = told'; clock = left' }) ended
  pub caused : IsCaused (record calm { link = link; clock = clock }) (record calm { link = link'; clock = clock' }) ended
  pub steady : NoneFalls (record calm { link = link; clock = clock }) (record calm { link = link'; clock = clock' })

-- each of these ran, by a clock that stands still
pub record RunUntimed {X : Type 0} (ran : X → Option (List ℕ) → ℕ → X → Option (List ℕ) → ℕ → Type 0) (old new : List X) : Type 0 where
  pub each : (i : ℕ) (d : X) → i < length old → ran (slice_index_or old i d) (Some (0 ∷ [])) 0 (slice_index_or new i d) (Some (0 ∷ [])) 0
  pub as_many : length new ≡ length old

-- the first of these ran by a clock that told this and failed so often before and after, and each of the others by one that stands still
pub record RunAll {X : Type 0} (ran : X → Option (List ℕ) → ℕ → X → Option (List ℕ) → ℕ → Type 0) (old : List X) (left : Option (List ℕ)) (faults : ℕ)
    (new : List X) (left' : Option (List ℕ)) (faults' : ℕ) : Type 0 where
  pub first_old : X
  pub first_new : X
  pub others_old : List X
  pub others_new : List X
  pub first : ran first_old left faults first_new left' faults'
  pub others : RunUntimed ran others_old others_new
  pub is_old : old ≡ first_old ∷ others_old
  pub is_new : new ≡ first_new ∷ others_new

-- What workers' loops did on their twins of a link, however they ended, and what is left of a link where none was run.
use Rattle.std.specs.Prelude.{◌≡◌, ℕ, ◌+◌, ◌*◌, ◌<◌, ◌≤◌, List, [], ◌∷◌, All, Option, Some, None, ⊤, drop, length, map}
use Rattle.r2_base.specs.declared.datagram.Datagram.{Datagram}
use Rattle.r2_base.specs.declared.event.Event.{Event}
use Rattle.r2_link.specs.declared.lane.Item.{Item}
use Rattle.r2_link.specs.Links.{LinkTold}
use Rattle.r2_link.specs.Told.{IsKept}
use Rattle.r2_jbsq.specs.Limits.{most_servers}
use Rattle.cmd_status.specs.declared.status.Status.{Status}
use Rattle.cmd_loop.specs.declared.pace.Pace.{Pace}
use Rattle.cmd_loop.specs.Ends.{Ends}
use Rattle.cmd_loop.specs.Loop.{Serves}
use Rattle.cmd_loop.specs.Plain.{Unstored}
use Rattle.cmd_router.specs.Counted.{ticks_among}
use Rattle.cmd_router.specs.Desks.{AreTwins, ComeBack}
use Rattle.cmd_router.specs.Workers.{end_of}

-- at each event one datagram was sent at most, and at each tick one more at most for each server
abbrev pub SendsFew : List Event → List Datagram → Type 0
SendsFew events sends = length sends ≤ length events + most_servers * ticks_among events

-- a worker's twin as it was made, and as its loop left it, and how the loop ended
pub record Loop : Type 0 where
  pub made : LinkTold
  pub left : LinkTold
  pub ended : Status

-- the loop took its items from the twin and its moments from a clock, and sent on the twin; it touched nothing else
abbrev pub LoopRan : Pace → Option (List ℕ) → Option (List ℕ) → Loop → Type 0
LoopRan pace clock clock' l =
    (o : Ends) → Serves (Unstored SendsFew) (Unstored SendsFew) (Unstored SendsFew) pace
    (record o { link = l.made; clock = clock }) (record o { link = l.left; clock = clock' }) l.ended

-- so many workers ran, each by its loop on a twin of the link, the first by the clock and the others by one that stands still; then
-- the link had its twins back
pub record WorkersRan (workers : ℕ) (pace : Pace) (old new : LinkTold) (clock clock' : Option (List ℕ)) (ended : Status) : Type 0 where
  pub first : Loop
  pub others : List Loop
  pub between : LinkTold
  pub all : length others + 1 ≡ workers
  pub made : AreTwins old between (map (λ (l : Loop). l.made) (first ∷ others))
  pub timed : LoopRan pace clock clock' first
  pub untimed : All (LoopRan pace (Some (0 ∷ [])) (Some (0 ∷ []))) others
  pub back : ComeBack between new (map (λ (l : Loop). l.left) (first ∷ others))
  pub end : ended ≡ end_of (map (λ (l : Loop). l.ended) (first ∷ others))

-- so many of the lanes that were told are told no more, from the first one on
abbrev pub LosesLanes : ℕ → Option (List (List Item)) → Option (List (List Item)) → Type 0
LosesLanes n None new = ⊤
LosesLanes n (Some lanes) None = ⊥
LosesLanes n (Some lanes) (Some left) = left ≡ drop n lanes

-- none was run: nothing was received or sent, and fewer twins than so many were made, with a lane each
pub record NoneRan (workers : ℕ) (old new : LinkTold) : Type 0 where
  pub left : IsKept old.left new.left
  pub sent : IsKept old.sent new.sent
  pub me : new.me ≡ old.me
  pub made : ℕ
  pub fewer : made < workers
  pub lanes : LosesLanes made old.lanes new.lanes

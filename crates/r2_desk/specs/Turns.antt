-- One turn of a pass on a book.
use Rattle.std.specs.Prelude.{◌≡◌, ℕ, ◌+◌, ◌<◌, ◌≤◌, List, length}
use Rattle.r2_base.specs.declared.datagram.Datagram.{Datagram}
use Rattle.r2_base.specs.declared.event.Event.{Event}
use Rattle.r2_jbsq.specs.Limits.{most_router_turns, most_servers}
use Rattle.r2_jbsq.specs.State.{RouterState}
use Rattle.r2_jbsq.specs.Turns.{CountsPackets, GrowsByOne, IsTurn}
use Rattle.r2_desk.specs.declared.step.Step.{Step}
use Rattle.r2_desk.specs.Counts.{grown, more}
use Rattle.r2_desk.specs.States.{BookState, PassState}
use Rattle.r2_desk.specs.Trails.{noted}

-- one turn of a router: exactly what it becomes and sends, and what that says of its counts and of the packets
pub record IsOneTurn (r : RouterState) (event : Event) (given : List Datagram) (r' : RouterState) : Type 0 where
  pub exact : IsTurn r event given r'
  pub setup : r'.setup ≡ r.setup
  pub turns : r'.turns ≡ r.turns + 1
  pub grows : GrowsByOne r r'
  pub packets : CountsPackets r event given r'
  pub few : length given ≤ most_servers

abbrev pub step : ℕ → ℕ → Event → List Datagram → Step
step pass number event sends = record { pass = pass; number = number; event = event; sends = sends }

-- a pass makes a turn on a book: it is one turn of the book's router and has the book's next number, which lies above all numbers
-- that the pass has seen. Within the trail the step is put last in the trail and in the pass's own list; the pass counts what the
-- turn added to the router's counts, and its slots stay
pub record TurnsBook (most : ℕ) (b : BookState) (p : PassState) (event : Event) (number : ℕ) (sends : List Datagram) (b' : BookState) (p' : PassState) : Type 0 where
  pub one_turn : IsOneTurn b.router event sends b'.router
  pub next : number ≡ b.turns + 1
  pub above : p.seen < number
  pub turns : b'.turns ≡ number
  pub trail : b'.trail ≡ noted b.trail b.turns most (step p.number number event sends)
  pub pass : p'
      ≡ record {
        number = p.number;
        seen = number;
        made = more p.made (grown b.router b'.router);
        slots = p.slots;
        own = noted p.own b.turns most (step p.number number event sends);
      }

-- a pass makes a turn on some book, of which no more is known
pub record TurnsSomeBook (most : ℕ) (p : PassState) (event : Event) (number : ℕ) (sends : List Datagram) (p' : PassState) : Type 0 where
  pub found : BookState
  pub left : BookState
  pub turn : TurnsBook most found p event number sends left p'
  pub room : number ≤ most_router_turns

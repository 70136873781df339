-- The steps of a loop: an item is received and its turn is made; the clock is asked, and the turn of a tick is made that is due;
-- after the end of the link, what is pending is finished until nothing is.
use Rattle.std.specs.Prelude.{◌≡◌, ◌⊎◌, Bool, true, false, ℕ, max, List, [], ◌∷◌, ◌++◌}
use Rattle.r2_base.specs.declared.datagram.Datagram.{Datagram}
use Rattle.r2_base.specs.declared.event.Event.{Event}
use Rattle.r2_base.specs.declared.event.Event.TheVariants.{Tick}
use Rattle.r2_link.specs.declared.lane.Item.{Item}
use Rattle.r2_link.specs.Links.{LinkPasses, LinkTold}
use Rattle.r2_link.specs.Told.{RanDry}
use Rattle.hc_log.specs.declared.record.Record.{Record}
use Rattle.cmd_status.specs.declared.status.Status.{Status}
use Rattle.cmd_status.specs.declared.status.Status.TheVariants.{Done, LinkFault, DiskFault, ClockFault, Memory}
use Rattle.cmd_loop.specs.declared.ticker.Ticker.{Ticker}
use Rattle.cmd_loop.specs.Ends.{Ends, Passes, nothing, passing}
use Rattle.cmd_loop.specs.Events.{due, elapsed, event_of}
use Rattle.cmd_loop.specs.Happenings.{Happening, Came, Closing, came, closed}
use Rattle.cmd_loop.specs.Party.{ReactsTo, Turns}

-- these items were received and these moments told, and all that a rule gives was stored and sent
pub record Makes (R : List Record → List Datagram → Type 0) (old new : Ends) (items : List Item) (moments : List ℕ) : Type 0 where
  pub stored : List Record
  pub sends : List Datagram
  pub right : R stored sends
  pub passed : Passes old new (passing items moments stored sends)

-- all that a rule gives was stored, and a prefix of it was sent
pub record MakesPart (R : List Record → List Datagram → Type 0) (old new : Ends) (items : List Item) (moments : List ℕ) : Type 0 where
  pub stored : List Record
  pub sent : List Datagram
  pub unsent : List Datagram
  pub right : R stored (sent ++ unsent)
  pub passed : Passes old new (passing items moments stored sent)

-- how a turn stops: at a fault of the link all is stored and a prefix is sent; where it couldn't be stored, or memory ran out, nothing
-- is stored or sent
abbrev pub Stops : (List Record → List Datagram → Type 0) → Ends → Ends → List Item → List ℕ → Status → Type 0
Stops R old new items moments LinkFault = MakesPart R old new items moments
Stops R old new items moments DiskFault = Passes old new (passing items moments [] [])
Stops R old new items moments Memory = Passes old new (passing items moments [] [])
Stops R old new items moments _ = ⊥

-- a turn at what happened, whatever the party is after it
abbrev pub SomeTurns : {P : Type 0} → (P → List Happening → List Record → List Datagram → P → Type 0) → P → List Happening → List Record → List Datagram → Type 0
SomeTurns {P} T old more stored sends = (new : P) × Turns T old new more stored sends

-- the second half of a turn, whatever the party is after it
abbrev pub SomeReacts : {P : Type 0} → (P → List Happening → List Record → List Datagram → P → Type 0)
    → (P → List Happening → List Record → List Datagram → List Datagram → P → Type 0) → P → Event → List Datagram → List Record → List Datagram → Type 0
SomeReacts {P} T F old event replies stored sends = (new : P) × ReactsTo T F old new event replies stored sends

-- what a receive came to: the turn of an item; or the end of the link, where nothing is left, and the turn that this closes
abbrev pub TakesItem : {P : Type 0} → (P → List Happening → List Record → List Datagram → P → Type 0) → P → P → Ends → Ends → Bool → Type 0
TakesItem T p q old new true = (item : Item) × Makes (Turns T p q (Came (event_of item) ∷ [])) old new (item ∷ []) []
TakesItem T p q old new false = Makes (Turns T p q (Closing ∷ [])) old new [] [] × RanDry old.link.left new.link.left

-- a receive brought nothing: the link failed, or memory ran out
abbrev pub BringsNothing : Ends → Ends → Status → Type 0
BringsNothing old new LinkFault = Passes old new nothing
BringsNothing old new Memory = Passes old new nothing
BringsNothing old new _ = ⊥

-- the turn at the end of the link stopped: a prefix of its datagrams was sent
abbrev pub StopsAtEnd : {P : Type 0} → (P → List Happening → List Record → List Datagram → P → Type 0) → P → Ends → Ends → Status → Type 0
StopsAtEnd T p old new LinkFault = MakesPart (SomeTurns T p (Closing ∷ [])) old new [] [] × RanDry old.link.left new.link.left
StopsAtEnd T p old new _ = ⊥

-- why no turn was made whole: nothing was received, or the turn of an item stopped, or that of the end
abbrev pub StopsItem : {P : Type 0} → (P → List Happening → List Record → List Datagram → P → Type 0) → P → Ends → Ends → Status → Type 0
StopsItem T p old new status =
    BringsNothing old new status
    ⊎ (((item : Item) × Stops (SomeTurns T p (Came (event_of item) ∷ [])) old new (item ∷ []) [] status)
    ⊎ StopsAtEnd T p old new status)

-- the ticks that a ticker finds due at a moment: one or none
abbrev pub due_at : Ticker → ℕ → List Event
due_at t moment = due t.reached (elapsed t.tick_ms t.start moment)

-- a ticker after a moment
abbrev pub ticked : Ticker → ℕ → Ticker
ticked t moment = record t { reached = max t.reached (elapsed t.tick_ms t.start moment) }

-- the clock told a moment, and the turn of the tick was made that is due, if one is
pub record AsksClock {P : Type 0} (T : P → List Happening → List Record → List Datagram → P → Type 0) (p q : P) (t u : Ticker) (old new : Ends) : Type 0 where
  pub moment : ℕ
  pub made : Makes (Turns T p q (came (due_at t moment))) old new [] (moment ∷ [])
  pub ticker : u ≡ ticked t moment

-- the turn of the tick that is due stopped
pub record StopsDue {P : Type 0} (T : P → List Happening → List Record → List Datagram → P → Type 0) (p : P) (t : Ticker) (old new : Ends) (status : Status) : Type 0 where
  pub moment : ℕ
  pub is_due : due_at t moment ≡ Tick ∷ []
  pub stops : Stops (SomeTurns T p (Came Tick ∷ [])) old new [] (moment ∷ []) status

-- why the clock wasn't asked and the turn made: the clock had no answer, or the turn stopped
abbrev pub StopsTick : {P : Type 0} → (P → List Happening → List Record → List Datagram → P → Type 0) → P → Ticker → Ends → Ends → Status → Type 0
StopsTick T p t old new ClockFault = Passes old new nothing
StopsTick T p t old new status = StopsDue T p t old new status

-- so many turns were made after the end of a link, which sent these datagrams
pub record Closes {P : Type 0} (T : P → List Happening → List Record → List Datagram → P → Type 0) (p q : P) (old new : LinkTold) (closings : ℕ) : Type 0 where
  pub sends : List Datagram
  pub turned : Turns T p q (closed closings []) [] sends
  pub passed : LinkPasses old new [] sends

-- so many turns were made whole after the end of a link, and of the next one a prefix of its datagrams was sent
pub record CutsClosing {P : Type 0} (T : P → List Happening → List Record → List Datagram → P → Type 0) (p : P) (old new : LinkTold) : Type 0 where
  pub closings : ℕ
  pub last : P
  pub between : LinkTold
  pub whole : Closes T p last old between closings
  pub next : P
  pub sent : List Datagram
  pub unsent : List Datagram
  pub turned : Turns T last next (Closing ∷ []) [] (sent ++ unsent)
  pub passed : LinkPasses between new [] sent

-- so many turns were made whole after the end of a link, and memory ran out in the next one
pub record LosesClosing {P : Type 0} (T : P → List Happening → List Record → List Datagram → P → Type 0) (p : P) (old new : LinkTold) : Type 0 where
  pub closings : ℕ
  pub last : P
  pub whole : Closes T p last old new closings

-- what is pending was finished after the end of a link until the party was settled, or up to a fault
abbrev pub Drains : {P : Type 0} → (P → List Happening → List Record → List Datagram → P → Type 0) → (P → Type 0) → P → P → LinkTold → LinkTold → Status → Type 0
Drains T Settled p q old new Done = Settled q × ((closings : ℕ) × Closes T p q old new closings)
Drains T Settled p q old new LinkFault = CutsClosing T p old new
Drains T Settled p q old new Memory = LosesClosing T p old new
Drains T Settled p q old new _ = ⊥

-- A loop of a party that knows no ticks and stores nothing: what it received and sent, and why it ended.
use Rattle.std.specs.Prelude.{◌≡◌, ◌⊎◌, ℕ, ◌<◌, List, [], ◌∷◌, ◌++◌, length, map}
use Rattle.r2_base.specs.declared.datagram.Datagram.{Datagram}
use Rattle.r2_base.specs.declared.event.Event.{Event}
use Rattle.r2_link.specs.declared.lane.Item.{Item}
use Rattle.r2_link.specs.Links.{LinkPasses, LinkTold}
use Rattle.r2_link.specs.Told.{RanDry}
use Rattle.cmd_status.specs.declared.status.Status.{Status}
use Rattle.cmd_status.specs.declared.status.Status.TheVariants.{Done, LinkFault, Memory, TurnsSpent}
use Rattle.cmd_loop.specs.Events.{event_of}

-- the party gives these datagrams at these items, by its rule on events
abbrev pub GivesAt : (List Event → List Datagram → Type 0) → List Item → List Datagram → Type 0
GivesAt S items sends = S (map event_of items) sends

-- all that the party gives at the items was sent
pub record SendsAll (S : List Event → List Datagram → Type 0) (old new : LinkTold) (items : List Item) : Type 0 where
  pub sends : List Datagram
  pub right : GivesAt S items sends
  pub passed : LinkPasses old new items sends

-- all that it gives before the last item was sent, and a prefix of what it gives at that
pub record SendsPart (S : List Event → List Datagram → Type 0) (old new : LinkTold) (items : List Item) : Type 0 where
  pub before : List Item
  pub last : Item
  pub last_of : items ≡ before ++ last ∷ []
  pub earlier : List Datagram
  pub sent : List Datagram
  pub unsent : List Datagram
  pub right_before : GivesAt S before earlier
  pub right : GivesAt S items (earlier ++ (sent ++ unsent))
  pub passed : LinkPasses old new items (earlier ++ sent)

-- all that it gives before the last item was sent, and nothing of what it gives at that
pub record LosesLast (S : List Event → List Datagram → Type 0) (old new : LinkTold) (items : List Item) : Type 0 where
  pub before : List Item
  pub last : Item
  pub last_of : items ≡ before ++ last ∷ []
  pub sends : List Datagram
  pub right : GivesAt S before sends
  pub passed : LinkPasses old new items sends

-- a further receive might be made, and all was sent
abbrev pub SendsAllBetween : (List Event → List Datagram → Type 0) → ℕ → LinkTold → LinkTold → List Item → Type 0
SendsAllBetween S turns old new items = (length items < turns) × SendsAll S old new items

-- what was received and sent, by how the loop ended: a further receive found the end of the link; all receives were made; a
-- further receive failed, or a send; memory ran out before the first receive, in a further one, or in a turn
abbrev pub EndsUntimed : (List Event → List Datagram → Type 0) → ℕ → LinkTold → LinkTold → List Item → Status → Type 0
EndsUntimed S turns old new items Done = RanDry old.left new.left × SendsAllBetween S turns old new items
EndsUntimed S turns old new items TurnsSpent = (length items ≡ turns) × SendsAll S old new items
EndsUntimed S turns old new items LinkFault = SendsAllBetween S turns old new items ⊎ SendsPart S old new items
EndsUntimed S turns old new items Memory =
    ((items ≡ []) × LinkPasses old new [] []) ⊎ (SendsAllBetween S turns old new items ⊎ LosesLast S old new items)
EndsUntimed S turns old new items _ = ⊥

-- a loop that received some items within so many receives, and ended so
abbrev pub ServesUntimed : (List Event → List Datagram → Type 0) → ℕ → LinkTold → LinkTold → Status → Type 0
ServesUntimed S turns old new status = (items : List Item) × EndsUntimed S turns old new items status

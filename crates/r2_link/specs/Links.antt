-- What a link tells, and what passed between two moments of it.
use Rattle.std.specs.Prelude.{◌≡◌, List, [], ◌∷◌, ◌⊎◌, Option, None}
use Rattle.r2_base.specs.declared.addr.Addr.{Addr}
use Rattle.r2_base.specs.declared.datagram.Datagram.{Datagram}
use Rattle.r2_link.specs.declared.lane.Item.{Item}
use Rattle.r2_link.specs.declared.lane.Item.TheVariants.{Datagram as ADatagram, Quiet as NoDatagram}
use Rattle.r2_link.specs.declared.link.Got.{Got}
use Rattle.r2_link.specs.declared.link.Got.TheVariants.{Datagram as GotDatagram, Quiet as GotQuiet, End}
use Rattle.r2_link.specs.Told.{IsKept, Gains, HasFirst, HasNone, Joins, LosesFirst, Takes, TellsToo}

-- where a link tells it: the items that are left to receive, the datagrams that were sent, the items of each lane that is left for
-- a twin; and the address at which it receives, where it has one
pub record LinkTold : Type 0 where
  pub left : Option (List Item)
  pub sent : Option (List Datagram)
  pub lanes : Option (List (List Item))
  pub me : Option Addr

-- these items were received, these datagrams were sent, and nothing else
pub record LinkPasses (old new : LinkTold) (items : List Item) (sends : List Datagram) : Type 0 where
  pub took : Takes old.left new.left items
  pub gave : Gains old.sent new.sent sends
  pub lanes : IsKept old.lanes new.lanes
  pub me : new.me ≡ old.me

-- what a link tells that tells its address alone
abbrev pub tells_address : Option Addr → LinkTold
tells_address me = record { left = None; sent = None; lanes = None; me = me }

-- what a receive brought, as items: at the end none
abbrev pub received : Got → List Item
received (GotDatagram d) = ADatagram d ∷ []
received GotQuiet = NoDatagram ∷ []
received End = []

-- nothing was sent, or this datagram
abbrev pub SendsAtMost : LinkTold → LinkTold → Datagram → Type 0
SendsAtMost old new d = LinkPasses old new [] [] ⊎ LinkPasses old new [] (d ∷ [])

-- a twin was made beside a link, which has the first of the lanes that were left and has sent nothing
pub record Splits (old new twin : LinkTold) : Type 0 where
  pub left : IsKept old.left new.left
  pub sent : IsKept old.sent new.sent
  pub lanes : LosesFirst old.lanes new.lanes
  pub me : new.me ≡ old.me
  pub lane : HasFirst old.lanes twin.left
  pub unsent : HasNone old.sent twin.sent
  pub tells_left : TellsToo old.left twin.left
  pub tells_lanes : TellsToo old.lanes twin.lanes
  pub twin_me : twin.me ≡ old.me

-- a twin was taken back, with what it sent
pub record Rejoins (old new twin : LinkTold) : Type 0 where
  pub left : IsKept old.left new.left
  pub sent : Joins old.sent new.sent twin.sent
  pub lanes : IsKept old.lanes new.lanes
  pub me : new.me ≡ old.me

-- A loop that serves between a link, a clock and a journal: what it took in, what it stored and sent, and why it ended.
use Rattle.std.specs.Prelude.{◌≡◌, ◌⊎◌, ℕ, ◌+◌, ◌<◌, ◌≤◌, List, [], ◌∷◌, ◌++◌, length}
use Rattle.r2_base.specs.declared.datagram.Datagram.{Datagram}
use Rattle.r2_base.specs.declared.event.Event.TheVariants.{Datagram as DatagramEvent, Tick, Quiet}
use Rattle.r2_link.specs.declared.lane.Item.{Item}
use Rattle.r2_link.specs.Told.{RanDry}
use Rattle.hc_log.specs.declared.record.Record.{Record}
use Rattle.cmd_status.specs.declared.status.Status.{Status}
use Rattle.cmd_status.specs.declared.status.Status.TheVariants.{Done, Memory, LinkFault, DiskFault, ClockFault, TurnsSpent}
use Rattle.cmd_loop.specs.declared.pace.Pace.{Pace}
use Rattle.cmd_loop.specs.Ends.{Ends, Passes, nothing, passing}
use Rattle.cmd_loop.specs.Events.{events}
use Rattle.cmd_loop.specs.Happenings.{Happening, Came, Closing, came, happenings}
use Rattle.cmd_loop.specs.Round.{Makes}

-- what a party stores and sends over what happens to it
abbrev pub Rule : Type 1
Rule = List Happening → List Record → List Datagram → Type 0

-- the clock was asked for the start, and after the turn of each item
abbrev pub AskedAfterEach : List Item → List ℕ → Type 0
AskedAfterEach items moments = length moments ≡ length items + 1

-- the clock wasn't asked after the turn of the last item, or not even for the start
abbrev pub NotAskedAfterLast : List Item → List ℕ → Type 0
NotAskedAfterLast items moments = length moments ≡ length items

-- what was asked of the clock when a turn was made: something after the last item only where that is of a tick, or after the end
abbrev pub AskedBefore : Happening → List Item → List ℕ → Type 0
AskedBefore (Came Tick) items moments = AskedAfterEach items moments
AskedBefore (Came (DatagramEvent d)) items moments = NotAskedAfterLast items moments
AskedBefore (Came Quiet) items moments = NotAskedAfterLast items moments
AskedBefore Closing items moments = AskedAfterEach items moments

-- one turn is the last of all, and is made with what was asked of the clock by then
pub record IsLast (items : List Item) (moments : List ℕ) (all before : List Happening) (last : Happening) : Type 0 where
  pub last_of : all ≡ before ++ last ∷ []
  pub asked : AskedBefore last items moments

-- the last turn's record was stored, and a prefix of its datagrams was sent, after all that the turns before it give
pub record GivesPart (S : Rule) (all : List Happening) (old new : Ends) (items : List Item) (moments : List ℕ) : Type 0 where
  pub before : List Happening
  pub last : Happening
  pub is_last : IsLast items moments all before last
  pub records : List Record
  pub earlier : List Datagram
  pub stored : List Record
  pub sent : List Datagram
  pub unsent : List Datagram
  pub right_before : S before records earlier
  pub right : S all (records ++ stored) (earlier ++ (sent ++ unsent))
  pub passed : Passes old new (passing items moments (records ++ stored) (earlier ++ sent))

-- all that the turns before the last one give was stored and sent, and nothing of the last one
pub record LosesTurn (S : Rule) (all : List Happening) (old new : Ends) (items : List Item) (moments : List ℕ) : Type 0 where
  pub before : List Happening
  pub last : Happening
  pub is_last : IsLast items moments all before last
  pub made : Makes (S before) old new items moments

-- a further receive, within those that may be made, brought nothing more, and all turns before it are there
pub record EndsBetween (S : Rule) (pace : Pace) (old new : Ends) (items : List Item) (moments : List ℕ) : Type 0 where
  pub asked : AskedAfterEach items moments
  pub within : length items < pace.turns
  pub made : Makes (S (came (events pace.tick_ms items moments))) old new items moments

-- a further receive, within those that may be made, found the end of the link, and the clock wasn't asked any more
pub record FoundEnd (pace : Pace) (old new : Ends) (items : List Item) (moments : List ℕ) : Type 0 where
  pub asked : AskedAfterEach items moments
  pub within : length items < pace.turns
  pub dry : RanDry old.link.left new.link.left

-- what a loop took in, stored and sent, by how it ended, with so many turns after the end of its link. D names what is stored and
-- sent over what happened to a loop that was done, W of one that was ended by its last turn, and S of one that met a fault or found
-- no memory
abbrev pub Ended : Rule → Rule → Rule → Pace → Ends → Ends → List Item → List ℕ → ℕ → Status → Type 0
Ended D W S pace old new items moments closings Done =
    (1 ≤ closings) × Makes (D (happenings pace.tick_ms items moments closings)) old new items moments
Ended D W S pace old new items moments closings TurnsSpent =
    (closings ≡ 0) × AskedAfterEach items moments × (length items ≡ pace.turns) × Makes (W (came (events pace.tick_ms items moments))) old new items moments
Ended D W S pace old new items moments closings ClockFault =
    (closings ≡ 0) × NotAskedAfterLast items moments × Makes (S (came (events pace.tick_ms items moments))) old new items moments
Ended D W S pace old new items moments closings LinkFault =
    ((closings ≡ 0) × EndsBetween S pace old new items moments) ⊎ GivesPart S (happenings pace.tick_ms items moments closings) old new items moments
Ended D W S pace old new items moments closings DiskFault =
    (closings ≡ 0) × LosesTurn S (came (events pace.tick_ms items moments)) old new items moments
Ended D W S pace old new items moments closings Memory =
    (Passes old new nothing × (items ≡ []) × (moments ≡ []) × (closings ≡ 0))
    ⊎ (((closings ≡ 0) × EndsBetween S pace old new items moments) ⊎ LosesTurn S (happenings pace.tick_ms items moments closings) old new items moments)
Ended D W S pace old new items moments closings _ = ⊥

-- a loop that ended so, with the items and moments that it took in, and the turns that it made after the end of its link
pub record Serves (D W S : Rule) (pace : Pace) (old new : Ends) (status : Status) : Type 0 where
  pub items : List Item
  pub moments : List ℕ
  pub closings : ℕ
  pub within : length items ≤ pace.turns
  pub found_end : 1 ≤ closings → FoundEnd pace old new items moments
  pub ended : Ended D W S pace old new items moments closings status

-- how a loop ends where none of its objects failed
abbrev pub IsServed : Status → Type 0
IsServed Done = Unit {0}
IsServed TurnsSpent = Unit {0}
IsServed Memory = Unit {0}
IsServed _ = ⊥

-- The requests that age, by the history of a server: which they are, and since which tick.
use Rattle.std.specs.Prelude.{◌≡◌, ℕ, ◌==◌, Bool, true, false, count_by, if◌then◌else◌, List, [], ◌∷◌, map, Option}
use Rattle.std.specs.List.{filter}
use Rattle.r2_base.specs.declared.addr.Addr.{Addr}
use Rattle.r2_base.specs.declared.event.Event.{Event}
use Rattle.r2_base.specs.declared.event.Event.TheVariants.{Datagram as DatagramEvent, Tick, Quiet}
use Rattle.r2_header.specs.Policy.{jbsq}
use Rattle.r2_frag.specs.declared.key.Key.{Key}
use Rattle.r2_frag.specs.declared.unfinished.Unfinished.{Unfinished}
use Rattle.r2_frag.specs.Assembly.{is_begun}
use Rattle.r2_server.specs.declared.timers.Timer.{Timer}
use Rattle.r2_server.specs.State.{ServerState, begin}
use Rattle.r2_server.specs.Timers.{key_for}
use Rattle.r2_server.specs.Turn.{turned}

-- a new server after these events, of which the newest comes first
unfoldable pub state_after : Addr → Option Addr → List Event → ServerState
state_after me router [] = begin me router
state_after me router (event ∷ earlier) = (turned (state_after me router earlier) event).server

-- whether an event is a tick
abbrev pub is_tick : Event → Bool
is_tick Tick = true
is_tick (DatagramEvent d) = false
is_tick Quiet = false

-- how many ticks there were
abbrev pub ticks_in : List Event → ℕ
ticks_in events = count_by is_tick events

-- how many ticks there had been when the part came that began the message with this key, which is unfinished now: where it
-- was unfinished before the last event, it began earlier, else it began then
unfoldable pub began : Addr → Option Addr → List Event → Key → ℕ
began me router [] key = 0
began me router (event ∷ earlier) key =
    if is_begun key (state_after me router earlier).unfinished then began me router earlier key else ticks_in earlier

-- whether a message is a request under JBSQ
abbrev pub is_jbsq : Unfinished → Bool
is_jbsq m = m.key.policy == jbsq

-- the requests under JBSQ among messages, in their order, each with the tick since which it ages
abbrev pub ageing : (Key → ℕ) → List Unfinished → List Timer
ageing since messages = map (λ (m : Unfinished). record { rid = m.key.rid; began = since m.key }) (filter is_jbsq messages)

-- the keys of timers, and those of requests under JBSQ
abbrev pub timer_keys : List Timer → List Key
timer_keys timers = map (λ (t : Timer). key_for t.rid) timers

abbrev pub jbsq_keys : List Unfinished → List Key
jbsq_keys messages = map (λ (m : Unfinished). m.key) (filter is_jbsq messages)

-- the timers are of the unfinished requests under JBSQ, in the order in which they were begun, each since the tick at which
-- the part came that began it
pub record AgeRight (me : Addr) (router : Option Addr) (events : List Event) (s : ServerState) : Type 0 where
  pub ticks : s.ticks ≡ ticks_in events
  pub keys : timer_keys s.timers ≡ jbsq_keys s.unfinished
  pub ages : s.timers ≡ ageing (began me router events) s.unfinished

-- so it is after any events
abbrev pub RequestsAgeRight : Type 0
RequestsAgeRight = (me : Addr) (router : Option Addr) (events : List Event) → AgeRight me router events (state_after me router events)

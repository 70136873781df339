-- What happens in a simulation, as it is drawn from a seed.
use Rattle.std.specs.Prelude.{ℕ, ◌+◌, ◌-◌, nat_lt, if◌then◌else◌, List, [], ◌∷◌, ◌++◌, length, take, drop, fold, slice_get, Option, Some, None}
use Rattle.std.specs.List.{range_with_len}
use Rattle.r2_base.specs.declared.datagram.Datagram.{Datagram}
use Rattle.rand_pcg.specs.Lcg.{Lcg}
use Rattle.hc_run.specs.Group.{Group, Receiver, Member, Aggregator, Outside, receiver_at}
use Rattle.hc_world.specs.declared.event.WorldEvent.{WorldEvent}
use Rattle.hc_world.specs.declared.event.WorldEvent.TheVariants.{ClientSend, Deliver, Tick, Crash, Restart}
use Rattle.hc_world.specs.Addresses.{group_at}
use Rattle.hc_world.specs.Runs.{run_of}
use Rattle.cmd_simulate.specs.declared.plan.Plan.{Plan}
use Rattle.cmd_simulate.specs.Drawn.{drawn, lots_of, next_lots}
use Rattle.cmd_simulate.specs.Questions.{body_of, command_of, kind_of}

-- a simulation: what is drawn from, the numbers of the packets in flight, and what happened
pub record Course : Type 0 where
  pub lots : Lcg
  pub flight : List ℕ
  pub events : List WorldEvent

-- the group of a plan
abbrev pub group_of : Plan → Group
group_of plan = group_at plan.members plan.bounds plan.aggregator

-- the packets that were ever sent
abbrev pub packets : Group → List WorldEvent → List Datagram
packets g events = (run_of g events).datagrams

-- the numbers from one on, below another
abbrev pub numbers : ℕ → ℕ → List ℕ
numbers from to = range_with_len from (to - from)

-- a lot was drawn
abbrev pub draws : Course → Course
draws x = record x { lots = next_lots x.lots }

-- an event happens, and the packets that it sends enter the flight
unfoldable pub happens : Group → WorldEvent → Course → Course
happens g e x =
    let events = x.events ++ e ∷ [] in
    let sent = numbers (length (packets g x.events)) (length (packets g events)) in
    record x { flight = x.flight ++ sent; events = events }

-- the client sends the request with a number
unfoldable pub asks : Group → ℕ → Course → Course
asks g number x =
    let command = command_of (drawn 4 x.lots) in
    happens g (ClientSend (kind_of command) (body_of command number)) (draws x)

-- who receives a packet; nobody of the group receives one that wasn't sent
abbrev pub receiver_of : Group → Option Datagram → Receiver
receiver_of g (Some d) = receiver_at g d.to
receiver_of g None = Outside

-- a packet comes to its receiver: to the client it makes no event
abbrev pub comes_to : Group → Receiver → ℕ → Course → Course
comes_to g (Member v) packet x = happens g (Deliver packet) x
comes_to g Aggregator packet x = happens g (Deliver packet) x
comes_to g Outside packet x = x

unfoldable pub comes : Group → ℕ → Course → Course
comes g packet x = comes_to g (receiver_of g (slice_get (packets g x.events) packet)) packet x

-- a packet that came may come again: it enters the flight once more
unfoldable pub repeats : Plan → ℕ → Course → Course
repeats plan packet x =
    if nat_lt (drawn 100 x.lots) plan.repeat then record (draws x) { flight = x.flight ++ packet ∷ [] } else draws x

-- a packet in flight is lost, or comes, and may come again
unfoldable pub carries : Plan → Course → ℕ → Course
carries plan x packet =
    if nat_lt (drawn 100 x.lots) plan.loss then draws x else repeats plan packet (comes (group_of plan) packet (draws x))

-- so it goes with packets one after another
unfoldable pub carries_all : Plan → List ℕ → Course → Course
carries_all plan flight x = fold (carries plan) x flight

-- all packets in flight are taken out, and visited from a place that is drawn to the end, and then those before it
abbrev pub carries_from : Plan → List ℕ → Course → Course
carries_from plan [] x = x
carries_from plan (packet ∷ more) x =
    let place = drawn (length (packet ∷ more)) x.lots in
    carries_all plan (take place (packet ∷ more)) (carries_all plan (drop place (packet ∷ more)) (draws x))

unfoldable pub carries_flight : Plan → Course → Course
carries_flight plan x = carries_from plan x.flight (record x { flight = [] })

-- a member may crash, and begin again
unfoldable pub may_crash : Plan → Course → ℕ → Course
may_crash plan x v =
    if nat_lt (drawn 1000 x.lots) plan.crash then happens (group_of plan) (Restart v) (happens (group_of plan) (Crash v) (draws x)) else draws x

-- time goes on at a member
abbrev pub ticks : Plan → Course → ℕ → Course
ticks plan x v = happens (group_of plan) (Tick v) x

-- each member in order
unfoldable pub each_may_crash : Plan → Course → Course
each_may_crash plan x = fold (may_crash plan) x (range_with_len 0 plan.members)

unfoldable pub each_ticks : Plan → Course → Course
each_ticks plan x = fold (ticks plan) x (range_with_len 0 plan.members)

-- while requests are left, one is sent in each round
unfoldable pub asks_one : Plan → ℕ → Course → Course
asks_one plan number x = if nat_lt number plan.requests then asks (group_of plan) number x else x

-- a round: a request, if one is left; then the flight; then crashes; then ticks
unfoldable pub round : Plan → Course → ℕ → Course
round plan x number = each_ticks plan (each_may_crash plan (carries_flight plan (asks_one plan number x)))

-- before the first round
abbrev pub beginning : Plan → Course
beginning plan = record { lots = lots_of plan.seed; flight = []; events = [] }

-- after so many rounds
unfoldable pub after_rounds : Plan → ℕ → Course
after_rounds plan count = fold (round plan) (beginning plan) (range_with_len 0 count)

-- how many rounds there are after that of the last request
abbrev pub more_rounds : ℕ
more_rounds = 200

-- all that happens in a simulation
unfoldable pub generated : Plan → List WorldEvent
generated plan = (after_rounds plan (plan.requests + more_rounds)).events

-- What the code has is what the simulation tells.
use Rattle.std.proofs.Common.{◌≡◌, ℕ, ◌+◌, ◌<◌, ◌≤◌, Bool, true, false, List, [], ◌∷◌, ◌++◌, length, take, drop, get_or, min, Option, None, Some, refl, sym, ap, subst, ◌∙◌, arith}
use Rattle.std.specs.Prelude.{All, fold, slice_get}
use Rattle.std.specs.List.{range_with_len}
use Rattle.std.proofs.lemmas.Bool.{lt-ltb, le-ltb}
use Rattle.std.proofs.lemmas.List.{take_more}
use Rattle.std.proofs.lemmas.List.Elements.{All-drop, All-take}
use Rattle.cmd_simulate.specs.Plans.{IsPlan}
use Rattle.std.proofs.lemmas.List.Sums.{fold-append}
use Rattle.r2_base.specs.declared.entry.Kind.{Kind}
use Rattle.r2_base.specs.declared.datagram.Datagram.{Datagram}
use Rattle.rand_pcg.specs.Lcg.{Lcg}
use Rattle.hc_run.specs.Group.{Group, Receiver, Member, Aggregator, Outside, receiver_at}
use Rattle.hc_world.specs.declared.event.WorldEvent.{WorldEvent}
use Rattle.hc_world.specs.declared.event.WorldEvent.TheVariants.{ClientSend, Crash, Deliver, Restart, Tick}
use Rattle.hc_world.specs.Events.{IsPossible, MayCome}
use Rattle.hc_world.specs.Runs.{ShowsRun, run_of}
use Rattle.hc_world.specs.Steps.{seen_after}
use Rattle.hc_world.proofs.Shown.{shows-more}
use Rattle.hc_world.specs.Seen.{Seen, datagrams_in, is_for_group, is_for_group_in, is_inside, seen}
use Rattle.cmd_simulate.specs.declared.plan.Plan.{Plan}
use Rattle.cmd_simulate.specs.Drawn.{drawn, next_lots}
use Rattle.cmd_simulate.specs.declared.questions.Command.{Command}
use Rattle.cmd_simulate.specs.Questions.{body_of, command_of, kind_of}
use Rattle.cmd_simulate.specs.Generator.{Course, asks, asks_one, carries, carries_all, carries_flight, carries_from, comes, comes_to, draws, each_may_crash, group_of, happens, may_crash, numbers, packets, receiver_of, repeats, ticks}
use Rattle.cmd_simulate.specs.Courses.{GoesOn, IsCourse, Tells, TellsAt, TellsSome}
use Rattle.cmd_simulate.proofs.Going.{all-below, down-after, group-shown}
use Rattle.cmd_simulate.proofs.RunsOn.{goes-all, goes-carries, goes-crash, goes-crashes, goes-draws, goes-flight, goes-one, goes-tick, group-size, may-ask, range-more, receives-within, without}

-- the world of what is told
tells-world : (plan : Plan) (number : ℕ) (x : Course) (world : Option Seen) (flight : List ℕ) (lots : Lcg) → (is : IsCourse plan number x) → Tells plan x world flight lots → world ≡ Some is.world
tells-world plan number x world flight lots is tells = tells.shows.seen ∙ sym is.shows.seen

-- the packets of what is told
pub tells-packets : (plan : Plan) (x : Course) (world : Option Seen) (flight : List ℕ) (lots : Lcg) → Tells plan x world flight lots → datagrams_in world ≡ packets (group_of plan) x.events
unfolding seen
tells-packets plan x world flight lots tells = ap datagrams_in tells.shows.seen

-- An event --

pub tells-happens : (plan : Plan) (x : Course) (e : WorldEvent) (world world' : Option Seen) (flight flight' : List ℕ) (lots : Lcg) → Tells plan x world flight lots
    → ShowsRun (group_of plan) (x.events ++ e ∷ []) world' → flight' ≡ flight ++ numbers (length (datagrams_in world)) (length (datagrams_in world'))
    → Tells plan (happens (group_of plan) e x) world' flight' lots
unfolding happens seen
tells-happens plan x e world world' flight flight' lots tells shows entered =
    let before : length (datagrams_in world) ≡ length (packets (group_of plan) x.events) = ap (λ (w : Option Seen). length (datagrams_in w)) tells.shows.seen in
    let after : length (datagrams_in world') ≡ length (packets (group_of plan) (x.events ++ e ∷ [])) = ap (λ (w : Option Seen). length (datagrams_in w)) shows.seen in
    record {
      shows = shows;
      flight_is = entered ∙ ap (λ (f : List ℕ). f ++ numbers (length (datagrams_in world)) (length (datagrams_in world'))) tells.flight_is
          ∙ ap (λ (n : ℕ). x.flight ++ numbers n (length (datagrams_in world'))) before ∙ ap (λ (n : ℕ). x.flight ++ numbers (length (packets (group_of plan) x.events)) n) after;
      lots_are = tells.lots_are;
    }

-- a lot is drawn
pub tells-draws : (plan : Plan) (x : Course) (world : Option Seen) (flight : List ℕ) (lots lots' : Lcg) → Tells plan x world flight lots → lots' ≡ next_lots lots → Tells plan (draws x) world flight lots'
tells-draws plan x world flight lots lots' tells next = record { shows = tells.shows; flight_is = tells.flight_is; lots_are = next ∙ ap next_lots tells.lots_are }

pub at-draws : (plan : Plan) (number : ℕ) (world : Option Seen) (flight : List ℕ) (lots lots' : Lcg) → TellsAt plan number world flight lots → lots' ≡ next_lots lots → TellsAt plan number world flight lots'
at-draws plan number world flight lots lots' at next =
    record { course = draws at.course; is = goes-draws plan number at.course at.is; tells = tells-draws plan at.course world flight lots lots' at.tells next }

pub some-draws : (plan : Plan) (world : Option Seen) (flight : List ℕ) (lots lots' : Lcg) → TellsSome plan world flight lots → lots' ≡ next_lots lots → TellsSome plan world flight lots'
some-draws plan world flight lots lots' some next = record { number = some.number; at = at-draws plan some.number world flight lots lots' some.at next }

-- Packets --

pub tells-again : (plan : Plan) (packet : ℕ) (x : Course) (world : Option Seen) (flight flight' : List ℕ) (lots lots' : Lcg) → Tells plan x world flight lots → lots' ≡ next_lots lots
    → drawn 100 lots < plan.repeat → flight' ≡ flight ++ packet ∷ [] → Tells plan (repeats plan packet x) world flight' lots'
unfolding repeats
tells-again plan packet x world flight flight' lots lots' tells next less entered =
    let left : drawn 100 x.lots < plan.repeat = subst (λ (l : Lcg). drawn 100 l < plan.repeat) tells.lots_are less in
    rw (lt-ltb (drawn 100 x.lots) plan.repeat left)
    (record {
      shows = tells.shows;
      flight_is = entered ∙ ap (λ (f : List ℕ). f ++ packet ∷ []) tells.flight_is;
      lots_are = next ∙ ap next_lots tells.lots_are;
    })

pub tells-once : (plan : Plan) (packet : ℕ) (x : Course) (world : Option Seen) (flight : List ℕ) (lots lots' : Lcg) → Tells plan x world flight lots → lots' ≡ next_lots lots
    → plan.repeat ≤ drawn 100 lots → Tells plan (repeats plan packet x) world flight lots'
unfolding repeats
tells-once plan packet x world flight lots lots' tells next most =
    let left : plan.repeat ≤ drawn 100 x.lots = subst (λ (l : Lcg). plan.repeat ≤ drawn 100 l) tells.lots_are most in
    rw (le-ltb (drawn 100 x.lots) plan.repeat left) (record { shows = tells.shows; flight_is = tells.flight_is; lots_are = next ∙ ap next_lots tells.lots_are })

-- what goes on from what is told, by a part of the simulation
pub next-some : (plan : Plan) (f : Course → Course) (world : Option Seen) (flight : List ℕ) (lots : Lcg) (world' : Option Seen) (flight' : List ℕ) (lots' : Lcg) → TellsSome plan world flight lots
    → ((n : ℕ) (x : Course) → IsCourse plan n x → Tells plan x world flight lots → (m : ℕ) × GoesOn plan m x (f x))
    → ((x : Course) → Tells plan x world flight lots → Tells plan (f x) world' flight' lots') → TellsSome plan world' flight' lots'
next-some plan f world flight lots world' flight' lots' some goes told =
    let at = some.at in
    let gone = goes some.number at.course at.is at.tells in
    record { number = gone.0; at = record { course = f at.course; is = gone.1.is; tells = told at.course at.tells } }

-- and no packet is forgotten
pub next-more : (plan : Plan) (f : Course → Course) (world : Option Seen) (flight : List ℕ) (lots : Lcg) (world' : Option Seen) (flight' : List ℕ) (lots' : Lcg) → TellsSome plan world flight lots
    → ((n : ℕ) (x : Course) → IsCourse plan n x → Tells plan x world flight lots → (m : ℕ) × GoesOn plan m x (f x))
    → ((x : Course) → Tells plan x world flight lots → Tells plan (f x) world' flight' lots') → length (datagrams_in world) ≤ length (datagrams_in world')
next-more plan f world flight lots world' flight' lots' some goes told =
    let at = some.at in
    let gone = goes some.number at.course at.is at.tells in
    let more = gone.1.more in
    let old = ap length (tells-packets plan at.course world flight lots at.tells) in
    let new = ap length (tells-packets plan (f at.course) world' flight' lots' (told at.course at.tells)) in
    omega (arith, more, old, new)

-- The client --

pub possible-asks : (plan : Plan) (number : ℕ) (world : Option Seen) (flight : List ℕ) (lots : Lcg) (c : Command) (kind : Kind) (body : List ℕ) → TellsAt plan number world flight lots → number < 60000
    → kind ≡ kind_of c → body ≡ body_of c number → IsPossible world (ClientSend kind body)
possible-asks plan number world flight lots c kind body at less kind_is body_is =
    let same = tells-world plan number at.course world flight lots at.is at.tells in
    let there = may-ask at.is.world c number at.is.requests less in
    subst (λ (w : Option Seen). IsPossible w (ClientSend kind body)) (sym same)
    (subst (λ (b : List ℕ). IsPossible (Some at.is.world) (ClientSend kind b)) (sym body_is)
    (subst (λ (k : Kind). IsPossible (Some at.is.world) (ClientSend k (body_of c number))) (sym kind_is) there))

pub tells-asks : (plan : Plan) (number : ℕ) (x : Course) (world world' : Option Seen) (flight flight' : List ℕ) (lots lots1 lots2 : Lcg) (c : Command) (kind : Kind) (body : List ℕ)
    → Tells plan x world flight lots → lots1 ≡ next_lots lots → c ≡ command_of (drawn 4 lots) → kind ≡ kind_of c → body ≡ body_of c number
    → ((p : Plan) (y : Course) → Tells p y world flight lots1 → Tells p (happens (group_of p) (ClientSend kind body) y) world' flight' lots2)
    → Tells plan (asks (group_of plan) number x) world' flight' lots2
unfolding asks
tells-asks plan number x world world' flight flight' lots lots1 lots2 c kind body tells next drew kind_is body_is told =
    let command : c ≡ command_of (drawn 4 x.lots) = drew ∙ ap (λ (l : Lcg). command_of (drawn 4 l)) tells.lots_are in
    subst (λ (d : Command). Tells plan (happens (group_of plan) (ClientSend (kind_of d) (body_of d number)) (draws x)) world' flight' lots2) command
    (subst (λ (b : List ℕ). Tells plan (happens (group_of plan) (ClientSend (kind_of c) b) (draws x)) world' flight' lots2) body_is
    (subst (λ (k : Kind). Tells plan (happens (group_of plan) (ClientSend k body) (draws x)) world' flight' lots2) kind_is
    (told plan (draws x) (tells-draws plan x world flight lots lots1 tells next))))

pub one-left : (plan : Plan) (number : ℕ) (x : Course) → number < plan.requests → asks_one plan number x ≡ asks (group_of plan) number x
unfolding asks_one
one-left plan number x less = rw (lt-ltb number plan.requests less) refl

pub one-none : (plan : Plan) (number : ℕ) (x : Course) → plan.requests ≤ number → asks_one plan number x ≡ x
unfolding asks_one
one-none plan number x most = rw (le-ltb number plan.requests most) refl

pub at-left : (plan : Plan) (number : ℕ) (world : Option Seen) (flight : List ℕ) (lots : Lcg) → TellsAt plan (min number plan.requests) world flight lots → number < plan.requests → TellsAt plan number world flight lots
at-left plan number world flight lots at less =
    let same : min number plan.requests ≡ number = omega (arith, less) in
    subst (λ (n : ℕ). TellsAt plan n world flight lots) same at

-- Receivers --

inside-by : (plan : Plan) (x : Course) (world : Option Seen) (flight : List ℕ) (lots : Lcg) (packet : ℕ) (b : Bool) → Tells plan x world flight lots → is_for_group_in world packet ≡ b
    → is_inside (receiver_of (group_of plan) (slice_get (packets (group_of plan) x.events) packet)) ≡ b
unfolding seen
inside-by plan x world flight lots packet b tells is =
    let g = group_of plan in
    let there : is_for_group (seen g (run_of g x.events)) (slice_get (packets g x.events) packet) ≡ b = subst (λ (w : Option Seen). is_for_group_in w packet ≡ b) tells.shows.seen is in
    by (slice_get (packets g x.events) packet) there
  where
    by : (found : Option Datagram) → is_for_group (seen (group_of plan) (run_of (group_of plan) x.events)) found ≡ b → is_inside (receiver_of (group_of plan) found) ≡ b
    by (Some d) e = e
    by None e = e

pub comes-inside : (plan : Plan) (x : Course) (world : Option Seen) (flight : List ℕ) (lots : Lcg) (packet : ℕ) → Tells plan x world flight lots → is_for_group_in world packet ≡ true
    → comes (group_of plan) packet x ≡ happens (group_of plan) (Deliver packet) x
unfolding comes
comes-inside plan x world flight lots packet tells is =
    by (receiver_of (group_of plan) (slice_get (packets (group_of plan) x.events) packet)) (inside-by plan x world flight lots packet true tells is)
  where
    by : (r : Receiver) → is_inside r ≡ true → comes_to (group_of plan) r packet x ≡ happens (group_of plan) (Deliver packet) x
    by (Member v) e = refl
    by Aggregator e = refl
    by Outside e = absurd cc

pub comes-outside : (plan : Plan) (x : Course) (world : Option Seen) (flight : List ℕ) (lots : Lcg) (packet : ℕ) → Tells plan x world flight lots → is_for_group_in world packet ≡ false
    → comes (group_of plan) packet x ≡ x
unfolding comes
comes-outside plan x world flight lots packet tells is =
    by (receiver_of (group_of plan) (slice_get (packets (group_of plan) x.events) packet)) (inside-by plan x world flight lots packet false tells is)
  where
    by : (r : Receiver) → is_inside r ≡ false → comes_to (group_of plan) r packet x ≡ x
    by (Member v) e = absurd cc
    by Aggregator e = absurd cc
    by Outside e = refl

pub possible-comes : (plan : Plan) (world : Option Seen) (flight : List ℕ) (lots : Lcg) (packet : ℕ) → TellsSome plan world flight lots → is_for_group_in world packet ≡ true → IsPossible world (Deliver packet)
possible-comes plan world flight lots packet some is =
    let at = some.at in
    let same = tells-world plan some.number at.course world flight lots at.is at.tells in
    subst (λ (w : Option Seen). IsPossible w (Deliver packet)) (sym same)
    (by (slice_get at.is.world.datagrams packet) refl (subst (λ (w : Option Seen). is_for_group_in w packet ≡ true) same is))
  where
    world_group : some.at.is.world.group ≡ group_of plan
    world_group = group-shown (group_of plan) some.at.course.events some.at.is.world some.at.is.shows

    to : (d : Datagram) → slice_get some.at.is.world.datagrams packet ≡ Some d → (r : Receiver) → receiver_at some.at.is.world.group d.to ≡ r → is_inside r ≡ true → MayCome some.at.is.world packet
    to d sent (Member v) e inside =
        let within = receives-within (group_of plan) d.to v (subst (λ (g : Group). receiver_at g d.to ≡ Member v) world_group e) in
        let size = group-size plan in
        record { receiver = Member v; sent = record { datagram = d; sent = sent; to = e }; takes = some.at.is.up v (omega (arith, within, size)) }
    to d sent Aggregator e inside = record { receiver = Aggregator; sent = record { datagram = d; sent = sent; to = e }; takes = tt }
    to d sent Outside e inside = absurd cc

    by : (found : Option Datagram) → slice_get some.at.is.world.datagrams packet ≡ found → is_for_group some.at.is.world found ≡ true → MayCome some.at.is.world packet
    by (Some d) sent e = to d sent (receiver_at some.at.is.world.group d.to) refl e
    by None sent e = absurd cc

-- Carrying --

pub carries-lost : (plan : Plan) (packet : ℕ) (x : Course) → drawn 100 x.lots < plan.loss → carries plan x packet ≡ draws x
unfolding carries
carries-lost plan packet x less = rw (lt-ltb (drawn 100 x.lots) plan.loss less) refl

pub carries-came : (plan : Plan) (packet : ℕ) (x : Course) → plan.loss ≤ drawn 100 x.lots → carries plan x packet ≡ repeats plan packet (comes (group_of plan) packet (draws x))
unfolding carries
carries-came plan packet x most = rw (le-ltb (drawn 100 x.lots) plan.loss most) refl

-- a carried packet goes on from what is told
pub carry-goes : (plan : Plan) (packet : ℕ) (world : Option Seen) (flight : List ℕ) (lots : Lcg) → packet < length (datagrams_in world) → (n : ℕ) (x : Course) → IsCourse plan n x → Tells plan x world flight lots
    → (m : ℕ) × GoesOn plan m x (carries plan x packet)
carry-goes plan packet world flight lots sent n x is tells =
    let same = ap length (tells-packets plan x world flight lots tells) in
    (n, goes-carries plan n packet x (omega (arith, sent, same)) is)

pub all-goes : (plan : Plan) (flight' : List ℕ) (world : Option Seen) (flight : List ℕ) (lots : Lcg) → All (λ k. k < length (datagrams_in world)) flight' → (n : ℕ) (x : Course) → IsCourse plan n x → Tells plan x world flight lots
    → (m : ℕ) × GoesOn plan m x (carries_all plan flight' x)
all-goes plan flight' world flight lots sent n x is tells =
    let same = tells-packets plan x world flight lots tells in
    (n, goes-all plan n flight' x (subst (λ (ds : List Datagram). All (λ k. k < length ds) flight') same sent) is)

pub all-more : (plan : Plan) (xs : List ℕ) (i d : ℕ) (x : Course) → i < length xs → carries_all plan (take (i + 1) xs) x ≡ carries plan (carries_all plan (take i xs) x) (get_or xs i d)
unfolding carries_all
all-more plan xs i d x inside = ap (fold (carries plan) x) (take_more xs i d inside) ∙ fold-append (carries plan) x (take i xs) (get_or xs i d ∷ [])

pub all-none : (plan : Plan) (x : Course) → carries_all plan [] x ≡ x
unfolding carries_all
all-none plan x = refl

-- a flight that is taken out
from-some : (plan : Plan) (flight : List ℕ) (x : Course) → 0 < length flight
    → carries_from plan flight x ≡ carries_all plan (take (drawn (length flight) x.lots) flight) (carries_all plan (drop (drawn (length flight) x.lots) flight) (draws x))
from-some plan [] x less = absurd (omega (arith, less))
from-some plan (p ∷ more) x less = refl

from-none : (plan : Plan) (flight : List ℕ) (x : Course) → length flight ≤ 0 → carries_from plan flight x ≡ x
from-none plan [] x most = refl
from-none plan (p ∷ more) x most = absurd (omega (arith, most))

pub flight-none : (plan : Plan) (x : Course) (world : Option Seen) (flight : List ℕ) (lots : Lcg) → Tells plan x world flight lots → length flight ≤ 0 → Tells plan (carries_flight plan x) world [] lots
unfolding carries_flight
flight-none plan x world flight lots tells none =
    let empty : Course = record x { flight = [] } in
    let most : length x.flight ≤ 0 = subst (λ (f : List ℕ). length f ≤ 0) tells.flight_is none in
    rw (from-none plan x.flight empty most) (record { shows = tells.shows; flight_is = refl; lots_are = tells.lots_are })

-- what is told once the flight was taken out and a place drawn
pub taken-tells : (plan : Plan) (x : Course) (world : Option Seen) (flight : List ℕ) (lots lots' : Lcg) → Tells plan x world flight lots → lots' ≡ next_lots lots → Tells plan (draws (record x { flight = [] })) world [] lots'
taken-tells plan x world flight lots lots' tells next = record { shows = tells.shows; flight_is = refl; lots_are = next ∙ ap next_lots tells.lots_are }

pub taken-some : (plan : Plan) (world : Option Seen) (flight : List ℕ) (lots lots' : Lcg) → TellsSome plan world flight lots → lots' ≡ next_lots lots → TellsSome plan world [] lots'
taken-some plan world flight lots lots' some next =
    let at = some.at in
    record {
      number = some.number;
      at = record {
        course = draws (record at.course { flight = [] });
        is = goes-draws plan some.number (record at.course { flight = [] }) (without plan some.number at.course at.is);
        tells = taken-tells plan at.course world flight lots lots' at.tells next;
      };
    }

pub flight-sent : (plan : Plan) (world : Option Seen) (flight : List ℕ) (lots : Lcg) → TellsSome plan world flight lots → All (λ k. k < length (datagrams_in world)) flight
flight-sent plan world flight lots some =
    let at = some.at in
    subst (λ (f : List ℕ). All (λ k. k < length (datagrams_in world)) f) (sym at.tells.flight_is)
    (subst (λ (ds : List Datagram). All (λ k. k < length ds) at.course.flight) (sym (tells-packets plan at.course world flight lots at.tells)) at.is.flight)

pub flight-some : (plan : Plan) (x : Course) (world : Option Seen) (flight : List ℕ) (lots : Lcg) (place : ℕ) → Tells plan x world flight lots → 0 < length flight → place ≡ drawn (length flight) lots
    → carries_flight plan x ≡ carries_all plan (take place flight) (carries_all plan (drop place flight) (draws (record x { flight = [] })))
unfolding carries_flight
flight-some plan x world flight lots place tells some drew =
    let empty : Course = record x { flight = [] } in
    let less : 0 < length x.flight = subst (λ (f : List ℕ). 0 < length f) tells.flight_is some in
    let at : place ≡ drawn (length x.flight) x.lots = drew ∙ ap (λ (f : List ℕ). drawn (length f) lots) tells.flight_is ∙ ap (drawn (length x.flight)) tells.lots_are in
    from-some plan x.flight empty less
    ∙ ap (λ (n : ℕ). carries_all plan (take n x.flight) (carries_all plan (drop n x.flight) (draws empty))) (sym at)
    ∙ ap (λ (f : List ℕ). carries_all plan (take place f) (carries_all plan (drop place f) (draws empty))) (sym tells.flight_is)

-- Members --

pub crash-none : (plan : Plan) (v : ℕ) (x : Course) → plan.crash ≤ drawn 1000 x.lots → may_crash plan x v ≡ draws x
unfolding may_crash
crash-none plan v x most = rw (le-ltb (drawn 1000 x.lots) plan.crash most) refl

pub crash-some : (plan : Plan) (v : ℕ) (x : Course) → drawn 1000 x.lots < plan.crash → may_crash plan x v ≡ happens (group_of plan) (Restart v) (happens (group_of plan) (Crash v) (draws x))
unfolding may_crash
crash-some plan v x less = rw (lt-ltb (drawn 1000 x.lots) plan.crash less) refl

pub possible-up : (plan : Plan) (world : Option Seen) (flight : List ℕ) (lots : Lcg) (v : ℕ) → TellsSome plan world flight lots → v < plan.members → IsPossible world (Tick v) × IsPossible world (Crash v)
possible-up plan world flight lots v some member =
    let at = some.at in
    let same = tells-world plan some.number at.course world flight lots at.is at.tells in
    (subst (λ (w : Option Seen). IsPossible w (Tick v)) (sym same) (at.is.up v member), subst (λ (w : Option Seen). IsPossible w (Crash v)) (sym same) (at.is.up v member))

pub possible-again : (plan : Plan) (world world' : Option Seen) (flight flight' : List ℕ) (lots lots' : Lcg) (v : ℕ) → TellsSome plan world flight lots → v < plan.members
    → ((p : Plan) (y : Course) → Tells p y world flight lots → Tells p (happens (group_of p) (Crash v) y) world' flight' lots') → IsPossible world' (Restart v)
unfolding happens
possible-again plan world world' flight flight' lots lots' v some member told =
    let at = some.at in
    let g = group_of plan in
    let w = at.is.world in
    let up = at.is.up v member in
    let events = at.course.events ++ Crash v ∷ [] in
    let shows = shows-more g at.course.events (Crash v) w (Some w) (Some (seen_after w (Crash v))) at.is.shows refl up refl in
    let after = told plan at.course at.tells in
    let same : world' ≡ Some (seen_after w (Crash v)) = after.shows.seen ∙ sym shows.seen in
    let here = group-shown g at.course.events w at.is.shows in
    let groups = group-shown g events (seen_after w (Crash v)) shows ∙ sym here in
    let size = group-size plan in
    let inside : v < length w.group.members = subst (λ (h : Group). v < length h.members) (sym here) (omega (arith, member, size)) in
    subst (λ (x : Option Seen). IsPossible x (Restart v)) (sym same) (down-after w v inside up groups)

-- one member more
pub each-more : (does : Course → ℕ → Course) (x : Course) (v : ℕ) → fold does x (range_with_len 0 (v + 1)) ≡ does (fold does x (range_with_len 0 v)) v
each-more does x v = ap (fold does x) (range-more v) ∙ fold-append does x (range_with_len 0 v) (v ∷ [])

-- an event, by the numbers of packets before and after it
pub tells-stepped : (plan : Plan) (x : Course) (e : WorldEvent) (world world' : Option Seen) (flight flight' : List ℕ) (lots : Lcg) (before after : ℕ) → Tells plan x world flight lots
    → ShowsRun (group_of plan) (x.events ++ e ∷ []) world' → before ≡ length (datagrams_in world) → after ≡ length (datagrams_in world') → flight' ≡ flight ++ numbers before after
    → Tells plan (happens (group_of plan) e x) world' flight' lots
tells-stepped plan x e world world' flight flight' lots before after tells shows first last entered =
    tells-happens plan x e world world' flight flight' lots tells shows
    (entered ∙ ap (λ (n : ℕ). flight ++ numbers n after) first ∙ ap (λ (n : ℕ). flight ++ numbers (length (datagrams_in world)) n) last)

-- A flight that was taken out --

pub taken-none : (plan : Plan) (x : Course) (world : Option Seen) (flight now : List ℕ) (lots : Lcg) → Tells plan x world flight lots → length flight ≤ 0 → now ≡ [] → Tells plan (carries_flight plan x) world now lots
taken-none plan x world flight now lots tells none empty = subst (λ (f : List ℕ). Tells plan (carries_flight plan x) world f lots) (sym empty) (flight-none plan x world flight lots tells none)

pub taken-goes : (plan : Plan) (world : Option Seen) (flight now : List ℕ) (lots lots' : Lcg) → TellsSome plan world flight lots → lots' ≡ next_lots lots → now ≡ [] → TellsSome plan world now lots'
taken-goes plan world flight now lots lots' some next empty = subst (λ (f : List ℕ). TellsSome plan world f lots') (sym empty) (taken-some plan world flight lots lots' some next)

-- the first of the two parts was carried
pub part-some : (plan : Plan) (part : List ℕ) (world : Option Seen) (flight : List ℕ) (lots : Lcg) (world' : Option Seen) (flight' : List ℕ) (lots' : Lcg) → TellsSome plan world flight lots
    → All (λ k. k < length (datagrams_in world)) part → ((x : Course) → Tells plan x world flight lots → Tells plan (carries_all plan part x) world' flight' lots') → TellsSome plan world' flight' lots'
part-some plan part world flight lots world' flight' lots' some sent told =
    next-some plan (carries_all plan part) world flight lots world' flight' lots' some (all-goes plan part world flight lots sent) told

pub part-sent : (plan : Plan) (part other : List ℕ) (world : Option Seen) (flight : List ℕ) (lots : Lcg) (world' : Option Seen) (flight' : List ℕ) (lots' : Lcg) → TellsSome plan world flight lots
    → All (λ k. k < length (datagrams_in world)) part → All (λ k. k < length (datagrams_in world)) other → ((x : Course) → Tells plan x world flight lots → Tells plan (carries_all plan part x) world' flight' lots')
    → All (λ k. k < length (datagrams_in world')) other
part-sent plan part other world flight lots world' flight' lots' some sent others told =
    all-below (length (datagrams_in world)) (length (datagrams_in world')) other
    (next-more plan (carries_all plan part) world flight lots world' flight' lots' some (all-goes plan part world flight lots sent) told) others

pub taken-told : (plan : Plan) (x : Course) (world : Option Seen) (flight now before after : List ℕ) (lots lots1 : Lcg) (place : ℕ) (world' : Option Seen) (flight' : List ℕ) (lots' : Lcg) (world'' : Option Seen) (flight'' : List ℕ) (lots'' : Lcg)
    → Tells plan x world flight lots → now ≡ [] → lots1 ≡ next_lots lots → 0 < length flight → place ≡ drawn (length flight) lots → before ≡ take place flight → after ≡ drop place flight
    → ((y : Course) → Tells plan y world now lots1 → Tells plan (carries_all plan after y) world' flight' lots')
    → ((y : Course) → Tells plan y world' flight' lots' → Tells plan (carries_all plan before y) world'' flight'' lots'')
    → Tells plan (carries_flight plan x) world'' flight'' lots''
taken-told plan x world flight now before after lots lots1 place world' flight' lots' world'' flight'' lots'' tells empty next some drew first last one two =
    let start : Course = draws (record x { flight = [] }) in
    let begun : Tells plan start world now lots1 = subst (λ (f : List ℕ). Tells plan start world f lots1) (sym empty) (taken-tells plan x world flight lots lots1 tells next) in
    let done = two (carries_all plan after start) (one start begun) in
    rw (flight-some plan x world flight lots place tells some drew)
    (subst (λ (b : List ℕ). Tells plan (carries_all plan b (carries_all plan (drop place flight) start)) world'' flight'' lots'') first
    (subst (λ (a : List ℕ). Tells plan (carries_all plan before (carries_all plan a start)) world'' flight'' lots'') last done))

pub part-of : (plan : Plan) (world : Option Seen) (flight : List ℕ) (lots : Lcg) (place : ℕ) (before after : List ℕ) → TellsSome plan world flight lots → before ≡ take place flight → after ≡ drop place flight
    → All (λ k. k < length (datagrams_in world)) before × All (λ k. k < length (datagrams_in world)) after
part-of plan world flight lots place before after some first last =
    let all = flight-sent plan world flight lots some in
    let below : ℕ → Type 0 = λ k. k < length (datagrams_in world) in
    (subst (λ (l : List ℕ). All below l) (sym first) (All-take below place flight all), subst (λ (l : List ℕ). All below l) (sym last) (All-drop below place flight all))

-- Rounds --

pub one-some : (plan : Plan) (number : ℕ) (world : Option Seen) (flight : List ℕ) (lots : Lcg) (world' : Option Seen) (flight' : List ℕ) (lots' : Lcg) → IsPlan plan → TellsAt plan (min number plan.requests) world flight lots
    → ((x : Course) → Tells plan x world flight lots → Tells plan (asks_one plan number x) world' flight' lots') → TellsSome plan world' flight' lots'
one-some plan number world flight lots world' flight' lots' planned at told =
    record {
      number = min (number + 1) plan.requests;
      at = record { course = asks_one plan number at.course; is = (goes-one plan number at.course planned at.is).is; tells = told at.course at.tells };
    }

pub flight-goes : (plan : Plan) (world : Option Seen) (flight : List ℕ) (lots : Lcg) (world' : Option Seen) (flight' : List ℕ) (lots' : Lcg) → TellsSome plan world flight lots
    → ((x : Course) → Tells plan x world flight lots → Tells plan (carries_flight plan x) world' flight' lots') → TellsSome plan world' flight' lots'
flight-goes plan world flight lots world' flight' lots' some told =
    next-some plan (carries_flight plan) world flight lots world' flight' lots' some (λ n x is tells. (n, goes-flight plan n x is)) told

pub crashes-go : (plan : Plan) (world : Option Seen) (flight : List ℕ) (lots : Lcg) (world' : Option Seen) (flight' : List ℕ) (lots' : Lcg) → TellsSome plan world flight lots
    → ((x : Course) → Tells plan x world flight lots → Tells plan (each_may_crash plan x) world' flight' lots') → TellsSome plan world' flight' lots'
crashes-go plan world flight lots world' flight' lots' some told =
    next-some plan (each_may_crash plan) world flight lots world' flight' lots' some (λ n x is tells. (n, goes-crashes plan n x is)) told

pub crash-goes : (plan : Plan) (v : ℕ) (world : Option Seen) (flight : List ℕ) (lots : Lcg) (world' : Option Seen) (flight' : List ℕ) (lots' : Lcg) → v < plan.members → TellsSome plan world flight lots
    → ((x : Course) → Tells plan x world flight lots → Tells plan (may_crash plan x v) world' flight' lots') → TellsSome plan world' flight' lots'
crash-goes plan v world flight lots world' flight' lots' member some told =
    next-some plan (λ x. may_crash plan x v) world flight lots world' flight' lots' some (λ n x is tells. (n, goes-crash plan n v x member is)) told

pub tick-goes : (plan : Plan) (v : ℕ) (world : Option Seen) (flight : List ℕ) (lots : Lcg) (world' : Option Seen) (flight' : List ℕ) (lots' : Lcg) → v < plan.members → TellsSome plan world flight lots
    → ((x : Course) → Tells plan x world flight lots → Tells plan (ticks plan x v) world' flight' lots') → TellsSome plan world' flight' lots'
tick-goes plan v world flight lots world' flight' lots' member some told =
    next-some plan (λ x. ticks plan x v) world flight lots world' flight' lots' some (λ n x is tells. (n, goes-tick plan n v x member is)) told

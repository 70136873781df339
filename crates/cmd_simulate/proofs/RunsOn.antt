-- What happens in a simulation is possible: each part of a round goes on from where the one before led.
use Rattle.std.proofs.Common.{◌≡◌, ℕ, zero, suc, ◌+◌, ◌<◌, ◌≤◌, Bool, true, false, List, [], ◌∷◌, ◌++◌, length, take, drop, min, Option, None, Some, refl, sym, ap, subst, ◌∙◌, arith, append_assoc, ◌-◌}
use Rattle.std.specs.Prelude.{All, fold, is_some, nat_lt, position, slice_get, if◌then◌else◌}
use Rattle.std.specs.List.{range_with_len}
use Rattle.std.proofs.lemmas.Bool.{ltb-false, ltb-true}
use Rattle.std.proofs.lemmas.List.{get_or-replicate}
use Rattle.std.proofs.lemmas.List.Elements.{All-append, All-cons, All-drop, All-nil, All-take}
use Rattle.std.proofs.lemmas.List.FromFn.{get_or-range_with_len, length-map-range_with_len, length-range_with_len}
use Rattle.std.proofs.lemmas.List.Quantifiers.{position-Some}
use Rattle.std.proofs.lemmas.List.Sums.{fold-append}
use Rattle.r2_base.specs.declared.addr.Addr.{Addr}
use Rattle.r2_base.specs.declared.datagram.Datagram.{Datagram}
use Rattle.r2_base.specs.Entry.{is_request}
use Rattle.r2_base.specs.Limits.{most_body}
use Rattle.r2_base.specs.Names.{same_addr}
use Rattle.r2_base.specs.Numbers.{AreBytes}
use Rattle.r2_base.proofs.NumberBytes.{length-u32_bytes, wide32}
use Rattle.hc_run.specs.Group.{Group, Receiver, Member, Aggregator, Outside, receiver_at, receiver_by}
use Rattle.hc_run.specs.State.{Replica, beginning as group_beginning, started, stopped}
use Rattle.hc_world.specs.declared.event.WorldEvent.TheVariants.{ClientSend, Crash, Deliver, Restart, Tick}
use Rattle.hc_world.specs.Addresses.{group_at, member_address}
use Rattle.hc_world.specs.Events.{MayCome, MaySend}
use Rattle.hc_world.specs.Notes.{capped}
use Rattle.hc_world.specs.Seen.{Seen, seen}
use Rattle.hc_world.proofs.Begun.{group-there, shows-none}
use Rattle.hc_world.proofs.OneThread.{groups_serve_throughout}
use Rattle.cmd_simulate.specs.declared.plan.Plan.{Plan}
use Rattle.cmd_simulate.specs.Drawn.{drawn}
use Rattle.cmd_simulate.specs.declared.questions.Command.{Command}
use Rattle.cmd_simulate.specs.declared.questions.Command.TheVariants.{Put, Get, Count, Delete}
use Rattle.cmd_simulate.specs.Questions.{body_of, command_of, key_of, kind_of}
use Rattle.cmd_simulate.specs.Generator.{Course, after_rounds, asks, asks_one, beginning, carries, carries_all, carries_flight, carries_from, comes, comes_to, draws, each_may_crash, each_ticks, generated, group_of, happens, may_crash, more_rounds, packets, receiver_of, repeats, round, ticks}
use Rattle.cmd_simulate.specs.Courses.{GoesOn, IsCourse}
use Rattle.cmd_simulate.specs.Laws.{SimulationsServeAsOne}
use Rattle.cmd_simulate.specs.Plans.{IsPlan}
use Rattle.cmd_simulate.proofs.Going.{all-below, goes-again, goes-happens, group-shown, packets-shown, stays-asked, stays-delivered, stays-tick}

-- Going on --

pub goes-not : (plan : Plan) (number : ℕ) (x : Course) → IsCourse plan number x → GoesOn plan number x x
goes-not plan number x is = record { is = is; more = omega arith }

pub goes-then : (plan : Plan) (a b : ℕ) (x y z : Course) → GoesOn plan a x y → GoesOn plan b y z → GoesOn plan b x z
goes-then plan a b x y z first second =
    let one = first.more in
    let two = second.more in
    record { is = second.is; more = omega (arith, one, two) }

-- a lot that is drawn changes nothing else
abbrev pub goes-draws : (plan : Plan) (number : ℕ) (x : Course) → IsCourse plan number x → IsCourse plan number (draws x)
goes-draws plan number x is = record { world = is.world; shows = is.shows; up = is.up; requests = is.requests; flight = is.flight }

after-draw : (plan : Plan) (number : ℕ) (x y : Course) → GoesOn plan number (draws x) y → GoesOn plan number x y
after-draw plan number x y goes = record { is = goes.is; more = goes.more }

-- how many members there are
pub group-size : (plan : Plan) → length (group_of plan).members ≡ plan.members
unfolding group_at
group-size plan = length-map-range_with_len member_address 0 plan.members

-- The client --

kind-asks : (c : Command) → is_request (kind_of c) ≡ true
kind-asks Put = refl
kind-asks Get = refl
kind-asks Count = refl
kind-asks Delete = refl

body-short : (c : Command) (number : ℕ) → length (body_of c number) ≤ most_body
body-short Put number = (let four = length-u32_bytes number in omega (arith, four))
body-short Get number = omega arith
body-short Count number = omega arith
body-short Delete number = omega arith

key-byte : (number : ℕ) → key_of number < 256
key-byte number = omega arith

body-bytes : (c : Command) (number : ℕ) → AreBytes (body_of c number)
body-bytes Put number zero = omega arith
body-bytes Put number (suc zero) = omega arith
body-bytes Put number (suc (suc zero)) = omega arith
body-bytes Put number (suc (suc (suc zero))) = key-byte number
body-bytes Put number (suc (suc (suc (suc i)))) = wide32.are_bytes number i
body-bytes Get number zero = omega arith
body-bytes Get number (suc zero) = omega arith
body-bytes Get number (suc (suc zero)) = omega arith
body-bytes Get number (suc (suc (suc zero))) = key-byte number
body-bytes Get number (suc (suc (suc (suc i)))) = omega arith
body-bytes Count number zero = omega arith
body-bytes Count number (suc i) = omega arith
body-bytes Delete number zero = omega arith
body-bytes Delete number (suc zero) = omega arith
body-bytes Delete number (suc (suc zero)) = omega arith
body-bytes Delete number (suc (suc (suc zero))) = key-byte number
body-bytes Delete number (suc (suc (suc (suc i)))) = omega arith

capped-next : (n m : ℕ) → n ≡ m → m < 60000 → capped (n + 1) ≡ m + 1
capped-next n m same less = omega (arith, same, less)

-- a command may be sent
pub may-ask : (w : Seen) (c : Command) (number : ℕ) → w.requests ≡ number → number < 60000 → MaySend w (kind_of c) (body_of c number)
may-ask w c number same less =
    record { left = omega (arith, same, less); asks = kind-asks c; short = body-short c number; bytes = body-bytes c number }

pub goes-asks : (plan : Plan) (number : ℕ) (x : Course) → number < 60000 → IsCourse plan number x → GoesOn plan (number + 1) x (asks (group_of plan) number x)
unfolding asks
goes-asks plan number x less is =
    let c = command_of (drawn 4 x.lots) in
    let stays = stays-asked (kind_of c) (body_of c number) is.world in
    let requests = capped-next is.world.requests number is.requests less in
    let goes = goes-happens plan number (number + 1) (draws x) (ClientSend (kind_of c) (body_of c number)) (goes-draws plan number x is) (may-ask is.world c number is.requests less)
    (record { up = stays.up; more = stays.more; requests_are = stays.requests_are ∙ requests }) in
    record { is = goes.is; more = goes.more }

-- Packets --

pub receives-within : (g : Group) (to : Addr) (v : ℕ) → receiver_at g to ≡ Member v → v < length g.members
unfolding receiver_at
receives-within g to v receives = by _ (position (same_addr to) g.members) refl receives
  where
    by : (b : Bool) (found : Option ℕ) → position (same_addr to) g.members ≡ found → receiver_by b found ≡ Member v → v < length g.members
    by b (Some u) e f =
        let nobody : Addr = record { ip = 0; port = 0 } in
        let there = (position-Some (same_addr to) g.members u nobody e).0 in
        let same : u ≡ v = cc in
        omega (arith, there, same)
    by true None e f = absurd cc
    by false None e f = absurd cc

goes-delivers : (plan : Plan) (number packet : ℕ) (x : Course) → (is : IsCourse plan number x) → MayCome is.world packet → GoesOn plan number x (happens (group_of plan) (Deliver packet) x)
goes-delivers plan number packet x is may =
    let stays = stays-delivered packet is.world in
    goes-happens plan number number x (Deliver packet) is may (record { up = stays.up; more = stays.more; requests_are = stays.requests_are ∙ is.requests })

pub goes-comes : (plan : Plan) (number packet : ℕ) (x : Course) → IsCourse plan number x → GoesOn plan number x (comes (group_of plan) packet x)
unfolding comes
goes-comes plan number packet x is = by (slice_get (packets g x.events) packet) refl
  where
    g : Group
    g = group_of plan

    world_is : is.world.group ≡ g
    world_is = group-shown g x.events is.world is.shows

    sent : (d : Datagram) → slice_get (packets g x.events) packet ≡ Some d → slice_get is.world.datagrams packet ≡ Some d
    sent d at = subst (λ (ds : List Datagram). slice_get ds packet ≡ Some d) (packets-shown g x.events is.world is.shows) at

    at-receiver : (d : Datagram) (r : Receiver) → receiver_at g d.to ≡ r → receiver_at is.world.group d.to ≡ r
    at-receiver d r e = subst (λ (h : Group). receiver_at h d.to ≡ r) (sym world_is) e

    to : (d : Datagram) → slice_get (packets g x.events) packet ≡ Some d → (r : Receiver) → receiver_at g d.to ≡ r → GoesOn plan number x (comes_to g r packet x)
    to d at (Member v) e =
        let within = receives-within g d.to v e in
        let size = group-size plan in
        goes-delivers plan number packet x is
        (record { receiver = Member v; sent = record { datagram = d; sent = sent d at; to = at-receiver d (Member v) e }; takes = is.up v (omega (arith, within, size)) })
    to d at Aggregator e =
        goes-delivers plan number packet x is
        (record { receiver = Aggregator; sent = record { datagram = d; sent = sent d at; to = at-receiver d Aggregator e }; takes = tt })
    to d at Outside e = goes-not plan number x is

    by : (found : Option Datagram) → slice_get (packets g x.events) packet ≡ found → GoesOn plan number x (comes_to g (receiver_of g found) packet x)
    by (Some d) at = to d at (receiver_at g d.to) refl
    by None at = goes-not plan number x is

pub goes-repeats : (plan : Plan) (number packet : ℕ) (x : Course) → packet < length (packets (group_of plan) x.events) → IsCourse plan number x → GoesOn plan number x (repeats plan packet x)
unfolding repeats
goes-repeats plan number packet x less is = by (nat_lt (drawn 100 x.lots) plan.repeat)
  where
    last : ℕ
    last = length (packets (group_of plan) x.events)

    by : (b : Bool) → GoesOn plan number x (if b then record (draws x) { flight = x.flight ++ packet ∷ [] } else draws x)
    by true =
        record {
          is = record {
            world = is.world;
            shows = is.shows;
            up = is.up;
            requests = is.requests;
            flight = All-append (λ k. k < last) x.flight (packet ∷ []) is.flight (All-cons (λ k. k < last) packet [] less (All-nil (λ k. k < last)));
          };
          more = omega arith;
        }
    by false = record { is = goes-draws plan number x is; more = omega arith }

pub goes-carries : (plan : Plan) (number packet : ℕ) (x : Course) → packet < length (packets (group_of plan) x.events) → IsCourse plan number x → GoesOn plan number x (carries plan x packet)
unfolding carries
goes-carries plan number packet x less is = by (nat_lt (drawn 100 x.lots) plan.loss)
  where
    by : (b : Bool) → GoesOn plan number x (if b then draws x else repeats plan packet (comes (group_of plan) packet (draws x)))
    by true = record { is = goes-draws plan number x is; more = omega arith }
    by false =
        let came = goes-comes plan number packet (draws x) (goes-draws plan number x is) in
        let more = came.more in
        let again = goes-repeats plan number packet (comes (group_of plan) packet (draws x)) (omega (arith, less, more)) came.is in
        after-draw plan number x _ (goes-then plan number number (draws x) _ _ came again)

pub goes-all : (plan : Plan) (number : ℕ) (flight : List ℕ) (x : Course) → All (λ k. k < length (packets (group_of plan) x.events)) flight → IsCourse plan number x
    → GoesOn plan number x (carries_all plan flight x)
unfolding carries_all
goes-all plan number [] x all is = goes-not plan number x is
goes-all plan number (packet ∷ flight) x all is =
    let first = goes-carries plan number packet x (all 0 0 (omega arith)) is in
    let rest = goes-all plan number flight (carries plan x packet)
    (all-below (length (packets (group_of plan) x.events)) _ flight first.more (λ i d inside. all (suc i) d (omega (arith, inside)))) first.is in
    goes-then plan number number x _ _ first rest

-- a flight that is taken out
pub without : (plan : Plan) (number : ℕ) (x : Course) → IsCourse plan number x → IsCourse plan number (record x { flight = [] })
without plan number x is = record { world = is.world; shows = is.shows; up = is.up; requests = is.requests; flight = All-nil (λ k. k < length (packets (group_of plan) x.events)) }

pub goes-flight : (plan : Plan) (number : ℕ) (x : Course) → IsCourse plan number x → GoesOn plan number x (carries_flight plan x)
unfolding carries_flight
goes-flight plan number x is = by x.flight is.flight
  where
    last : ℕ
    last = length (packets (group_of plan) x.events)

    empty : Course
    empty = record x { flight = [] }

    by : (flight : List ℕ) → All (λ k. k < last) flight → GoesOn plan number x (carries_from plan flight empty)
    by [] all = record { is = without plan number x is; more = omega arith }
    by (packet ∷ more) all =
        let place = drawn (length (packet ∷ more)) x.lots in
        let after = draws empty in
        let first = goes-all plan number (drop place (packet ∷ more)) after (All-drop (λ k. k < last) place (packet ∷ more) all) (goes-draws plan number empty (without plan number x is)) in
        let second = goes-all plan number (take place (packet ∷ more)) (carries_all plan (drop place (packet ∷ more)) after)
        (all-below last _ (take place (packet ∷ more)) first.more (All-take (λ k. k < last) place (packet ∷ more) all)) first.is in
        let both = goes-then plan number number after _ _ first second in
        record { is = both.is; more = both.more }

-- Members --

pub goes-crash : (plan : Plan) (number v : ℕ) (x : Course) → v < plan.members → IsCourse plan number x → GoesOn plan number x (may_crash plan x v)
unfolding may_crash
goes-crash plan number v x member is = by (nat_lt (drawn 1000 x.lots) plan.crash)
  where
    by : (b : Bool) → GoesOn plan number x (if b then happens (group_of plan) (Restart v) (happens (group_of plan) (Crash v) (draws x)) else draws x)
    by true = after-draw plan number x _ (goes-again plan number (draws x) v (goes-draws plan number x is) member (group-size plan))
    by false = record { is = goes-draws plan number x is; more = omega arith }

pub goes-tick : (plan : Plan) (number v : ℕ) (x : Course) → v < plan.members → IsCourse plan number x → GoesOn plan number x (ticks plan x v)
goes-tick plan number v x member is =
    let stays = stays-tick v is.world in
    goes-happens plan number number x (Tick v) is (is.up v member) (record { up = stays.up; more = stays.more; requests_are = stays.requests_are ∙ is.requests })

-- each of some members in order
pub goes-each : (plan : Plan) (number : ℕ) (does : Course → ℕ → Course) → ((v : ℕ) (x : Course) → v < plan.members → IsCourse plan number x → GoesOn plan number x (does x v))
    → (members : List ℕ) (x : Course) → All (λ v. v < plan.members) members → IsCourse plan number x → GoesOn plan number x (fold does x members)
goes-each plan number does each [] x all is = goes-not plan number x is
goes-each plan number does each (v ∷ members) x all is =
    let first = each v x (all 0 0 (omega arith)) is in
    let rest = goes-each plan number does each members (does x v) (λ i d inside. all (suc i) d (omega (arith, inside))) first.is in
    goes-then plan number number x _ _ first rest

pub members-below : (n k : ℕ) → k ≤ n → All (λ v. v < n) (range_with_len 0 k)
members-below n k within i d inside =
    let long = length-range_with_len 0 k in
    let less : i < k = omega (arith, inside, long) in
    rw (get_or-range_with_len 0 k i d less) (omega (arith, within, less))

pub goes-crashes : (plan : Plan) (number : ℕ) (x : Course) → IsCourse plan number x → GoesOn plan number x (each_may_crash plan x)
unfolding each_may_crash
goes-crashes plan number x is = goes-each plan number (may_crash plan) (λ v y member. goes-crash plan number v y member) (range_with_len 0 plan.members) x (members-below plan.members plan.members (omega arith)) is

pub goes-ticks : (plan : Plan) (number : ℕ) (x : Course) → IsCourse plan number x → GoesOn plan number x (each_ticks plan x)
unfolding each_ticks
goes-ticks plan number x is = goes-each plan number (ticks plan) (λ v y member. goes-tick plan number v y member) (range_with_len 0 plan.members) x (members-below plan.members plan.members (omega arith)) is

-- Rounds --

-- how many requests were sent before a round
abbrev pub asked_before : Plan → ℕ → ℕ
asked_before plan number = min number plan.requests

pub goes-one : (plan : Plan) (number : ℕ) (x : Course) → IsPlan plan → IsCourse plan (asked_before plan number) x → GoesOn plan (asked_before plan (number + 1)) x (asks_one plan number x)
unfolding asks_one
goes-one plan number x planned is = by (nat_lt number plan.requests) refl
  where
    by : (b : Bool) → nat_lt number plan.requests ≡ b → GoesOn plan (asked_before plan (number + 1)) x (if b then asks (group_of plan) number x else x)
    by true left =
        let most = planned.requests in
        let less : number < plan.requests = ltb-true number plan.requests left in
        let same : min number plan.requests ≡ number = omega (arith, less) in
        let next : number + 1 ≡ min (number + 1) plan.requests = omega (arith, less) in
        subst (λ (n : ℕ). GoesOn plan n x (asks (group_of plan) number x)) next
        (goes-asks plan number x (omega (arith, less, most)) (subst (λ (n : ℕ). IsCourse plan n x) same is))
    by false left =
        let least : plan.requests ≤ number = ltb-false number plan.requests left in
        let same : min number plan.requests ≡ min (number + 1) plan.requests = omega (arith, least) in
        goes-not plan _ x (subst (λ (n : ℕ). IsCourse plan n x) same is)

pub goes-round : (plan : Plan) (number : ℕ) (x : Course) → IsPlan plan → IsCourse plan (asked_before plan number) x → IsCourse plan (asked_before plan (number + 1)) (round plan x number)
unfolding round
goes-round plan number x planned is =
    let n = asked_before plan (number + 1) in
    let one = (goes-one plan number x planned is).is in
    let two = (goes-flight plan n (asks_one plan number x) one).is in
    let three = (goes-crashes plan n (carries_flight plan (asks_one plan number x)) two).is in
    (goes-ticks plan n (each_may_crash plan (carries_flight plan (asks_one plan number x))) three).is

pub goes-beginning : (plan : Plan) → IsCourse plan 0 (beginning plan)
unfolding seen
goes-beginning plan =
    let g = group_of plan in
    let size = group-size plan in
    record {
      world = seen g (group_beginning g);
      shows = shows-none g (Some (seen g (group_beginning g))) refl;
      up = λ v member.
          ap (λ (r : Replica). is_some r.member) (get_or-replicate (length g.members) v (started []) (stopped []) (omega (arith, member, size)));
      requests = refl;
      flight = All-nil (λ k. k < length (packets g []));
    }

range-from : (n a : ℕ) → range_with_len a (suc n) ≡ range_with_len a n ++ (a + n) ∷ []
range-from zero a = (let e : a ≡ a + 0 = omega arith in ap (λ (k : ℕ). k ∷ []) e)
range-from (suc n) a = (let e : a + 1 + n ≡ a + suc n = omega arith in ap (λ (l : List ℕ). a ∷ l) (range-from n (a + 1) ∙ ap (λ (k : ℕ). range_with_len (a + 1) n ++ k ∷ []) e))

pub range-more : (n : ℕ) → range_with_len 0 (n + 1) ≡ range_with_len 0 n ++ n ∷ []
range-more n =
    let e : n + 1 ≡ suc n = omega arith in
    let f : 0 + n ≡ n = omega arith in
    ap (range_with_len 0) e ∙ range-from n 0 ∙ ap (λ (k : ℕ). range_with_len 0 n ++ k ∷ []) f

-- one round more
pub rounds-more : (plan : Plan) (count : ℕ) → after_rounds plan (count + 1) ≡ round plan (after_rounds plan count) count
unfolding after_rounds
rounds-more plan count =
    ap (fold (round plan) (beginning plan)) (range-more count) ∙ fold-append (round plan) (beginning plan) (range_with_len 0 count) (count ∷ [])

pub goes-rounds : (plan : Plan) (count : ℕ) → IsPlan plan → IsCourse plan (asked_before plan count) (after_rounds plan count)
unfolding after_rounds
goes-rounds plan zero planned = (let e : 0 ≡ min 0 plan.requests = omega arith in subst (λ (n : ℕ). IsCourse plan n (beginning plan)) e (goes-beginning plan))
goes-rounds plan (suc count) planned =
    let e : count + 1 ≡ suc count = omega arith in
    subst (λ (n : ℕ). IsCourse plan (asked_before plan n) (after_rounds plan n)) e
    (subst (λ (x : Course). IsCourse plan (asked_before plan (count + 1)) x) (sym (rounds-more plan count)) (goes-round plan count (after_rounds plan count) planned (goes-rounds plan count planned)))

-- The group of a simulation --

pub simulations-serve : SimulationsServeAsOne
unfolding generated
simulations-serve plan planned =
    groups_serve_throughout (group_of plan) (generated plan) (group-there plan.members plan.bounds plan.aggregator planned.some planned.few planned.bounds planned.each)
    (goes-rounds plan (plan.requests + more_rounds) planned).shows.possible

-- numbers that are appended one after another
pub range-longer : (old now new : List ℕ) (from number : ℕ) → from ≤ number → now ≡ old ++ range_with_len from (number - from) → new ≡ now ++ number ∷ [] → new ≡ old ++ range_with_len from (number + 1 - from)
range-longer old now new from number begun entered pushed =
    let e : number + 1 - from ≡ suc (number - from) = omega (arith, begun) in
    let f : from + (number - from) ≡ number = omega (arith, begun) in
    let longer : range_with_len from (number + 1 - from) ≡ range_with_len from (number - from) ++ number ∷ [] =
    ap (range_with_len from) e ∙ range-from (number - from) from ∙ ap (λ (k : ℕ). range_with_len from (number - from) ++ k ∷ []) f in
    pushed ∙ ap (λ (l : List ℕ). l ++ number ∷ []) entered ∙ append_assoc old (range_with_len from (number - from)) (number ∷ []) ∙ ap (λ (l : List ℕ). old ++ l) (sym longer)

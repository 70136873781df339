-- A world after one of its parts has changed.
use Rattle.std.proofs.Common.{◌≡◌, ℕ, ◌+◌, ◌<◌, ◌≤◌, max, Bool, true, false, List, [], ◌++◌, length, map, set, get_or, Option, None, Some, refl, sym, ap, subst, ◌∙◌, arith, inl, inr, append_assoc}
use Rattle.std.specs.Prelude.{is_some, position, slice_get, Result, Ok, Err, OnOk}
use Rattle.r2_base.specs.Names.{same_addr}
use Rattle.r2_base.specs.declared.event.Event.TheVariants as event
use Rattle.r2_base.proofs.SameNames.{same_addr-true}
use Rattle.r2_base.specs.declared.entry.Kind.{Kind}
use Rattle.hc_run.specs.Steps.{request_parts}
use Rattle.hc_world.specs.Events.{MayCome, MayTake, request_at}
use Rattle.std.proofs.lemmas.Bool.{cases_eq, cases_lt}
use Rattle.std.proofs.lemmas.List.{get_or-map, get_or-set_other, get_or-set_same, get_or_past, length-map, length-set, map-set}
use Rattle.r2_base.specs.declared.addr.Addr.{Addr}
use Rattle.r2_base.specs.declared.datagram.Datagram.{Datagram}
use Rattle.r2_base.specs.declared.event.Event.{Event}
use Rattle.r2_base.specs.Limits.{id_limit}
use Rattle.hc_log.specs.declared.record.Record.{Record}
use Rattle.hc_log.specs.Durable.{replay}
use Rattle.hc_aggregate.specs.Tally.{Tally, no_tally}
use Rattle.hc_aggregate.specs.Turn.{AggregatorState, IsTurn, begin, sent, turned as aggregator_turned}
use Rattle.hc_member.specs.declared.setup.Setup.{Setup}
use Rattle.hc_member.specs.Member.{Member, anew}
use Rattle.hc_member.specs.Sending.{datagrams_of_all}
use Rattle.hc_member.specs.Turn.{turned}
use Rattle.hc_member.specs.Setup.{is_from_aggregator}
use Rattle.hc_run.specs.Group.{Group, IsGroup, Receiver, Member as MemberAt, Aggregator, other_receiver, receiver_at, receiver_by, setup_of}
use Rattle.hc_run.specs.State.{Replica, started, stopped}
use Rattle.hc_run.specs.Steps.{with_stored}
use Rattle.hc_world.specs.declared.live.Live.{Live}
use Rattle.hc_world.specs.declared.seat.Seat.{Seat}
use Rattle.hc_world.specs.Addresses.{group_with}
use Rattle.hc_world.specs.Live.{AreSeats, IsServed, IsWorld, ShowsWorld, group_of, seen_of, tally_of}
use Rattle.hc_world.specs.Notes.{answered_in, capped, replies_in}
use Rattle.hc_world.specs.Seat.{IsRunning, IsSeat, Rests, Runs, member_in, member_of, replica_of}
use Rattle.hc_world.specs.Seen.{Seen, is_for_group, is_inside, is_up, place_of}
use Rattle.hc_world.specs.Steps.{AreSent, acts, aggregates, asks, comes_to, counts_event, delivers, forgets, turn_placed, crashes_between, crashes_within, either, journal_after, reach, restarts, sends, turns, where_up, with_place}
use Rattle.hc_world.proofs.Either.{answered-append, answered-length, either-assoc, either-length}
use Rattle.hc_world.proofs.Exact.{replies-append, seen_with}
use Rattle.hc_world.proofs.Numbers.{capped-plus}
use Rattle.hc_world.proofs.Seats.{rests-seat, runs-member, runs-running, runs-seat, seat-group, seat-up}

-- what an answer that is Ok comes with
pub on-ok : {A E : Type 0} (P Q : Type 0) (r : Result A E) → (P → Q) → OnOk r P → OnOk r Q
on-ok P Q (Ok x) f h = f h
on-ok P Q (Err e) f h = tt

-- who is in the group stays
pub record SameGroup (l k : Live) : Type 0 where
  pub members : k.members ≡ l.members
  pub address : k.address ≡ l.address
  pub bounds : k.bounds ≡ l.bounds

same-group : (l k : Live) → SameGroup l k → group_of k ≡ group_of l
same-group l k same = by _ _ _ _ _ _ same.members same.address same.bounds
  where
    by : (m m' : List Addr) (a a' : Option Addr) (b b' : List ℕ) → m ≡ m' → a ≡ a' → b ≡ b' → group_with m a b ≡ group_with m' a' b'
    by m m' a a' b b' e f g = cc

-- an aggregator by its parts
abbrev state_of : Addr → List Addr → Tally → AggregatorState
state_of me members tally = record { me = me; members = members; tally = tally }

-- a place shows what is seen of it
pub place-at : (l : Live) (v : ℕ) (d : Seat) → v < length l.seats.items → place_of (seen_of l) v ≡ replica_of (get_or l.seats.items v d)
unfolding seen_of
place-at l v d inside = get_or-map replica_of l.seats.items v d (stopped []) inside

up-within : (seats : List Seat) (v : ℕ) → is_some (get_or (map replica_of seats) v (stopped [])).member ≡ true → v < length seats
up-within seats v up =
    elim (cases_lt v (length seats)) [
      | inl inside ↦ inside
      | inr past ↦
          (let long = length-map seats replica_of in
          let none : get_or (map replica_of seats) v (stopped []) ≡ stopped [] = get_or_past (map replica_of seats) v (stopped []) (omega (arith, past, long)) in
          let down : is_some (get_or (map replica_of seats) v (stopped [])).member ≡ false = ap (λ (r : Replica). is_some r.member) none in
          absurd cc)
    ]

-- where a member is up there is a place for it
pub up-inside : (l : Live) (v : ℕ) → is_up (seen_of l) v ≡ true → v < length l.seats.items
unfolding seen_of
up-inside l v up = up-within l.seats.items v up

-- one place has changed, and all else that a world rests on is as before
pub record Placed (l k : Live) (v : ℕ) (seat : Seat) : Type 0 where
  pub group : SameGroup l k
  pub aggregator : k.aggregator ≡ l.aggregator
  pub ids : k.answered.items ≡ l.answered.items
  pub seats : k.seats.items ≡ set l.seats.items v seat

seat-set : (g : Group) (seats : List Seat) (v : ℕ) (seat : Seat) → ((u : ℕ) (d : Seat) → u < length seats → IsSeat (setup_of g u) (get_or seats u d)) → v < length seats
    → IsSeat (setup_of g v) seat → (u : ℕ) (d : Seat) → u < length seats → IsSeat (setup_of g u) (get_or (set seats v seat) u d)
seat-set g seats v seat each inside here u d within =
    elim (cases_eq u v) [
      | inl equal ↦
          subst (λ (w : ℕ). IsSeat (setup_of g w) (get_or (set seats v seat) w d)) (sym equal)
          (subst (λ (x : Seat). IsSeat (setup_of g v) x) (sym (get_or-set_same seats v seat d inside)) here)
      | inr other ↦ subst (λ (x : Seat). IsSeat (setup_of g u) x) (sym (get_or-set_other seats v u seat d other)) (each u d within)
    ]

served-same : (m m' : List Addr) (a a' : Option Addr) (s s' : Option AggregatorState) → m' ≡ m → a' ≡ a → s' ≡ s → IsServed m a s → IsServed m' a' s'
served-same m m' a a' s s' e f g is =
    subst (λ (x : List Addr). IsServed x a' s') (sym e) (subst (λ (x : Option Addr). IsServed m x s') (sym f) (subst (λ (x : Option AggregatorState). IsServed m a x) (sym g) is))

pub world-placed : (l k : Live) (v : ℕ) (seat : Seat) → IsWorld l → v < length l.seats.items → IsSeat (setup_of (group_of l) v) seat → Placed l k v seat → IsWorld k
world-placed l k v seat is inside here placed =
    let same = placed.group in
    let group = same-group l k same in
    let long : length k.seats.items ≡ length l.seats.items = ap (λ (x : List Seat). length x) placed.seats ∙ length-set l.seats.items v seat in
    record {
      group = subst IsGroup (sym group) is.group;
      each = long ∙ is.each ∙ sym (ap (λ (x : List Addr). length x) same.members);
      seats = λ u d within.
          subst (λ (g : Group). IsSeat (setup_of g u) (get_or k.seats.items u d)) (sym group)
          (subst (λ (x : List Seat). IsSeat (setup_of (group_of l) u) (get_or x u d)) (sym placed.seats)
          (seat-set (group_of l) l.seats.items v seat is.seats inside here u d (omega (arith, long, within))));
      served = served-same l.members k.members l.address k.address l.aggregator k.aggregator same.members same.address placed.aggregator is.served;
      ids = ap (λ (x : List Bool). length x) placed.ids ∙ is.ids;
    }

-- neither who is there nor the places have changed
pub record SamePlaces (l k : Live) : Type 0 where
  pub group : SameGroup l k
  pub aggregator : k.aggregator ≡ l.aggregator
  pub seats : k.seats.items ≡ l.seats.items

pub world-same : (l k : Live) → IsWorld l → SamePlaces l k → length k.answered.items ≡ id_limit → IsWorld k
world-same l k is on ids =
    let same = on.group in
    let group = same-group l k same in
    record {
      group = subst IsGroup (sym group) is.group;
      each = ap (λ (x : List Seat). length x) on.seats ∙ is.each ∙ sym (ap (λ (x : List Addr). length x) same.members);
      seats = λ u d within.
          subst (λ (g : Group). IsSeat (setup_of g u) (get_or k.seats.items u d)) (sym group)
          (subst (λ (x : List Seat). IsSeat (setup_of (group_of l) u) (get_or x u d)) (sym on.seats) (is.seats u d (subst (λ (x : List Seat). u < length x) on.seats within)));
      served = served-same l.members k.members l.address k.address l.aggregator k.aggregator same.members same.address on.aggregator is.served;
      ids = ids;
    }

-- What is seen --

-- what is seen, by its parts
pub seen-by : (g g' : Group) (r r' : List Replica) (t t' : Tally) (d d' : List Datagram) (a a' : List Bool) (e e' q q' n n' p p' c c' : ℕ)
    → g ≡ g' → r ≡ r' → t ≡ t' → d ≡ d' → a ≡ a' → e ≡ e' → q ≡ q' → n ≡ n' → p ≡ p' → c ≡ c' → seen_with g r t d a e q n p c ≡ seen_with g' r' t' d' a' e' q' n' p' c'
seen-by g g' r r' t t' d d' a a' e e' q q' n n' p p' c c' h1 h2 h3 h4 h5 h6 h7 h8 h9 h10 = cc

tally-same : (m m' : List Addr) (s s' : Option AggregatorState) → m' ≡ m → s' ≡ s → tally_of (length m') s' ≡ tally_of (length m) s
tally-same m m' s s' e f = ap (λ (x : List Addr). tally_of (length x) s') e ∙ ap (tally_of (length m)) f

-- what a place has nothing to do with
pub record Kept (l k : Live) : Type 0 where
  pub datagrams : k.datagrams.items ≡ l.datagrams.items
  pub events : k.events ≡ l.events
  pub requests : k.requests ≡ l.requests
  pub replies : k.replies ≡ l.replies

pub placed-seen : (l k : Live) (v : ℕ) (seat : Seat) (r : Replica) (p c : ℕ) → Placed l k v seat → Kept l k → replica_of seat ≡ r → k.passed ≡ p → k.crashes ≡ c
    → seen_of k ≡ (let w = seen_of l in record (with_place v r w) { passed = p; crashes = c })
unfolding seen_of
placed-seen l k v seat r p c placed kept is passed crashed =
    let same = placed.group in
    let replicas : map replica_of k.seats.items ≡ set (map replica_of l.seats.items) v r =
    ap (map replica_of) placed.seats ∙ map-set replica_of l.seats.items v seat ∙ ap (set (map replica_of l.seats.items) v) is in
    seen-by _ _ _ _ _ _ _ _ _ _ _ _ _ _ _ _ _ _ _ _ (same-group l k same) replicas (tally-same l.members k.members l.aggregator k.aggregator same.members placed.aggregator) kept.datagrams placed.ids
    kept.events kept.requests kept.replies passed crashed

-- A member that is up --

pub record StandsAt (l : Live) (v : ℕ) (seat : Seat) : Type 0 where
  pub inside : v < length l.seats.items
  pub setup : seat.setup ≡ setup_of (group_of l) v
  pub runs : IsRunning seat
  pub journal : (place_of (seen_of l) v).journal ≡ seat.records
  pub found : (place_of (seen_of l) v).member ≡ Some (member_of seat)

pub stands-at : (l : Live) (v : ℕ) (seat : Seat) → IsWorld l → is_up (seen_of l) v ≡ true → seat ≡ get_or l.seats.items v seat → StandsAt l v seat
stands-at l v seat is up at =
    let inside = up-inside l v up in
    let s = setup_of (group_of l) v in
    let here : IsSeat s seat = subst (λ (x : Seat). IsSeat s x) (sym at) (is.seats v seat inside) in
    let place : place_of (seen_of l) v ≡ replica_of seat = place-at l v seat inside ∙ ap replica_of (sym at) in
    let runs_up : is_some (member_in seat.node) ≡ true = sym (ap (λ (r : Replica). is_some r.member) place) ∙ up in
    let runs = seat-up s seat here runs_up in
    let group = seat-group s seat here in
    record {
      inside = inside;
      setup = group.1;
      runs = runs-running s (member_of seat) seat runs;
      journal = ap (λ (r : Replica). r.journal) place;
      found = ap (λ (r : Replica). r.member) place ∙ runs-member s (member_of seat) seat runs;
    }

-- what it does
acts-up : (v : ℕ) (w : Seen) (m : Member) (does : Member → Seen → Seen) → (place_of w v).member ≡ Some m → acts v does w ≡ does m w
acts-up v w m does found = ap (λ (o : Option Member). where_up o does w) found

replica-down : (j : List Record) (s : Setup) (seat : Seat) → Rests s seat → seat.records ≡ j → replica_of seat ≡ stopped j
replica-down j s seat rests same = let none = ap member_in rests.node in cc

replica-up : (j : List Record) (s : Setup) (m : Member) (seat : Seat) → Runs s m seat → seat.records ≡ j → replica_of seat ≡ record { journal = j; member = Some m }
replica-up j s m seat runs same = let some = runs-member s m seat runs in cc

-- what is sent in two pieces
pub sends-both : (xs ys : List Datagram) (w : Seen) → length w.answered ≡ id_limit → sends ys (sends xs w) ≡ sends (xs ++ ys) w
unfolding sends
sends-both xs ys w long =
    seen-by _ _ _ _ _ _ _ _ _ _ _ _ _ _ _ _ _ _ _ _ refl refl refl (append_assoc w.datagrams xs ys)
    (either-assoc w.answered (answered_in xs) (answered_in ys) (answered-length xs ∙ sym long) ∙ ap (either w.answered) (sym (answered-append xs ys)))
    refl refl
    (sym (capped-plus (w.replies + replies_in xs) (replies_in ys)) ∙ ap capped (sum3 w.replies (replies_in xs) (replies_in ys) (replies_in (xs ++ ys)) (replies-append xs ys)))
    refl refl
  where
    sum3 : (a b c d : ℕ) → d ≡ b + c → (a + b) + c ≡ a + d
    sum3 a b c d e = omega (arith, e)

answered-there : (k : Live) → IsWorld k → length (seen_of k).answered ≡ id_limit
unfolding seen_of
answered-there k is = is.ids

group-there : (l : Live) (v : ℕ) → setup_of (group_of l) v ≡ setup_of (seen_of l).group v
unfolding seen_of
group-there l v = refl

turn-split : (v : ℕ) (e : Event) (m : Member) (w : Seen) (s : Setup) → s ≡ setup_of w.group v → sends (datagrams_of_all s (turned s m e).sends) (turn_placed v e m w) ≡ turns v e m w
turn-split v e m w s at = ap (λ (x : Setup). sends (datagrams_of_all x (turned x m e).sends) (turn_placed v e m w)) at

module _ (l : Live) (v : ℕ) (old : Seat) (is : IsWorld l) (stands : StandsAt l v old) where
  -- it stops
  pub crash-shows : (k : Live) (seat : Seat) → Rests old.setup seat → seat.records ≡ old.records → Placed l k v seat → Kept l k → k.passed ≡ l.passed
      → k.crashes ≡ capped (l.crashes + 1) → ShowsWorld (acts v (crashes_between v) (seen_of l)) k
  unfolding seen_of
  crash-shows k seat rests records placed kept passed crashed =
      let at = stands.setup in
      let shown = replica-down (place_of (seen_of l) v).journal old.setup seat rests (records ∙ sym stands.journal) in
      record {
        is = world-placed l k v seat is stands.inside (subst (λ (s : Setup). IsSeat s seat) at (rests-seat old.setup seat rests)) placed;
        seen =
            placed-seen l k v seat (stopped (place_of (seen_of l) v).journal) l.passed (capped (l.crashes + 1)) placed kept shown passed crashed
            ∙ sym (acts-up v (seen_of l) (member_of old) (crashes_between v) stands.found);
      }

  -- it stops within a turn
  pub within-shows : (k : Live) (seat : Seat) (e same : Event) (lasts : Bool) → e ≡ same → Rests old.setup seat → seat.records ≡ journal_after lasts old.records (turned old.setup (member_of old) e).stored
      → Placed l k v seat → Kept l k → k.passed ≡ max l.passed (reach old.setup (member_of old)) → k.crashes ≡ capped (l.crashes + 1)
      → ShowsWorld (acts v (crashes_within v same lasts) (seen_of l)) k
  unfolding seen_of
  within-shows k seat e event lasts named rests records placed kept passed crashed =
      let at = stands.setup in
      let m = member_of old in
      let s = setup_of (group_of l) v in
      let j = journal_after lasts (place_of (seen_of l) v).journal (turned s m e).stored in
      let same : seat.records ≡ j =
      records ∙ ap (λ (x : Setup). journal_after lasts old.records (turned x m e).stored) at ∙ ap (λ (x : List Record). journal_after lasts x (turned s m e).stored) (sym stands.journal) in
      let shown = replica-down j old.setup seat rests same in
      record {
        is = world-placed l k v seat is stands.inside (subst (λ (x : Setup). IsSeat x seat) at (rests-seat old.setup seat rests)) placed;
        seen =
            placed-seen l k v seat (stopped j) (max l.passed (reach s m)) (capped (l.crashes + 1)) placed kept shown (passed ∙ ap (λ (x : Setup). max l.passed (reach x m)) at) crashed
            ∙ sym (acts-up v (seen_of l) m (crashes_within v e lasts) stands.found)
            ∙ ap (λ (x : Event). acts v (crashes_within v x lasts) (seen_of l)) named;
      }

  -- the first thing of a turn: its place
  pub turn-places : (k : Live) (seat : Seat) (e : Event) → Runs old.setup (turned old.setup (member_of old) e).member seat
      → seat.records ≡ with_stored old.records (turned old.setup (member_of old) e).stored → Placed l k v seat → Kept l k
      → k.passed ≡ max l.passed (reach old.setup (member_of old)) → k.crashes ≡ l.crashes → ShowsWorld (turn_placed v e (member_of old) (seen_of l)) k
  unfolding seen_of
  turn-places k seat e runs records placed kept passed crashed =
      let at = stands.setup in
      let m = member_of old in
      let s = setup_of (group_of l) v in
      let j = with_stored (place_of (seen_of l) v).journal (turned s m e).stored in
      let same : seat.records ≡ j =
      records ∙ ap (λ (x : Setup). with_stored old.records (turned x m e).stored) at ∙ ap (λ (x : List Record). with_stored x (turned s m e).stored) (sym stands.journal) in
      let there : Runs s (turned s m e).member seat = subst (λ (x : Setup). Runs x (turned x m e).member seat) at runs in
      let shown = replica-up j s (turned s m e).member seat there same in
      record {
        is = world-placed l k v seat is stands.inside (runs-seat s (turned s m e).member seat there) placed;
        seen =
            placed-seen l k v seat (record { journal = j; member = Some (turned s m e).member }) (max l.passed (reach s m)) l.crashes placed kept shown
            (passed ∙ ap (λ (x : Setup). max l.passed (reach x m)) at) crashed;
      }

  -- and then what it sends
  pub turn-shows : (k n o : Live) (e : Event) (replies more : List Datagram) → ShowsWorld (turn_placed v e (member_of old) (seen_of l)) k → ShowsWorld (sends replies (seen_of k)) n
      → ShowsWorld (sends more (seen_of n)) o → replies ++ more ≡ datagrams_of_all old.setup (turned old.setup (member_of old) e).sends
      → ShowsWorld (acts v (turns v e) (seen_of l)) o
  turn-shows k n o e replies more first second third whole =
      let m = member_of old in
      let s = setup_of (group_of l) v in
      let both = sends-both replies more (seen_of k) (answered-there k first.is) in
      let all : replies ++ more ≡ datagrams_of_all s (turned s m e).sends = whole ∙ ap (λ (x : Setup). datagrams_of_all x (turned x m e).sends) stands.setup in
      record {
        is = third.is;
        seen =
            third.seen ∙ ap (sends more) second.seen ∙ both ∙ ap (λ (x : List Datagram). sends x (seen_of k)) all
            ∙ ap (sends (datagrams_of_all s (turned s m e).sends)) first.seen ∙ turn-split v e m (seen_of l) s (group-there l v)
            ∙ sym (acts-up v (seen_of l) m (turns v e) stands.found);
      }

-- A member that begins again --

pub seat-there : (l : Live) (v : ℕ) (seat : Seat) → IsWorld l → v < length l.members → seat ≡ get_or l.seats.items v seat → (v < length l.seats.items) × IsSeat (setup_of (group_of l) v) seat
seat-there l v seat is member at =
    let each = is.each in
    let inside : v < length l.seats.items = omega (arith, each, member) in
    (inside, subst (λ (x : Seat). IsSeat (setup_of (group_of l) v) x) (sym at) (is.seats v seat inside))

pub own-seat : (s : Setup) (seat : Seat) → IsSeat s seat → IsSeat seat.setup seat
own-seat s seat is = subst (λ (x : Setup). IsSeat x seat) (sym (seat-group s seat is).1) is

pub restart-shows : (l k : Live) (v : ℕ) (old seat : Seat) → IsWorld l → v < length l.members → old ≡ get_or l.seats.items v old → Runs old.setup (anew (replay old.records)) seat
    → seat.records ≡ old.records → Placed l k v seat → Kept l k → k.passed ≡ l.passed → k.crashes ≡ l.crashes → ShowsWorld (restarts v (seen_of l)) k
unfolding seen_of
restart-shows l k v old seat is member at runs records placed kept passed crashed =
    let there = seat-there l v old is member at in
    let s = setup_of (group_of l) v in
    let place : place_of (seen_of l) v ≡ replica_of old = place-at l v old there.0 ∙ ap replica_of (sym at) in
    let journal : old.records ≡ (place_of (seen_of l) v).journal = ap (λ (r : Replica). r.journal) (sym place) in
    let m = anew (replay old.records) in
    let shown : replica_of seat ≡ started (place_of (seen_of l) v).journal = replica-up old.records old.setup m seat runs records ∙ ap started journal in
    record {
      is = world-placed l k v seat is there.0 (subst (λ (x : Setup). IsSeat x seat) (seat-group s old there.1).1 (runs-seat old.setup m seat runs)) placed;
      seen = placed-seen l k v seat (started (place_of (seen_of l) v).journal) l.passed l.crashes placed kept shown passed crashed;
    }

-- Packets that come --

-- a packet was sent to a member
pub to-member : (g : Group) (to : Addr) (v : ℕ) → position (same_addr to) g.members ≡ Some v → receiver_at g to ≡ MemberAt v
unfolding receiver_at
to-member g to v found = ap (receiver_by (is_from_aggregator g.aggregator to)) found

pub to-other : (g : Group) (to : Addr) → position (same_addr to) g.members ≡ None → receiver_at g to ≡ other_receiver (is_from_aggregator g.aggregator to)
unfolding receiver_at
to-other g to found = ap (receiver_by (is_from_aggregator g.aggregator to)) found

-- who takes it
pub takes-member : (w : Seen) (r : Receiver) (v : ℕ) → MayTake w r → r ≡ MemberAt v → is_up w v ≡ true
takes-member w r v takes same = subst (MayTake w) same takes

-- the packet that comes
pub record ComesAs (w : Seen) (packet : ℕ) (d : Datagram) : Type 0 where
  pub there : slice_get w.datagrams packet ≡ Some d
  pub takes : MayTake w (receiver_at w.group d.to)

pub comes-as : (w : Seen) (packet : ℕ) (d : Datagram) → MayCome w packet → slice_get w.datagrams packet ≡ Some d → ComesAs w packet d
comes-as w packet d may there =
    let sent = may.sent in
    let same : sent.datagram ≡ d = some_is _ _ _ sent.sent there in
    let to : receiver_at w.group d.to ≡ may.receiver = ap (λ (x : Datagram). receiver_at w.group x.to) (sym same) ∙ sent.to in
    record { there = there; takes = subst (MayTake w) (sym to) may.takes }
  where
    some_is : (o : Option Datagram) (a b : Datagram) → o ≡ Some a → o ≡ Some b → a ≡ b
    some_is o a b e f = cc

pub delivers-member : (w : Seen) (packet v : ℕ) (d : Datagram) → slice_get w.datagrams packet ≡ Some d → receiver_at w.group d.to ≡ MemberAt v
    → delivers (slice_get w.datagrams packet) w ≡ acts v (turns v (event.Datagram d)) w
delivers-member w packet v d there to = ap (λ (o : Option Datagram). delivers o w) there ∙ ap (λ (r : Receiver). comes_to r d w) to

pub delivers-aggregator : (w : Seen) (packet : ℕ) (d : Datagram) → slice_get w.datagrams packet ≡ Some d → receiver_at w.group d.to ≡ Aggregator
    → delivers (slice_get w.datagrams packet) w ≡ aggregates d.to (event.Datagram d) w
delivers-aggregator w packet d there to = ap (λ (o : Option Datagram). delivers o w) there ∙ ap (λ (r : Receiver). comes_to r d w) to

-- whoever else takes a packet is the aggregator
pub record IsAggregators (g : Group) (to : Addr) : Type 0 where
  pub receiver : receiver_at g to ≡ Aggregator
  pub address : g.aggregator ≡ Some to

pub takes-other : (w : Seen) (to : Addr) → position (same_addr to) w.group.members ≡ None → MayTake w (receiver_at w.group to) → IsAggregators w.group to
takes-other w to none takes =
    let other = to-other w.group to none in
    by (is_from_aggregator w.group.aggregator to) refl (subst (MayTake w) other takes) other
  where
    from : (a : Option Addr) → is_from_aggregator a to ≡ true → a ≡ Some to
    from (Some a) is = ap Some (sym (same_addr-true to a is))
    from None is = absurd cc

    by : (b : Bool) → is_from_aggregator w.group.aggregator to ≡ b → MayTake w (other_receiver b) → receiver_at w.group to ≡ other_receiver (is_from_aggregator w.group.aggregator to)
        → IsAggregators w.group to
    by true is takes other = record { receiver = other ∙ ap other_receiver is; address = from w.group.aggregator is }
    by false is takes other = absurd takes

-- The aggregator --

whole_state : (m : Addr) (ms : List Addr) (t : Tally) (m' : Addr) (ms' : List Addr) (t' : Tally) → m ≡ m' → ms ≡ ms' → t ≡ t'
    → state_of m ms t ≡ state_of m' ms' t'
whole_state m ms t m' ms' t' e f g = cc

-- the aggregator of a world that has one
pub aggregator-is : (l : Live) (a : AggregatorState) (me : Addr) → IsWorld l → l.aggregator ≡ Some a → l.address ≡ Some me
    → a ≡ record { me = me; members = l.members; tally = tally_of (length l.members) l.aggregator }
aggregator-is l a me is there at = by l.address l.aggregator is.served there at
  where
    by : (address : Option Addr) (found : Option AggregatorState) → IsServed l.members address found → found ≡ Some a → address ≡ Some me
        → a ≡ record { me = me; members = l.members; tally = tally_of (length l.members) found }
    by (Some x) (Some b) served there at =
        let same : b ≡ a = (let e = there in cc) in
        let named : x ≡ me = (let e = at in cc) in
        let first : a.me ≡ me = ap (λ (y : AggregatorState). y.me) (sym same) ∙ served.0 ∙ named in
        let second : a.members ≡ l.members = ap (λ (y : AggregatorState). y.members) (sym same) ∙ served.1 in
        let third : a.tally ≡ b.tally = ap (λ (y : AggregatorState). y.tally) (sym same) in
        whole_state a.me a.members a.tally me l.members b.tally first second third
    by (Some x) None served there at = absurd cc
    by None found served there at = absurd cc

-- it counts on
pub record Aggregated (l k : Live) (a : AggregatorState) : Type 0 where
  pub group : SameGroup l k
  pub seats : k.seats.items ≡ l.seats.items
  pub ids : k.answered.items ≡ l.answered.items
  pub aggregator : k.aggregator ≡ Some a

served-with : (m : List Addr) (address : Option Addr) (old a : AggregatorState) (found : Option AggregatorState) → IsServed m address found → found ≡ Some old → a.me ≡ old.me → a.members ≡ old.members
    → IsServed m address (Some a)
served-with m (Some x) old a (Some b) served there me members =
    let same : b ≡ old = (let e = there in cc) in
    (me ∙ ap (λ (y : AggregatorState). y.me) (sym same) ∙ served.0, members ∙ ap (λ (y : AggregatorState). y.members) (sym same) ∙ served.1)
served-with m (Some x) old a None served there me members = absurd cc
served-with m None old a found served there me members = by found served there
  where
    by : (found : Option AggregatorState) → IsServed m None found → found ≡ Some old → IsServed m None (Some a)
    by (Some b) served there = served
    by None served there = absurd cc

pub world-aggregated : (l k : Live) (old a : AggregatorState) → IsWorld l → l.aggregator ≡ Some old → a.me ≡ old.me → a.members ≡ old.members → Aggregated l k a → IsWorld k
world-aggregated l k old a is there me members did =
    let same = did.group in
    let group = same-group l k same in
    record {
      group = subst IsGroup (sym group) is.group;
      each = ap (λ (x : List Seat). length x) did.seats ∙ is.each ∙ sym (ap (λ (x : List Addr). length x) same.members);
      seats = λ u d within.
          subst (λ (g : Group). IsSeat (setup_of g u) (get_or k.seats.items u d)) (sym group)
          (subst (λ (x : List Seat). IsSeat (setup_of (group_of l) u) (get_or x u d)) (sym did.seats) (is.seats u d (subst (λ (x : List Seat). u < length x) did.seats within)));
      served =
          served-same l.members k.members l.address k.address (Some a) k.aggregator same.members same.address did.aggregator
          (served-with l.members l.address old a l.aggregator is.served there me members);
      ids = ap (λ (x : List Bool). length x) did.ids ∙ is.ids;
    }

pub aggregated-seen : (l k : Live) (a : AggregatorState) → Aggregated l k a → Kept l k → k.passed ≡ l.passed → k.crashes ≡ l.crashes
    → seen_of k ≡ (let w = seen_of l in record w { tally = a.tally })
unfolding seen_of
aggregated-seen l k a did kept passed crashed =
    let same = did.group in
    seen-by _ _ _ _ _ _ _ _ _ _ _ _ _ _ _ _ _ _ _ _ (same-group l k same) (ap (map replica_of) did.seats) (ap (tally_of (length k.members)) did.aggregator) kept.datagrams did.ids
    kept.events kept.requests kept.replies passed crashed

-- a turn of it
pub aggregate-shows : (l k n : Live) (old a : AggregatorState) (me : Addr) (e : Event) (more : List Datagram) → IsWorld l → l.aggregator ≡ Some old → l.address ≡ Some me → IsTurn old e more a
    → seen_of k ≡ (let w = seen_of l in record w { tally = a.tally }) → ShowsWorld (sends more (seen_of k)) n → ShowsWorld (aggregates me e (seen_of l)) n
unfolding seen_of
aggregate-shows l k n old a me e more is there at turn first second =
    let before = aggregator-is l old me is there at in
    let tally : a.tally ≡ (aggregator_turned old e).tally = ap (λ (x : AggregatorState). x.tally) turn.becomes in
    record {
      is = second.is;
      seen =
          second.seen ∙ ap (sends more) first ∙ ap (λ (x : List Datagram). sends x (let w = seen_of l in record w { tally = a.tally })) turn.sends
          ∙ ap (λ (t : Tally). sends (sent old e) (let w = seen_of l in record w { tally = t })) tally
          ∙ ap (λ (x : AggregatorState). sends (sent x e) (let w = seen_of l in record w { tally = (aggregator_turned x e).tally })) before;
    }

-- it begins anew
pub forget-shows : (l k : Live) (old a : AggregatorState) → IsWorld l → l.aggregator ≡ Some old → a ≡ begin old.me old.members → Aggregated l k a → Kept l k → k.passed ≡ l.passed
    → k.crashes ≡ l.crashes → ShowsWorld (forgets (seen_of l)) k
unfolding seen_of
forget-shows l k old a is there anew did kept passed crashed =
    let members : old.members ≡ l.members = served-members l.members l.address old l.aggregator is.served there in
    let tally : a.tally ≡ no_tally (length l.members) = ap (λ (x : AggregatorState). x.tally) anew ∙ ap (λ (x : List Addr). no_tally (length x)) members in
    record {
      is = world-aggregated l k old a is there (ap (λ (x : AggregatorState). x.me) anew) (ap (λ (x : AggregatorState). x.members) anew) did;
      seen = aggregated-seen l k a did kept passed crashed ∙ ap (λ (t : Tally). let w = seen_of l in record w { tally = t }) tally;
    }
  where
    served-members : (m : List Addr) (address : Option Addr) (old : AggregatorState) (found : Option AggregatorState) → IsServed m address found → found ≡ Some old → old.members ≡ m
    served-members m (Some x) old (Some b) served there = (let same : old ≡ b = (let e = there in cc) in ap (λ (y : AggregatorState). y.members) same ∙ served.1)
    served-members m (Some x) old None served there = absurd cc
    served-members m None old (Some b) served there = absurd served
    served-members m None old None served there = absurd cc

pub forget-none : (l : Live) → IsWorld l → l.aggregator ≡ None → ShowsWorld (forgets (seen_of l)) l
unfolding seen_of
forget-none l is none =
    record { is = is; seen = ap (λ (t : Tally). let w = seen_of l in record w { tally = t }) (ap (tally_of (length l.members)) none) }

-- Sendings --

pub send-shows : (l k : Live) (more : List Datagram) → IsWorld l → SamePlaces l k → k.events ≡ l.events → k.requests ≡ l.requests → k.passed ≡ l.passed → k.crashes ≡ l.crashes
    → AreSent more l.datagrams.items l.answered.items l.replies k.datagrams.items k.answered.items k.replies → ShowsWorld (sends more (seen_of l)) k
unfolding seen_of sends
send-shows l k more is same events requests passed crashed sent =
    let group = same.group in
    let long : length k.answered.items ≡ id_limit = ap (λ (x : List Bool). length x) sent.ids ∙ either-length l.answered.items (answered_in more) ∙ is.ids in
    record {
      is = world-same l k is same long;
      seen =
          seen-by _ _ _ _ _ _ _ _ _ _ _ _ _ _ _ _ _ _ _ _ (same-group l k group) (ap (map replica_of) same.seats) (tally-same l.members k.members l.aggregator k.aggregator group.members same.aggregator)
          sent.datagrams sent.ids events requests sent.count passed crashed;
    }

-- the client sends a request
pub ask-shows : (l k n : Live) (kind : Kind) (body : List ℕ) (more : List Datagram) → more ≡ request_parts (group_of l) (request_at l.requests kind body) → SamePlaces l k
    → k.datagrams.items ≡ l.datagrams.items → k.events ≡ l.events → k.requests ≡ capped (l.requests + 1) → k.answered.items ≡ l.answered.items → k.replies ≡ l.replies → k.passed ≡ l.passed
    → k.crashes ≡ l.crashes → ShowsWorld (sends more (seen_of k)) n → ShowsWorld (asks kind body (seen_of l)) n
unfolding seen_of
ask-shows l k n kind body more parts same datagrams events requests ids replies passed crashed did =
    let group = same.group in
    let first : seen_of k ≡ (let w = seen_of l in record w { requests = capped (w.requests + 1) }) =
    seen-by _ _ _ _ _ _ _ _ _ _ _ _ _ _ _ _ _ _ _ _ (same-group l k group) (ap (map replica_of) same.seats) (tally-same l.members k.members l.aggregator k.aggregator group.members same.aggregator)
    datagrams ids events requests replies passed crashed in
    record {
      is = did.is;
      seen = did.seen ∙ ap (sends more) first ∙ ap (λ (x : List Datagram). sends x (let w = seen_of l in record w { requests = capped (w.requests + 1) })) parts;
    }

-- one event more
pub counted-shows : (l k : Live) (w : Seen) → ShowsWorld w l → SamePlaces l k → k.datagrams.items ≡ l.datagrams.items → k.requests ≡ l.requests → k.answered.items ≡ l.answered.items
    → k.replies ≡ l.replies → k.passed ≡ l.passed → k.crashes ≡ l.crashes → k.events ≡ capped (l.events + 1) → ShowsWorld (counts_event w) k
unfolding seen_of
counted-shows l k w shows same datagrams requests ids replies passed crashed events =
    let group = same.group in
    let is = shows.is in
    let first : seen_of k ≡ counts_event (seen_of l) =
    seen-by _ _ _ _ _ _ _ _ _ _ _ _ _ _ _ _ _ _ _ _ (same-group l k group) (ap (map replica_of) same.seats) (tally-same l.members k.members l.aggregator k.aggregator group.members same.aggregator)
    datagrams ids events requests replies passed crashed in
    record { is = world-same l k is same (ap (λ (x : List Bool). length x) ids ∙ is.ids); seen = first ∙ ap counts_event shows.seen }

-- What is told --

pub all-seats : (l : Live) (seats : List Seat) → IsWorld l → seats ≡ l.seats.items → AreSeats seats
all-seats l seats is same =
    record {
      each = λ v d inside.
          own-seat (setup_of (group_of l) v) (get_or seats v d)
          (subst (λ (x : List Seat). IsSeat (setup_of (group_of l) v) (get_or x v d)) (sym same) (is.seats v d (subst (λ (x : List Seat). v < length x) same inside)));
    }

pub down-past : (l : Live) (v : ℕ) → length l.seats.items ≤ v → false ≡ is_up (seen_of l) v
unfolding seen_of
down-past l v past =
    let long = length-map l.seats.items replica_of in
    sym (ap (λ (r : Replica). is_some r.member) (get_or_past (map replica_of l.seats.items) v (stopped []) (omega (arith, past, long))))

pub up-there : (l : Live) (v place : ℕ) (seat : Seat) → IsWorld l → place ≡ v → v < length l.seats.items → seat ≡ get_or l.seats.items place seat
    → IsSeat (setup_of (group_of l) v) seat × (is_up (seen_of l) v ≡ is_some (replica_of seat).member)
up-there l v place seat is same inside at =
    let there : seat ≡ get_or l.seats.items v seat = at ∙ ap (λ (k : ℕ). get_or l.seats.items k seat) same in (
      subst (λ (x : Seat). IsSeat (setup_of (group_of l) v) x) (sym there) (is.seats v seat inside),
      ap (λ (r : Replica). is_some r.member) (place-at l v seat inside ∙ ap replica_of (sym there)),
    )

-- who a packet is for
pub for-member : (l : Live) (packet v : ℕ) (d : Datagram) → slice_get l.datagrams.items packet ≡ Some d → position (same_addr d.to) l.members ≡ Some v
    → true ≡ is_for_group (seen_of l) (slice_get (seen_of l).datagrams packet)
unfolding seen_of
for-member l packet v d there found =
    sym (ap (is_for_group (seen_of l)) there ∙ ap is_inside (to-member (group_of l) d.to v found))

pub for-other : (l : Live) (packet : ℕ) (d : Datagram) → slice_get l.datagrams.items packet ≡ Some d → position (same_addr d.to) l.members ≡ None
    → is_from_aggregator l.address d.to ≡ is_for_group (seen_of l) (slice_get (seen_of l).datagrams packet)
unfolding seen_of
for-other l packet d there none =
    sym (ap (is_for_group (seen_of l)) there ∙ ap is_inside (to-other (group_of l) d.to none) ∙ by (is_from_aggregator l.address d.to))
  where
    by : (b : Bool) → is_inside (other_receiver b) ≡ b
    by true = refl
    by false = refl

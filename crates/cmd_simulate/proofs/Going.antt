-- What each event of a simulation leaves: all members are up, and no packet is forgotten.
use Rattle.std.proofs.Common.{◌≡◌, ℕ, zero, suc, ◌+◌, ◌-◌, ◌<◌, ◌≤◌, Bool, true, false, List, [], ◌∷◌, ◌++◌, length, Option, None, Some, refl, sym, ap, subst, ◌∙◌, arith, length-append}
use Rattle.std.specs.Prelude.{All, is_some, slice_get, slice_index_or, slice_set}
use Rattle.std.proofs.lemmas.List.Elements.{All-append}
use Rattle.std.proofs.lemmas.List.{get_or-set_same}
use Rattle.std.proofs.lemmas.List.FromFn.{get_or-range_with_len, length-range_with_len}
use Rattle.r2_base.specs.declared.addr.Addr.{Addr}
use Rattle.r2_base.specs.declared.datagram.Datagram.{Datagram}
use Rattle.r2_base.specs.declared.entry.Kind.{Kind}
use Rattle.r2_base.specs.declared.event.Event.{Event}
use Rattle.r2_base.specs.declared.event.Event.TheVariants as event
use Rattle.hc_member.specs.Member.{Member as MemberState}
use Rattle.hc_run.specs.Group.{Group, Receiver, Member, Aggregator, Outside, receiver_at}
use Rattle.hc_run.specs.State.{Replica, started, stopped}
use Rattle.hc_world.specs.declared.event.WorldEvent.{WorldEvent}
use Rattle.hc_world.specs.declared.event.WorldEvent.TheVariants.{ClientSend, Deliver, Tick, Crash, Restart}
use Rattle.hc_world.specs.Events.{IsDown, MayHappen}
use Rattle.hc_world.specs.Notes.{capped}
use Rattle.hc_world.specs.Runs.{ShowsRun, run_of}
use Rattle.hc_world.specs.Seen.{Seen, is_up, place_of, seen}
use Rattle.hc_world.specs.Steps.{acts, aggregates, comes_to, crashes_between, delivers, seen_after, sends, turns, where_up}
use Rattle.hc_world.proofs.Shown.{shows-more}
use Rattle.cmd_simulate.specs.declared.plan.Plan.{Plan}
use Rattle.cmd_simulate.specs.Generator.{Course, group_of, happens, numbers, packets}
use Rattle.cmd_simulate.specs.Courses.{GoesOn, IsCourse}

-- Places --

-- whether the member at a place is up
abbrev pub up_at : List Replica → ℕ → Bool
up_at replicas v = is_some (slice_index_or replicas v (stopped [])).member

-- a member that comes up leaves the others up
place-up : (replicas : List Replica) (v : ℕ) (r : Replica) → is_some r.member ≡ true → (u : ℕ) → up_at replicas u ≡ true → up_at (slice_set replicas v r) u ≡ true
place-up [] v r up u is = is
place-up (x ∷ xs) zero r up zero is = up
place-up (x ∷ xs) zero r up (suc u) is = is
place-up (x ∷ xs) (suc v) r up zero is = is
place-up (x ∷ xs) (suc v) r up (suc u) is = place-up xs v r up u is

-- and one that went down and comes up again
place-again : (replicas : List Replica) (v : ℕ) (down r : Replica) → is_some r.member ≡ true → (u : ℕ) → up_at replicas u ≡ true
    → up_at (slice_set (slice_set replicas v down) v r) u ≡ true
place-again [] v down r up u is = is
place-again (x ∷ xs) zero down r up zero is = up
place-again (x ∷ xs) zero down r up (suc u) is = is
place-again (x ∷ xs) (suc v) down r up zero is = is
place-again (x ∷ xs) (suc v) down r up (suc u) is = place-again xs v down r up u is

-- who is up has a place
place-within : (replicas : List Replica) (v : ℕ) → up_at replicas v ≡ true → v < length replicas
place-within [] v is = absurd cc
place-within (x ∷ xs) zero is = omega arith
place-within (x ∷ xs) (suc v) is = (let less = place-within xs v is in omega (arith, less))

-- Events --

-- from one world to another all that were up are up, no packet is forgotten, and the client sent so many requests
pub record Stays (w w' : Seen) (requests : ℕ) : Type 0 where
  pub up : (v : ℕ) → is_up w v ≡ true → is_up w' v ≡ true
  pub more : length w.datagrams ≤ length w'.datagrams
  pub requests_are : w'.requests ≡ requests

sends-more : (old more : List Datagram) → length old ≤ length (old ++ more)
sends-more old more = (let long = length-append old more in omega (arith, long))

stays-turn : (v : ℕ) (e : Event) (m : MemberState) (w : Seen) → Stays w (turns v e m w) w.requests
unfolding sends
stays-turn v e m w = record { up = λ u is. place-up w.replicas v _ refl u is; more = sends-more w.datagrams _; requests_are = refl }

stays-where : (found : Option MemberState) (does : MemberState → Seen → Seen) (w : Seen) → ((m : MemberState) → Stays w (does m w) w.requests) → Stays w (where_up found does w) w.requests
stays-where (Some m) does w each = each m
stays-where None does w each = record { up = λ v is. is; more = omega arith; requests_are = refl }

stays-aggregates : (me : Addr) (e : Event) (w : Seen) → Stays w (aggregates me e w) w.requests
unfolding sends
stays-aggregates me e w = record { up = λ v is. is; more = sends-more w.datagrams _; requests_are = refl }

stays-comes : (to : Receiver) (d : Datagram) (w : Seen) → Stays w (comes_to to d w) w.requests
stays-comes (Member v) d w = stays-where (place_of w v).member (turns v (event.Datagram d)) w (λ m. stays-turn v (event.Datagram d) m w)
stays-comes Aggregator d w = stays-aggregates d.to (event.Datagram d) w
stays-comes Outside d w = record { up = λ v is. is; more = omega arith; requests_are = refl }

stays-delivers : (packet : Option Datagram) (w : Seen) → Stays w (delivers packet w) w.requests
stays-delivers (Some d) w = stays-comes (receiver_at w.group d.to) d w
stays-delivers None w = record { up = λ v is. is; more = omega arith; requests_are = refl }

stays-counted : (w w' x : Seen) → x.replicas ≡ w'.replicas → x.datagrams ≡ w'.datagrams → x.requests ≡ w'.requests → Stays w w' w.requests → Stays w x w.requests
stays-counted w w' x places sent same stays =
    record {
      up = λ v is. subst (λ (r : List Replica). up_at r v ≡ true) (sym places) (stays.up v is);
      more = subst (λ (d : List Datagram). length w.datagrams ≤ length d) (sym sent) stays.more;
      requests_are = same ∙ stays.requests_are;
    }

pub stays-asked : (kind : Kind) (body : List ℕ) (w : Seen) → Stays w (seen_after w (ClientSend kind body)) (capped (w.requests + 1))
unfolding seen_after sends
stays-asked kind body w = record { up = λ v is. is; more = sends-more w.datagrams _; requests_are = refl }

pub stays-delivered : (packet : ℕ) (w : Seen) → Stays w (seen_after w (Deliver packet)) w.requests
unfolding seen_after
stays-delivered packet w =
    stays-counted w (delivers (slice_get w.datagrams packet) w) (seen_after w (Deliver packet)) refl refl refl (stays-delivers (slice_get w.datagrams packet) w)

pub stays-tick : (v : ℕ) (w : Seen) → Stays w (seen_after w (Tick v)) w.requests
unfolding seen_after
stays-tick v w =
    stays-counted w (acts v (turns v event.Tick) w) (seen_after w (Tick v)) refl refl refl
    (stays-where (place_of w v).member (turns v event.Tick) w (λ m. stays-turn v event.Tick m w))

-- a crash and a beginning
abbrev pub again : Seen → ℕ → Seen
again w v = seen_after (seen_after w (Crash v)) (Restart v)

some-member : (found : Option MemberState) → is_some found ≡ true → (m : MemberState) × (found ≡ Some m)
some-member (Some m) is = (m, refl)
some-member None is = absurd cc

crashed : (w : Seen) (v : ℕ) (m : MemberState) → (place_of w v).member ≡ Some m
    → (seen_after w (Crash v)).replicas ≡ slice_set w.replicas v (stopped (place_of w v).journal)
unfolding seen_after
crashed w v m up = by (place_of w v).member up
  where
    by : (found : Option MemberState) → found ≡ Some m → (where_up found (crashes_between v) w).replicas ≡ slice_set w.replicas v (stopped (place_of w v).journal)
    by (Some n) same = refl
    by None same = absurd cc

pub crash-datagrams : (w : Seen) (v : ℕ) → (seen_after w (Crash v)).datagrams ≡ w.datagrams
unfolding seen_after
crash-datagrams w v = by (place_of w v).member
  where
    by : (found : Option MemberState) → (where_up found (crashes_between v) w).datagrams ≡ w.datagrams
    by (Some n) = refl
    by None = refl

crash-requests : (w : Seen) (v : ℕ) → (seen_after w (Crash v)).requests ≡ w.requests
unfolding seen_after
crash-requests w v = by (place_of w v).member
  where
    by : (found : Option MemberState) → (where_up found (crashes_between v) w).requests ≡ w.requests
    by (Some n) = refl
    by None = refl

pub stays-again : (w : Seen) (v : ℕ) → is_up w v ≡ true → Stays w (again w v) w.requests
unfolding seen_after
stays-again w v up =
    let found = some-member (place_of w v).member up in
    let places = crashed w v found.0 found.1 in
    record {
      up = λ u is.
          subst (λ (r : List Replica). up_at (slice_set r v (started (place_of (seen_after w (Crash v)) v).journal)) u ≡ true) (sym places)
          (place-again w.replicas v (stopped (place_of w v).journal) (started (place_of (seen_after w (Crash v)) v).journal) refl u is);
      more = subst (λ (d : List Datagram). length w.datagrams ≤ length d) (sym (crash-datagrams w v)) (omega arith);
      requests_are = crash-requests w v;
    }

-- who crashed is down, and may begin again
pub down-after : (w : Seen) (v : ℕ) → v < length w.group.members → is_up w v ≡ true → (seen_after w (Crash v)).group ≡ w.group → IsDown (seen_after w (Crash v)) v
down-after w v member up same =
    let found = some-member (place_of w v).member up in
    let places = crashed w v found.0 found.1 in
    record {
      member = subst (λ (g : Group). v < length g.members) (sym same) member;
      down = subst (λ (r : List Replica). up_at r v ≡ false) (sym places)
          (ap (λ (r : Replica). is_some r.member) (get_or-set_same w.replicas v (stopped (place_of w v).journal) (stopped []) (place-within w.replicas v up)));
    }

-- Simulations --

pub numbers-below : (a b : ℕ) → a ≤ b → All (λ k. k < b) (numbers a b)
numbers-below a b within i d inside =
    let long = length-range_with_len a (b - a) in
    let less : i < b - a = omega (arith, inside, long) in
    rw (get_or-range_with_len a (b - a) i d less) (omega (arith, within, less))

pub all-below : (a b : ℕ) (xs : List ℕ) → a ≤ b → All (λ k. k < a) xs → All (λ k. k < b) xs
all-below a b xs within all i d inside = (let less = all i d inside in omega (arith, within, less))

some_is : (a b : Seen) → Some a ≡ Some b → a ≡ b
some_is a b e = cc

-- what a world shows of the packets and the group
pub packets-shown : (g : Group) (events : List WorldEvent) (w : Seen) → ShowsRun g events (Some w) → packets g events ≡ w.datagrams
unfolding seen
packets-shown g events w shows = sym (ap (λ (x : Seen). x.datagrams) (some_is w (seen g (run_of g events)) shows.seen))

pub group-shown : (g : Group) (events : List WorldEvent) (w : Seen) → ShowsRun g events (Some w) → w.group ≡ g
unfolding seen
group-shown g events w shows = ap (λ (x : Seen). x.group) (some_is w (seen g (run_of g events)) shows.seen)

-- an event that leaves all members up
pub goes-happens : (plan : Plan) (before after : ℕ) (x : Course) (e : WorldEvent) → (is : IsCourse plan before x) → MayHappen is.world e → Stays is.world (seen_after is.world e) after
    → GoesOn plan after x (happens (group_of plan) e x)
unfolding happens
goes-happens plan before after x e is may stays =
    let g = group_of plan in
    let events = x.events ++ e ∷ [] in
    let shows = shows-more g x.events e is.world (Some is.world) (Some (seen_after is.world e)) is.shows refl may refl in
    let old = ap length (packets-shown g x.events is.world is.shows) in
    let new = ap length (packets-shown g events (seen_after is.world e) shows) in
    let more = stays.more in
    let first = length (packets g x.events) in
    let last = length (packets g events) in
    let less : first ≤ last = omega (arith, more, old, new) in
    record {
      is = record {
        world = seen_after is.world e;
        shows = shows;
        up = λ v member. stays.up v (is.up v member);
        requests = stays.requests_are;
        flight = All-append (λ k. k < last) x.flight (numbers first last) (all-below first last x.flight less is.flight) (numbers-below first last less);
      };
      more = less;
    }

-- a member that crashes and begins again
pub goes-again : (plan : Plan) (number : ℕ) (x : Course) (v : ℕ) → IsCourse plan number x → v < plan.members → length (group_of plan).members ≡ plan.members
    → GoesOn plan number x (happens (group_of plan) (Restart v) (happens (group_of plan) (Crash v) x))
unfolding happens
goes-again plan number x v is member size =
    let g = group_of plan in
    let w = is.world in
    let w1 = seen_after w (Crash v) in
    let up = is.up v member in
    let crashed_events = x.events ++ Crash v ∷ [] in
    let shows1 = shows-more g x.events (Crash v) w (Some w) (Some w1) is.shows refl up refl in
    let groups = group-shown g crashed_events w1 shows1 ∙ sym (group-shown g x.events w is.shows) in
    let inside : v < length w.group.members = subst (λ (h : Group). v < length h.members) (sym (group-shown g x.events w is.shows)) (omega (arith, member, size)) in
    let shows2 = shows-more g crashed_events (Restart v) w1 (Some w1) (Some (again w v)) shows1 refl (down-after w v inside up groups) refl in
    let stays = stays-again w v up in
    let first = length (packets g x.events) in
    let middle = length (packets g crashed_events) in
    let last = length (packets g (crashed_events ++ Restart v ∷ [])) in
    let a = ap length (packets-shown g x.events w is.shows) in
    let b = ap length (packets-shown g crashed_events w1 shows1) in
    let c = ap length (packets-shown g (crashed_events ++ Restart v ∷ []) (again w v) shows2) in
    let same = ap length (crash-datagrams w v) in
    let more = stays.more in
    let low : first ≤ middle = omega (arith, a, b, same) in
    let high : middle ≤ last = omega (arith, a, b, c, same, more) in
    let less : first ≤ last = omega (arith, low, high) in
    record {
      is = record {
        world = again w v;
        shows = shows2;
        up = λ u there. stays.up u (is.up u there);
        requests = stays.requests_are ∙ is.requests;
        flight = All-append (λ k. k < last) (x.flight ++ numbers first middle) (numbers middle last)
            (all-below middle last (x.flight ++ numbers first middle) high
            (All-append (λ k. k < middle) x.flight (numbers first middle) (all-below first middle x.flight low is.flight) (numbers-below first middle low)))
            (numbers-below middle last high);
      };
      more = less;
    }

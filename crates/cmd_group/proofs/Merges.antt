-- Each step of loops is seen in a run of the group, and so are all of them.
use Rattle.std.proofs.Common.{◌≡◌, ℕ, zero, suc, ◌<◌, List, [], ◌∷◌, ◌++◌, get_or, length, set, Option, None, Some, refl, sym, ap, subst, ◌∙◌, arith, append_assoc, append-nil, inl, inr}
use Rattle.std.specs.Prelude.{is_some, slice_get, IfSome, IsSome}
use Rattle.std.proofs.lemmas.List.{get_or-set_same}
use Rattle.r2_base.specs.declared.addr.Addr.{Addr}
use Rattle.r2_base.specs.declared.datagram.Datagram.{Datagram}
use Rattle.r2_base.specs.declared.event.Event.{Event}
use Rattle.r2_base.specs.declared.event.Event.TheVariants as event
use Rattle.hc_member.specs.Finish.{finished}
use Rattle.hc_member.specs.Member.{Member as MemberState}
use Rattle.hc_member.specs.Sending.{datagrams_of_all}
use Rattle.hc_member.specs.Turn.{turned}
use Rattle.hc_aggregate.specs.Turn.{reacted, sent}
use Rattle.hc_rules.specs.Log.{In}
use Rattle.hc_rules.specs.Message.{Request}
use Rattle.hc_run.specs.Group.{Group, IsGroup, Receiver, Member, Aggregator, receiver_at, setup_of}
use Rattle.hc_run.specs.State.{GroupState, Replica, beginning, journal_at, member_at, stopped}
use Rattle.hc_run.specs.Events.{GroupEvent, ClientSend, Deliver, Tick, Quiet, Crash, Restart, Forget, End, IsNew, IsPossible}
use Rattle.hc_run.specs.Runs.{ArePossible, after_events}
use Rattle.hc_run.specs.Staying.{IsExtendedTo}
use Rattle.hc_run.specs.Steps.{asked, aggregates, comes_to, crashes, delivered, ends, happens, makes_turn, request_parts, step, stops, where_up, with_finished, with_heard, with_sent, with_stored}
use Rattle.hc_run.proofs.Items.{in-left, in-parts, in-right}
use Rattle.hc_run.proofs.WholeRuns.{events-follow}
use Rattle.cmd_group.specs.Steps.{Act, Turns, Breaks, Stops, Closes, Begins, Step, Asks, Acts, Aggregates, BeginsAnew}
use Rattle.cmd_group.specs.Members.{AreFirst, MayBy, closing_sends, event_of, place_by, sends_by}
use Rattle.cmd_group.specs.Merge.{IsSeenIn, IsTakenIn, Loops, MayAggregate, MayCome, MayDo, MayFollow, MergesAreRuns, after_step, after_steps, aggregator_at, begun, loops_after}
use Rattle.cmd_group.proofs.Beginnings.{all-stop}
use Rattle.cmd_group.proofs.Received.{number-of, received-by-aggregator, received-by-member}

-- Ways --

-- possible events that lead on from a state of the group to one in which loops are seen
record Leads (g : Group) (t : GroupState) (s : Loops) : Type 0 where
  events : List GroupEvent
  possible : ArePossible g t events
  seen : IsSeenIn (after_events g t events) s

both-possible : (g : Group) (t : GroupState) (events more : List GroupEvent) → ArePossible g t events → ArePossible g (after_events g t events) more
    → ArePossible g t (events ++ more)
both-possible g t [] more may then = then
both-possible g t (e ∷ events) more may then = (may.0, both-possible g (step g t e) events more may.1 then)

leads-then : (g : Group) (t : GroupState) (s : Loops) (events : List GroupEvent) → ArePossible g t events → Leads g (after_events g t events) s → Leads g t s
leads-then g t s events may rest =
    record {
      events = events ++ rest.events;
      possible = both-possible g t events rest.events may rest.possible;
      seen = subst (λ (u : GroupState). IsSeenIn u s) (sym (events-follow g t events rest.events)) rest.seen;
    }

leads-none : (g : Group) (t : GroupState) (s : Loops) → IsSeenIn t s → Leads g t s
leads-none g t s seen = record { events = []; possible = tt; seen = seen }

-- the count of events doesn't matter
step-seen : (g : Group) (t u : GroupState) (e : GroupEvent) (s : Loops) → happens g e t ≡ u → IsSeenIn u s → IsSeenIn (step g t e) s
unfolding step
step-seen g t u e s same seen =
    let there : IsSeenIn (happens g e t) s = subst (λ (x : GroupState). IsSeenIn x s) (sym same) seen in
    record { replicas = there.replicas; tally = there.tally; table = there.table; sent = there.sent }

-- one event
leads-by : (g : Group) (t u : GroupState) (e : GroupEvent) (s : Loops) → IsPossible g t e → happens g e t ≡ u → IsSeenIn u s → Leads g t s
leads-by g t u e s may same seen =
    record { events = e ∷ []; possible = (may, tt); seen = step-seen g t u e s same seen }

-- Moments --

-- a moment of events that lead on from a state, at which loops are seen
record Moment (g : Group) (t : GroupState) (events : List GroupEvent) (s : Loops) : Type 0 where
  earlier : List GroupEvent
  later : List GroupEvent
  split : earlier ++ later ≡ events
  seen : IsSeenIn (after_events g t earlier) s

-- before all of them
moment-now : (g : Group) (t : GroupState) (events : List GroupEvent) (s : Loops) → IsSeenIn t s → Moment g t events s
moment-now g t events s seen = record { earlier = []; later = events; split = refl; seen = seen }

-- or after some
moment-later : (g : Group) (t : GroupState) (events more : List GroupEvent) (s : Loops) → Moment g (after_events g t events) more s → Moment g t (events ++ more) s
moment-later g t events more s m =
    record {
      earlier = events ++ m.earlier;
      later = m.later;
      split = append_assoc events m.earlier m.later ∙ ap (λ (l : List GroupEvent). events ++ l) m.split;
      seen = subst (λ (u : GroupState). IsSeenIn u s) (sym (events-follow g t events m.earlier)) m.seen;
    }

-- possible events that go on from a state of the group as steps go on from loops
record Goes (g : Group) (t : GroupState) (s : Loops) (steps : List Step) : Type 0 where
  events : List GroupEvent
  possible : ArePossible g t events
  seen : IsSeenIn (after_events g t events) (after_steps g s steps)
  earlier : (before after : List Step) → before ++ after ≡ steps → Moment g t events (after_steps g s before)
  in_turn : (before more after : List Step) (first : before ++ (more ++ after) ≡ steps) (then : (before ++ more) ++ after ≡ steps)
      → IsExtendedTo (earlier before (more ++ after) first).earlier (earlier (before ++ more) after then).earlier

none-earlier : (g : Group) (t : GroupState) (s : Loops) → IsSeenIn t s → (before after : List Step) → before ++ after ≡ [] → Moment g t [] (after_steps g s before)
none-earlier g t s seen [] after e = moment-now g t [] s seen
none-earlier g t s seen (x ∷ before) after e = absurd cc

none-in-turn : (g : Group) (t : GroupState) (s : Loops) (seen : IsSeenIn t s) (before more after : List Step) (first : before ++ (more ++ after) ≡ []) (then : (before ++ more) ++ after ≡ [])
    → IsExtendedTo (none-earlier g t s seen before (more ++ after) first).earlier (none-earlier g t s seen (before ++ more) after then).earlier
unfolding none-earlier moment-now
none-in-turn g t s seen [] more after first then = record { later = (none-earlier g t s seen more after then).earlier; split = refl }
none-in-turn g t s seen (x ∷ before) more after first then = absurd cc

goes-none : (g : Group) (t : GroupState) (s : Loops) → IsSeenIn t s → Goes g t s []
goes-none g t s seen = record { events = []; possible = tt; seen = seen; earlier = none-earlier g t s seen; in_turn = none-in-turn g t s seen }

same-first : (x y : Step) (l more : List Step) → x ∷ l ≡ y ∷ more → x ≡ y
same-first x y l more e = cc

same-rest : (x y : Step) (l more : List Step) → x ∷ l ≡ y ∷ more → l ≡ more
same-rest x y l more e = cc

extended-after : (l before now : List GroupEvent) → IsExtendedTo before now → IsExtendedTo (l ++ before) (l ++ now)
extended-after l before now one =
    record { later = one.later; split = ap (λ (x : List GroupEvent). l ++ x) one.split ∙ sym (append_assoc l before one.later) }

module _ (g : Group) (t : GroupState) (s : Loops) (next : Step) (more : List Step) (seen : IsSeenIn t s) (first : Leads g t (after_step g s next))
    (rest : Goes g (after_events g t first.events) (after_step g s next) more) where
  -- the moments of the steps that follow a first one
  rest-earlier : (x : Step) (before after : List Step) → x ≡ next → before ++ after ≡ more → Moment g t (first.events ++ rest.events) (after_steps g (after_step g s x) before)
  unfolding moment-later
  rest-earlier x before after same e =
      let m = moment-later g t first.events rest.events (after_steps g (after_step g s next) before) (rest.earlier before after e) in
      record {
        earlier = first.events ++ (rest.earlier before after e).earlier;
        later = m.later;
        split = m.split;
        seen = subst (λ (y : Step). IsSeenIn (after_events g t m.earlier) (after_steps g (after_step g s y) before)) (sym same) m.seen;
      }

  then-earlier : (before after : List Step) → before ++ after ≡ next ∷ more → Moment g t (first.events ++ rest.events) (after_steps g s before)
  then-earlier [] after e = moment-now g t (first.events ++ rest.events) s seen
  then-earlier (x ∷ before) after e = rest-earlier x before after (same-first x next (before ++ after) more e) (same-rest x next (before ++ after) more e)

  then-in-turn : (before between after : List Step) (one : before ++ (between ++ after) ≡ next ∷ more) (two : (before ++ between) ++ after ≡ next ∷ more)
      → IsExtendedTo (then-earlier before (between ++ after) one).earlier (then-earlier (before ++ between) after two).earlier
  unfolding then-earlier rest-earlier moment-now moment-later
  then-in-turn [] between after one two = record { later = (then-earlier between after two).earlier; split = refl }
  then-in-turn (x ∷ before) between after one two =
      let now = same-rest x next (before ++ (between ++ after)) more one in
      let then = same-rest x next ((before ++ between) ++ after) more two in
      extended-after first.events (rest.earlier before (between ++ after) now).earlier (rest.earlier (before ++ between) after then).earlier
      (rest.in_turn before between after now then)

  goes-then : Goes g t s (next ∷ more)
  goes-then =
      record {
        events = first.events ++ rest.events;
        possible = both-possible g t first.events rest.events first.possible rest.possible;
        seen = subst (λ (u : GroupState). IsSeenIn u (after_steps g (after_step g s next) more)) (sym (events-follow g t first.events rest.events)) rest.seen;
        earlier = then-earlier;
        in_turn = then-in-turn;
      }

-- What is sent --

abbrev Has : GroupState → List Datagram → Type 0
Has t sent = (d : Datagram) → In d sent → In d t.datagrams

first-there : (first all : List Datagram) (d : Datagram) → AreFirst first all → In d first → In d all
first-there first all d are there = subst (λ (l : List Datagram). In d l) (sym are.split) (in-left d first are.unsent there)

more-there : (old sent all first : List Datagram) → ((d : Datagram) → In d sent → In d old) → ((d : Datagram) → In d first → In d all) → (d : Datagram) → In d (sent ++ first) → In d (old ++ all)
more-there old sent all first has each d there =
    elim (in-parts d sent first there) [
      | inl before ↦ in-left d old all (has d before)
      | inr new ↦ in-right d old all (each d new)
    ]

-- Members --

set-again : {A : Type 0} (xs : List A) (i : ℕ) (a b : A) → set (set xs i a) i b ≡ set xs i b
set-again [] i a b = refl
set-again (x ∷ xs) zero a b = refl
set-again {A = A} (x ∷ xs) (suc i) a b = ap (λ (l : List A). x ∷ l) (set-again xs i a b)

-- a member that is up has a place
up-inside : (replicas : List Replica) (v : ℕ) (m : MemberState) → (get_or replicas v (stopped [])).member ≡ Some m → v < length replicas
up-inside [] v m up = absurd cc
up-inside (r ∷ replicas) zero m up = omega arith
up-inside (r ∷ replicas) (suc v) m up = let rest = up-inside replicas v m up in omega (arith, rest)

-- what is seen of a group
abbrev seen : GroupState → List Datagram → Loops
seen t sent = record { replicas = t.replicas; tally = t.tally; sent = sent; table = t.table }

-- and once v's loop, which runs this or nothing, did something
abbrev acted : Group → GroupState → List Datagram → ℕ → Act → Option MemberState → Loops
acted g t sent v act found =
    record {
      replicas = set t.replicas v (place_by (setup_of g v) (journal_at t v) found act);
      tally = t.tally;
      sent = sent ++ sends_by (setup_of g v) found act;
      table = t.table;
    }

-- the event of a turn
record IsTurnOf (g : Group) (t : GroupState) (v : ℕ) (e : Event) (m : MemberState) : Type 0 where
  at : GroupEvent
  possible : IsPossible g t at
  makes : happens g at t ≡ makes_turn g v e m t

-- a group after so many turns at which v finishes what is pending
record Ended (g : Group) (t u : GroupState) (v times : ℕ) (m : MemberState) : Type 0 where
  replicas : u.replicas ≡ set t.replicas v (stopped (journal_at t v))
  tally : u.tally ≡ t.tally
  table : u.table ≡ t.table
  sent : u.datagrams ≡ t.datagrams ++ closing_sends (setup_of g v) m times

module _ (g : Group) (is : IsGroup g) (v : ℕ) where
  turn-of : (t : GroupState) (sent : List Datagram) (m : MemberState) (e : Event) → Has t sent → member_at t v ≡ Some m → IsTakenIn sent (slice_get g.members v) e → IsTurnOf g t v e m
  turn-of t sent m (event.Datagram d) has up taken =
      let number = number-of d t.datagrams (has d taken.0) in
      let to = received-by-member g is d.to v taken.1 in
      record {
        at = Deliver number.number;
        possible = record { receiver = Member v; sent = record { datagram = d; sent = number.found; to = to }; takes = ap is_some up };
        makes =
            ap (λ (found : Option Datagram). delivered g found t) number.found
            ∙ ap (λ (r : Receiver). comes_to g r d t) to
            ∙ ap (λ (found : Option MemberState). where_up found (makes_turn g v (event.Datagram d)) t) up;
      }
  turn-of t sent m event.Tick has up taken =
      record {
        at = Tick v;
        possible = ap is_some up;
        makes = ap (λ (found : Option MemberState). where_up found (makes_turn g v event.Tick) t) up;
      }
  turn-of t sent m event.Quiet has up taken =
      record {
        at = Quiet v;
        possible = ap is_some up;
        makes = ap (λ (found : Option MemberState). where_up found (makes_turn g v event.Quiet) t) up;
      }

  -- a turn
  turn-seen : (t : GroupState) (sent : List Datagram) (m : MemberState) (e : Event) → Has t sent → IsSeenIn (makes_turn g v e m t) (acted g t sent v (Turns e) (Some m))
  unfolding makes_turn with_sent with_heard with_finished
  turn-seen t sent m e has =
      let sends = datagrams_of_all (setup_of g v) (turned (setup_of g v) m e).sends in
      record { replicas = refl; tally = refl; table = refl; sent = more-there t.datagrams sent sends sends has (λ d there. there) }

  turn-leads : (t : GroupState) (sent : List Datagram) (m : MemberState) (e : Event) → Has t sent → member_at t v ≡ Some m → IsTakenIn sent (slice_get g.members v) e
      → Leads g t (acted g t sent v (Turns e) (Some m))
  turn-leads t sent m e has up taken =
      let turn = turn-of t sent m e has up taken in
      leads-by g t (makes_turn g v e m t) turn.at (acted g t sent v (Turns e) (Some m)) turn.possible turn.makes (turn-seen t sent m e has)

  -- a loop that is over
  stop-leads : (t : GroupState) (sent : List Datagram) (m : MemberState) → Has t sent → member_at t v ≡ Some m
      → Leads g t (record { replicas = set t.replicas v (stopped (journal_at t v)); tally = t.tally; sent = sent; table = t.table })
  stop-leads t sent m has up =
      leads-by g t (crashes (stops v (journal_at t v) t)) (Crash v) _ (ap is_some up)
      (ap (λ (found : Option MemberState). where_up found (λ m s. crashes (stops v (journal_at s v) s)) t) up)
      (record { replicas = refl; tally = refl; table = refl; sent = has })

  -- a turn of which a prefix is sent: it is made, and the loop is over
  break-leads : (t : GroupState) (sent first : List Datagram) (m : MemberState) (e : Event) → Has t sent → member_at t v ≡ Some m → IsTakenIn sent (slice_get g.members v) e
      → AreFirst first (datagrams_of_all (setup_of g v) (turned (setup_of g v) m e).sends) → Leads g t (acted g t sent v (Breaks e first) (Some m))
  break-leads t sent first m e has up taken are =
      let setup = setup_of g v in
      let r = turned setup m e in
      let sends = datagrams_of_all setup r.sends in
      let whole = turn-leads t sent m e has up taken in
      let u = after_events g t whole.events in
      let there = whole.seen in
      let a : Replica = record { journal = with_stored (journal_at t v) r.stored; member = Some r.member } in
      let place : get_or u.replicas v (stopped []) ≡ a =
      ap (λ (l : List Replica). get_or l v (stopped [])) (sym there.replicas) ∙ get_or-set_same t.replicas v a (stopped []) (up-inside t.replicas v m up) in
      let gone : Has u (sent ++ first) = λ d in-these. there.sent d (more-there sent sent sends first (λ x x-there. x-there) (λ x. first-there first sends x are) d in-these) in
      let over = stop-leads u (sent ++ first) r.member gone (ap (λ (x : Replica). x.member) place) in
      let same : set u.replicas v (stopped (journal_at u v)) ≡ set t.replicas v (stopped a.journal) =
      ap (λ (l : List Replica). set l v (stopped (journal_at u v))) (sym there.replicas)
      ∙ set-again t.replicas v a (stopped (journal_at u v))
      ∙ ap (λ (x : Replica). set t.replicas v (stopped x.journal)) place in
      let now : Loops = acted g t sent v (Breaks e first) (Some m) in
      leads-then g t now whole.events whole.possible
      (subst (λ (s : Loops). Leads g u s)
      (λ k. record { replicas = same k; tally = sym there.tally k; sent = sent ++ first; table = sym there.table k })
      over)

  -- the turns after the end of a link
  ends-so : (times : ℕ) (t : GroupState) (m : MemberState) → Ended g t (ends g v times m t) v times m
  unfolding ends with_sent with_finished closing_sends
  ends-so zero t m = record { replicas = refl; tally = refl; table = refl; sent = sym (append-nil t.datagrams) }
  ends-so (suc times) t m =
      let f = finished (setup_of g v) m in
      let u = with_sent g v f.sends (with_finished g v m t) in
      let rest = ends-so times u f.member in
      record {
        replicas = rest.replicas;
        tally = rest.tally;
        table = rest.table;
        sent = rest.sent ∙ append_assoc t.datagrams (datagrams_of_all (setup_of g v) f.sends) (closing_sends (setup_of g v) f.member times);
      }

  close-leads : (t : GroupState) (sent first : List Datagram) (times : ℕ) (m : MemberState) → Has t sent → member_at t v ≡ Some m
      → MayBy (setup_of g v) (Some m) (Closes times first) → Leads g t (acted g t sent v (Closes times first) (Some m))
  close-leads t sent first times m has up may =
      let all = closing_sends (setup_of g v) m times in
      let ended = ends-so times t m in
      leads-by g t (ends g v times m t) (End v times) (acted g t sent v (Closes times first) (Some m)) (record { runs = ap is_some up; once = may.0 })
      (ap (λ (found : Option MemberState). where_up found (ends g v times) t) up)
      (record {
        replicas = sym ended.replicas;
        tally = sym ended.tally;
        table = sym ended.table;
        sent = λ d there. subst (λ (l : List Datagram). In d l) (sym ended.sent) (more-there t.datagrams sent all first has (λ x. first-there first all x may.1) d there);
      })

  -- whatever it does
  act-leads : (t : GroupState) (sent : List Datagram) (act : Act) (found : Option MemberState) → Has t sent → member_at t v ≡ found → v < length g.members
      → IfSome (event_of act) (λ e. IsTakenIn sent (slice_get g.members v) e) → MayBy (setup_of g v) found act → Leads g t (acted g t sent v act found)
  act-leads t sent (Turns e) (Some m) has up inside taken may = turn-leads t sent m e has up taken
  act-leads t sent (Breaks e first) (Some m) has up inside taken may = break-leads t sent first m e has up taken may
  act-leads t sent Stops (Some m) has up inside taken may =
      stop-leads t (sent ++ []) m (λ d there. has d (subst (λ (l : List Datagram). In d l) (append-nil sent) there)) up
  act-leads t sent (Closes times first) (Some m) has up inside taken may = close-leads t sent first times m has up may
  act-leads t sent Begins (Some m) has up inside taken may = absurd may
  act-leads t sent Begins None has up inside taken may =
      leads-by g t (happens g (Restart v) t) (Restart v) (acted g t sent v Begins None) (record { member = inside; down = ap is_some up }) refl
      (record { replicas = refl; tally = refl; table = refl; sent = λ d there. has d (subst (λ (l : List Datagram). In d l) (append-nil sent) there) })
  act-leads t sent (Turns e) None has up inside taken may = absurd may
  act-leads t sent (Breaks e first) None has up inside taken may = absurd may
  act-leads t sent Stops None has up inside taken may = absurd may
  act-leads t sent (Closes times first) None has up inside taken may = absurd may

-- The others --

module _ (g : Group) (is : IsGroup g) where
  asks-leads : (t : GroupState) (sent : List Datagram) (q : Request) → Has t sent → IsNew t.table q → Leads g t (after_step g (seen t sent) (Asks q))
  unfolding asked
  asks-leads t sent q has new =
      let parts = request_parts g q in
      leads-by g t (asked g q t) (ClientSend q) (after_step g (seen t sent) (Asks q)) new refl
      (record { replicas = refl; tally = refl; table = refl; sent = more-there t.datagrams sent parts parts has (λ d there. there) })

  -- a turn at which nothing happens
  still-leads : (t : GroupState) (sent first : List Datagram) → Has t sent → AreFirst first [] → Leads g t (seen t (sent ++ first))
  still-leads t sent first has are =
      leads-none g t (seen t (sent ++ first))
      (record { replicas = refl; tally = refl; table = refl; sent = λ d there. subst (λ (l : List Datagram). In d l) (append-nil t.datagrams) (more-there t.datagrams sent [] first has (λ x. first-there first [] x are) d there) })

  aggregates-leads : (t : GroupState) (gone first : List Datagram) (me : Addr) (e : Event) → Has t gone → MayAggregate g (seen t gone) me e
      → AreFirst first (sent (aggregator_at g me t.tally) e)
      → Leads g t (after_step g (seen t gone) (Aggregates me e first))
  unfolding reacted
  aggregates-leads t gone first me (event.Datagram d) has may are =
      let taken = may.taken in
      let number = number-of d t.datagrams (has d taken.0) in
      let same : me ≡ d.to = cc in
      let to = subst (λ (a : Addr). receiver_at g a ≡ Aggregator) same (received-by-aggregator g is me may.is) in
      let all = sent (aggregator_at g me t.tally) (event.Datagram d) in
      leads-by g t (aggregates g me (event.Datagram d) t) (Deliver number.number) (after_step g (seen t gone) (Aggregates me (event.Datagram d) first))
      (record { receiver = Aggregator; sent = record { datagram = d; sent = number.found; to = to }; takes = tt })
      (ap (λ (found : Option Datagram). delivered g found t) number.found
      ∙ ap (λ (r : Receiver). comes_to g r d t) to
      ∙ ap (λ (a : Addr). aggregates g a (event.Datagram d) t) (sym same))
      (record { replicas = refl; tally = refl; table = refl; sent = more-there t.datagrams gone all first has (λ x. first-there first all x are) })
  aggregates-leads t gone first me event.Tick has may are = still-leads t gone first has are
  aggregates-leads t gone first me event.Quiet has may are = still-leads t gone first has are

  begins-leads : (t : GroupState) (sent : List Datagram) (me : Addr) → Has t sent → g.aggregator ≡ Some me → Leads g t (after_step g (seen t sent) (BeginsAnew me))
  begins-leads t sent me has at =
      leads-by g t (happens g Forget t) Forget (after_step g (seen t sent) (BeginsAnew me)) (subst (λ (o : Option Addr). IsSome o) (sym at) refl) refl
      (record { replicas = refl; tally = refl; table = refl; sent = has })

  -- Steps --

  step-leads : (t : GroupState) (sent : List Datagram) (next : Step) → Has t sent → MayCome g (seen t sent) next → MayDo g (seen t sent) next → Leads g t (after_step g (seen t sent) next)
  step-leads t sent (Asks q) has may does = asks-leads t sent q has may
  step-leads t sent (Acts v act) has may does = act-leads g is v t sent act (member_at t v) has refl may.inside may.taken does
  step-leads t sent (Aggregates me e first) has may does = aggregates-leads t sent first me e has may does
  step-leads t sent (BeginsAnew me) has may does = begins-leads t sent me has may

  one-leads : (t : GroupState) (s : Loops) (next : Step) → IsSeenIn t s → MayCome g s next → MayDo g s next → Leads g t (after_step g s next)
  one-leads t s next there =
      let same : seen t s.sent ≡ s = λ k. record { replicas = sym there.replicas k; tally = sym there.tally k; sent = s.sent; table = sym there.table k } in
      subst (λ (x : Loops). MayCome g x next → MayDo g x next → Leads g t (after_step g x next)) same (step-leads t s.sent next there.sent)

  all-go : (t : GroupState) (s : Loops) (steps : List Step) → IsSeenIn t s → MayFollow g s steps → Goes g t s steps
  all-go t s [] there may = goes-none g t s there
  all-go t s (next ∷ more) there may =
      let first = one-leads t s next there may.0 may.1 in
      goes-then g t s next more there first (all-go (after_events g t first.events) (after_step g s next) more first.seen may.2)

pub merges_are_runs : MergesAreRuns
unfolding moment-later
merges_are_runs g steps is merge =
    let first = all-stop g in
    let t = after_events g (beginning g) first.events in
    let goes =
    all-go g is t (begun g) steps (record { replicas = sym first.replicas; tally = sym first.tally; table = sym first.table; sent = λ d there. absurd there }) merge.may in
    record {
      events = first.events ++ goes.events;
      is = record { possible = both-possible g (beginning g) first.events goes.events first.possible goes.possible };
      seen =
          subst (λ (u : GroupState). IsSeenIn u (loops_after g steps)) (sym (events-follow g (beginning g) first.events goes.events)) goes.seen;
      earlier =
          λ before after e.
          let m = moment-later g (beginning g) first.events goes.events (loops_after g before) (goes.earlier before after e) in
          record { earlier = m.earlier; later = m.later; split = m.split; seen = m.seen };
      in_turn =
          λ before more after one two.
          extended-after first.events (goes.earlier before (more ++ after) one).earlier (goes.earlier (before ++ more) after two).earlier
          (goes.in_turn before more after one two);
    }

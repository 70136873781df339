-- What is counted is what happened.
use Rattle.std.proofs.Common.{cond, ◌≡◌, ℕ, ◌+◌, ◌≤◌, Bool, true, false, List, [], ◌∷◌, ◌++◌, length, map, take, Option, None, Some, refl, sym, ap, subst, ◌∙◌, arith, length-append}
use Rattle.std.specs.Prelude.{All, count_by, slice_get, if◌then◌else◌}
use Rattle.std.specs.List.{list_any, range_with_len}
use Rattle.std.proofs.lemmas.List.Elements.{All-head, All-tail}
use Rattle.std.proofs.lemmas.List.FromFn.{take-map-range_with_len}
use Rattle.std.proofs.lemmas.List.Sums.{sum_by-append}
use Rattle.r2_base.specs.declared.datagram.Datagram.{Datagram}
use Rattle.r2_base.specs.declared.event.Event.{Event}
use Rattle.r2_base.specs.declared.event.Event.TheVariants as event
use Rattle.r2_base.specs.declared.rid.Rid.{Rid}
use Rattle.r2_base.specs.Limits.{id_limit}
use Rattle.r2_base.specs.Names.{same_rid}
use Rattle.hc_member.specs.Member.{Member as MemberState}
use Rattle.hc_member.specs.Turn.{turned}
use Rattle.hc_rules.specs.Message.{Reply, Request}
use Rattle.hc_run.specs.Group.{Group, Receiver, Member, Aggregator, Outside, receiver_at, setup_of}
use Rattle.hc_run.specs.Held.{IsAsked}
use Rattle.hc_run.specs.Runs.{after_events}
use Rattle.hc_run.specs.State.{GroupState, beginning, journal_at, member_at}
use Rattle.hc_run.specs.Steps.{asked, comes_to, crashes, crashes_in_turn, delivered, event_of as event_at, happens, lasts, makes_turn, packet_at, step, stops, where_up, with_facts, with_finished, with_heard, with_sent, with_stored}
use Rattle.hc_run.proofs.WholeRuns.{runs_are_rules}
use Rattle.hc_world.specs.declared.event.WorldEvent.{WorldEvent}
use Rattle.hc_world.specs.declared.event.WorldEvent.TheVariants.{ClientSend, Deliver, Tick, Quiet, Crash, Restart, CrashInTurn, Forget}
use Rattle.hc_world.specs.declared.counts.Counts.{Counts}
use Rattle.hc_world.specs.Addresses.{rid_of}
use Rattle.hc_world.specs.Events.{event_of, events_of, request_at, sent_after}
use Rattle.hc_world.specs.Laws.{CountsAreOfFacts, has_reply}
use Rattle.hc_world.specs.Notes.{answered_in, capped, is_answered}
use Rattle.hc_world.specs.Runs.{run_of}
use Rattle.hc_world.specs.Seen.{counts_of, greatest, greatest_passed, seen, term_of}
use Rattle.hc_world.proofs.Answered.{answers, runs-noted}

-- The table --

-- the requests are the client's in their order, the first of them with this number
abbrev AreFrom : ℕ → List Request → Type 0
AreFrom n [] = Unit {0}
AreFrom n (q ∷ table) = (q.rid ≡ rid_of n) × AreFrom (n + 1) table

-- one more
from-more : (n : ℕ) (table : List Request) (q : Request) → AreFrom n table → q.rid ≡ rid_of (n + length table) → AreFrom n (table ++ q ∷ [])
from-more n [] q from is = (is ∙ ap rid_of (omega arith), tt)
from-more n (x ∷ table) q from is = (from.0, from-more (n + 1) table q from.1 (is ∙ ap rid_of (omega arith)))

-- the ids are below the limit
from-low : (n : ℕ) (table : List Request) → All IsAsked table → AreFrom n table → n ≤ id_limit → n + length table ≤ id_limit
from-low n [] asked from low = omega (arith, low)
from-low n (q ∷ table) asked from low =
    let first = All-head IsAsked q table asked in
    let fits = first.fits in
    let id : q.rid.id ≡ n = ap (λ (r : Rid). r.id) from.0 in
    let within = fits.id in
    let rest = from-low (n + 1) table (All-tail IsAsked q table asked) from.1 (omega (arith, id, within)) in
    omega (arith, rest)

-- the table of a state is the client's requests, so many
record HasSent (sent : ℕ) (s : GroupState) : Type 0 where
  from : AreFrom 0 s.table
  size : length s.table ≡ sent

-- Steps --

module _ (g : Group) where
  up-table : (found : Option MemberState) (does : MemberState → GroupState → GroupState) (s : GroupState) → ((m : MemberState) → (does m s).table ≡ s.table)
      → (where_up found does s).table ≡ s.table
  up-table (Some m) does s same = same m
  up-table None does s same = refl

  turn-table : (v : ℕ) (e : Event) (s : GroupState) (m : MemberState) → (makes_turn g v e m s).table ≡ s.table
  unfolding makes_turn with_sent with_heard with_finished
  turn-table v e s m = refl

  comes-table : (s : GroupState) (to : Receiver) (d : Datagram) → (comes_to g to d s).table ≡ s.table
  comes-table s (Member v) d = up-table (member_at s v) (makes_turn g v (event.Datagram d)) s (turn-table v (event.Datagram d) s)
  comes-table s Aggregator d = refl
  comes-table s Outside d = refl

  delivered-table : (s : GroupState) (packet : Option Datagram) → (delivered g packet s).table ≡ s.table
  delivered-table s (Some d) = comes-table s (receiver_at g d.to) d
  delivered-table s None = refl

  crash-table : (b : Bool) (v : ℕ) (e : Event) (s : GroupState) (m : MemberState)
      → (if b then crashes (stops v (with_stored (journal_at s v) (turned (setup_of g v) m e).stored) (with_facts g v m e s))
      else crashes (stops v (journal_at s v) (with_finished g v m s))).table ≡ s.table
  unfolding with_heard with_finished
  crash-table true v e s m = refl
  crash-table false v e s m = refl

  within-table : (v : ℕ) (e : Event) (kept : Bool) (s : GroupState) (m : MemberState) → (crashes_in_turn g v e kept m s).table ≡ s.table
  unfolding crashes_in_turn
  within-table v e kept s m = crash-table (lasts kept (turned (setup_of g v) m e).stored) v e s m

  still : (sent : ℕ) (s t : GroupState) → t.table ≡ s.table → HasSent sent s → HasSent sent t
  still sent s t same has =
      record { from = subst (AreFrom 0) (sym same) has.from; size = ap (λ (l : List Request). length l) same ∙ has.size }

  happens-sent : (sent : ℕ) (e : WorldEvent) (s : GroupState) → HasSent sent s → HasSent (sent_after sent e) (happens g (event_of sent e) s)
  unfolding asked
  happens-sent sent (ClientSend kind body) s has =
      let q = request_at sent kind body in
      let size = has.size in
      record {
        from = from-more 0 s.table q has.from (ap rid_of (omega (arith, size)));
        size = length-append s.table (q ∷ []) ∙ ap (λ (n : ℕ). n + 1) size;
      }
  happens-sent sent (Deliver number) s has = still sent s _ (delivered-table s (slice_get s.datagrams number)) has
  happens-sent sent (Tick v) s has = still sent s _ (up-table (member_at s v) (makes_turn g v event.Tick) s (turn-table v event.Tick s)) has
  happens-sent sent (Quiet v) s has = still sent s _ (up-table (member_at s v) (makes_turn g v event.Quiet) s (turn-table v event.Quiet s)) has
  happens-sent sent (Crash v) s has =
      still sent s _ (up-table (member_at s v) (λ m s. crashes (stops v (journal_at s v) s)) s (λ m. refl)) has
  happens-sent sent (Restart v) s has = still sent s _ refl has
  happens-sent sent (CrashInTurn v packet kept) s has =
      let e = event_at (packet_at s packet) in
      still sent s _ (up-table (member_at s v) (crashes_in_turn g v e kept) s (within-table v e kept s)) has
  happens-sent sent Forget s has = still sent s _ refl has

  step-sent : (sent : ℕ) (e : WorldEvent) (s : GroupState) → HasSent sent s → HasSent (sent_after sent e) (step g s (event_of sent e))
  unfolding step
  step-sent sent e s has =
      let after = happens-sent sent e s has in
      still (sent_after sent e) (happens g (event_of sent e) s) _ refl after

  events-from : (sent : ℕ) (events : List WorldEvent) (s : GroupState) → HasSent sent s → AreFrom 0 (after_events g s (events_of sent events)).table
  events-from sent [] s has = has.from
  events-from sent (e ∷ more) s has = events-from (sent_after sent e) more (step g s (event_of sent e)) (step-sent sent e s has)

-- Counts --

count-first : {A : Type 0} (p : A → Bool) (x : A) (xs : List A) → count_by p (x ∷ xs) ≡ cond (p x) 1 0 + count_by p xs
count-first {A = A} p x xs = sum_by-append (λ (y : A). cond (p y) 1 0) (x ∷ []) xs ∙ ap (λ (n : ℕ). n + count_by p xs) (none (cond (p x) 1 0))
  where
    none : (n : ℕ) → 0 + n ≡ n
    none n = omega arith

-- of each request by its id, or by its number
count-from : (datagrams : List Datagram) (replied : List Reply) (n : ℕ) (table : List Request) → ((id : ℕ) → is_answered datagrams id ≡ list_any (answers id) replied)
    → AreFrom n table → count_by (λ answered. answered) (map (is_answered datagrams) (range_with_len n (length table))) ≡ count_by (has_reply replied) table
count-from datagrams replied n [] same from = refl
count-from datagrams replied n (q ∷ table) same from =
    let each : is_answered datagrams n ≡ has_reply replied q =
    same n ∙ ap (λ (rid : Rid). list_any (λ r. same_rid r.request rid) replied) (sym from.0) in
    let more = range_with_len (n + 1) (length table) in
    count-first (λ answered. answered) (is_answered datagrams n) (map (is_answered datagrams) more)
    ∙ ap (λ (b : Bool). cond b 1 0 + count_by (λ answered. answered) (map (is_answered datagrams) more)) each
    ∙ ap (λ (k : ℕ). cond (has_reply replied q) 1 0 + k) (count-from datagrams replied (n + 1) table same from.1)
    ∙ sym (count-first (has_reply replied) q table)

abbrev counts_with : (events requests replied replies passed terms crashes : ℕ) → Counts
counts_with a b c d e f g = record { events = a; requests = b; replied = c; replies = d; passed = e; terms = f; crashes = g }

same-counts : (a b c c' d d' e f g : ℕ) → c ≡ c' → d ≡ d' → counts_with a b c d e f g ≡ counts_with a b c' d' e f g
same-counts a b c c' d d' e f g p q = cc

pub counts_are_of_facts : CountsAreOfFacts
unfolding counts_of seen answered_in
counts_are_of_facts g events is runs =
    let s = run_of g events in
    let noted = runs-noted g (events_of 0 events) is runs in
    let from = events-from g 0 events (beginning g) (record { from = tt; size = refl }) in
    let has = runs_are_rules g (events_of 0 events) is runs in
    let shows = has.shown in
    let low = from-low 0 s.table shows.asked from (omega arith) in
    let small : capped (length s.table) ≡ length s.table = omega (arith, low) in
    same-counts (capped s.events) (capped (length s.table)) _ _ _ _ (capped (greatest_passed s.passed)) (greatest (map term_of s.replicas)) (capped s.crashes)
    (ap (count_by (λ answered. answered))
    (ap (λ (k : ℕ). take k (map (is_answered s.datagrams) (range_with_len 0 id_limit))) small
    ∙ take-map-range_with_len (is_answered s.datagrams) 0 id_limit (length s.table) (omega (arith, low)))
    ∙ count-from s.datagrams s.replied 0 s.table noted.ids from)
    (ap capped noted.count)

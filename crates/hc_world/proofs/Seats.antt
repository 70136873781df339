-- What runs at a place, from turn to turn.
use Rattle.std.proofs.Common.{◌≡◌, ℕ, ◌+◌, List, [], ◌++◌, length, get_or, take, Bool, true, false, Option, None, Some, refl, sym, ap, subst, ◌∙◌, arith}
use Rattle.std.specs.Prelude.{is_some}
use Rattle.std.proofs.lemmas.List.Concat.{flat_map-append}
use Rattle.std.proofs.lemmas.List.{take_all}
use Rattle.r2_base.specs.declared.datagram.Datagram.{Datagram}
use Rattle.r2_base.specs.declared.event.Event.{Event}
use Rattle.hc_log.specs.declared.record.Record.{Record}
use Rattle.hc_log.specs.Durable.{State, IsHistory, IsNext, after, begun, replay}
use Rattle.hc_log.proofs.Replays.{IsHistory-push, history_none, replay_none, replay_push, replay_step}
use Rattle.hc_member.specs.declared.setup.Setup.{Setup}
use Rattle.hc_member.specs.Finish.{finished}
use Rattle.hc_member.specs.Laws.{IsStored}
use Rattle.hc_member.specs.Member.{Member, anew, durable_of}
use Rattle.hc_member.specs.Sending.{datagrams_of, datagrams_of_all}
use Rattle.hc_member.specs.Setup.{IsSetup}
use Rattle.hc_member.specs.Sound.{IsSound}
use Rattle.hc_member.specs.Turn.{Reacted, reacted, turned}
use Rattle.hc_member.proofs.Progress.{finished-durable}
use Rattle.hc_node.specs.Node.{IsSoundUnlessSpent, NodeState, number_of}
use Rattle.hc_run.specs.Steps.{with_stored}
use Rattle.hc_world.specs.declared.seat.Seat.{Seat}
use Rattle.hc_world.specs.Seat.{Gives, IsPlace, IsRunning, IsSeat, Rests, Runs, member_in, member_of, member_or}
use Rattle.hc_world.specs.Steps.{journal_after}

-- the node of a running member
pub inner : {X : Type 0} (a : Option X) (b c : X) → a ≡ Some b → a ≡ Some c → b ≡ c
inner a b c e f = cc

pub runs-member : (s : Setup) (m : Member) (seat : Seat) → Runs s m seat → member_in seat.node ≡ Some m
runs-member s m seat runs = ap member_in runs.node

pub runs-own : (s : Setup) (m : Member) (seat : Seat) → Runs s m seat → member_of seat ≡ m
runs-own s m seat runs = ap member_or (runs-member s m seat runs)

pub runs-running : (s : Setup) (m : Member) (seat : Seat) → Runs s m seat → IsRunning seat
runs-running s m seat runs =
    subst (λ (x : Setup). Runs x (member_of seat) seat) (sym runs.setup) (subst (λ (x : Member). Runs s x seat) (sym (runs-own s m seat runs)) runs)

pub runs-seat : (s : Setup) (m : Member) (seat : Seat) → Runs s m seat → IsSeat s seat
runs-seat s m seat runs = rw (runs-member s m seat runs) runs

pub rests-seat : (s : Setup) (seat : Seat) → Rests s seat → IsSeat s seat
rests-seat s seat rests = rw (ap member_in rests.node) rests

-- a place where a member is up
pub seat-up : (s : Setup) (seat : Seat) → IsSeat s seat → is_some (member_in seat.node) ≡ true → Runs s (member_of seat) seat
seat-up s seat is up = by (member_in seat.node) is up
  where
    by : (found : Option Member) → IsPlace s seat found → is_some found ≡ true → Runs s (member_or found) seat
    by (Some m) is up = is
    by None is up = absurd cc

-- the history of a place, whoever runs there
pub seat-history : (s : Setup) (seat : Seat) → IsSeat s seat → IsHistory seat.records
seat-history s seat is = by (member_in seat.node) is
  where
    by : (found : Option Member) → IsPlace s seat found → IsHistory seat.records
    by (Some m) is = is.history
    by None is = is.history

pub seat-group : (s : Setup) (seat : Seat) → IsSeat s seat → IsSetup s × (seat.setup ≡ s)
seat-group s seat is = by (member_in seat.node) is
  where
    by : (found : Option Member) → IsPlace s seat found → IsSetup s × (seat.setup ≡ s)
    by (Some m) is = (is.group, is.setup)
    by None is = (is.group, is.setup)

pub durable-anew : (d : State) → durable_of (anew d) ≡ d
unfolding anew
durable-anew d = refl

-- a member begins
pub runs-first : (s : Setup) (seat : Seat) (d : State) → IsSetup s → d ≡ begun → seat.setup ≡ s → seat.node ≡ Some (Some (record { setup = s; member = anew d }))
    → seat.records ≡ [] → Runs s (anew (replay [])) seat
runs-first s seat d group at setup node none =
    let here : d ≡ replay [] = at ∙ sym replay_none in
    record {
      group = group;
      setup = setup;
      node = node ∙ ap (λ (x : State). Some (Some (record { setup = s; member = anew x }))) here;
      history = rw none history_none;
      durable = ap replay none ∙ sym (durable-anew (replay []));
    }

-- what is stored
pub history-more : (records : List Record) (d e : State) (stored : Option Record) → IsStored d stored e → IsHistory records → replay records ≡ d
    → IsHistory (with_stored records stored)
history-more records d e None is history state = history
history-more records d e (Some r) is history state =
    IsHistory-push records r history (subst (λ (x : State). IsNext x r) (sym state) is.next)

pub state-more : (records : List Record) (d e : State) (stored : Option Record) → IsStored d stored e → replay records ≡ d → replay (with_stored records stored) ≡ e
state-more records d e None is state = state ∙ sym is
state-more records d e (Some r) is state = replay_push records r ∙ ap (λ (x : State). after x r) state ∙ is.leads

-- a batch
pub runs-finished : (s : Setup) (m : Member) (a b : Seat) → Runs s m a → b.setup ≡ a.setup → b.node ≡ Some (Some (record { setup = s; member = (finished s m).member }))
    → b.records ≡ a.records → Runs s (finished s m).member b
runs-finished s m a b runs setup node records =
    record {
      group = runs.group;
      setup = setup ∙ runs.setup;
      node = node;
      history = rw records runs.history;
      durable = ap replay records ∙ runs.durable ∙ sym (finished-durable s m);
    }

-- a restart
pub runs-restarted : (s : Setup) (a b : Seat) (d : State) → IsSeat s a → d ≡ replay a.records → b.setup ≡ a.setup
    → b.node ≡ Some (Some (record { setup = a.setup; member = anew d })) → b.records ≡ a.records → Runs s (anew (replay a.records)) b
runs-restarted s a b d is from setup node records =
    let group = seat-group s a is in
    record {
      group = group.0;
      setup = setup ∙ group.1;
      node = node ∙ ap (λ (x : Setup). Some (Some (record { setup = x; member = anew d }))) group.1 ∙ ap (λ (x : State). Some (Some (record { setup = s; member = anew x }))) from;
      history = rw records (seat-history s a is);
      durable = ap replay records ∙ sym (durable-anew (replay a.records));
    }

-- a number that a node gives is its member's
pub number-at : (f : Member → ℕ) (n : NodeState) (told : Option NodeState) → told ≡ Some n → number_of f told ≡ f n.member
number-at f n told is = ap (number_of f) is

-- the member of a node that isn't spent is sound
pub sound-at : (n : NodeState) (told : Option NodeState) → told ≡ Some n → IsSoundUnlessSpent told → IsSound n.setup n.member
sound-at n told is holds = let sound = subst IsSoundUnlessSpent is holds in sound.sound

turned-is : (s : Setup) (m : Member) (event : Event) → turned s m event ≡ (let t = reacted s (finished s m).member event in record { member = t.member; stored = t.stored; sends = (finished s m).sends ++ t.sends })
unfolding turned
turned-is s m event = refl

turned-datagrams : (s : Setup) (m : Member) (event : Event) → datagrams_of_all s (turned s m event).sends
    ≡ datagrams_of_all s (finished s m).sends ++ datagrams_of_all s (reacted s (finished s m).member event).sends
unfolding turned
turned-datagrams s m event = flat_map-append (datagrams_of s) (finished s m).sends (reacted s (finished s m).member event).sends

turned-stores : (s : Setup) (m : Member) (event : Event) (stored : Option Record)
    → IsStored (durable_of (finished s m).member) stored (durable_of (reacted s (finished s m).member event).member)
    → IsStored (durable_of m) stored (durable_of (turned s m event).member)
unfolding turned
turned-stores s m event stored is =
    subst (λ (d : State). IsStored d stored (durable_of (reacted s (finished s m).member event).member)) (finished-durable s m) is

-- a whole turn, by its two halves
pub gives-turn : (a b c : Seat) (event : Event) (stored : Option Record) (replies sends : List Datagram) → Runs a.setup (finished a.setup (member_of a)).member b
    → b.records ≡ a.records → replies ≡ datagrams_of_all a.setup (finished a.setup (member_of a)).sends
    → Gives b (reacted b.setup (member_of b) event) c stored sends → Gives a (turned a.setup (member_of a) event) c stored (replies ++ sends)
gives-turn a b c event stored replies sends runs records first gives =
    let s = a.setup in
    let m = member_of a in
    let n = (finished s m).member in
    let at : member_of b ≡ n = runs-own s n b runs in
    let second : reacted b.setup (member_of b) event ≡ reacted s n event =
    ap (λ (x : Setup). reacted x (member_of b) event) runs.setup ∙ ap (λ (x : Member). reacted s x event) at in
    let whole = turned-is s m event in
    let datagrams : sends ≡ datagrams_of_all s (reacted s n event).sends =
    gives.sends ∙ ap (λ (x : Setup). datagrams_of_all x (reacted b.setup (member_of b) event).sends) runs.setup
    ∙ ap (λ (t : Reacted). datagrams_of_all s t.sends) second in
    let changed : IsStored (durable_of n) stored (durable_of (reacted s n event).member) =
    subst (λ (x : Member). IsStored (durable_of x) stored (durable_of (reacted s n event).member)) at
    (subst (λ (t : Reacted). IsStored (durable_of (member_of b)) stored (durable_of t.member)) second gives.changed) in
    record {
      setup = gives.setup ∙ runs.setup;
      node =
          gives.node
          ∙ ap (λ (x : Setup). Some (Some (record { setup = x; member = (reacted b.setup (member_of b) event).member }))) runs.setup
          ∙ ap (λ (t : Reacted). Some (Some (record { setup = s; member = t.member }))) second
          ∙ ap (λ (t : Reacted). Some (Some (record { setup = s; member = t.member }))) (sym whole);
      records = gives.records ∙ records;
      stored = gives.stored ∙ ap (λ (t : Reacted). t.stored) second ∙ sym (ap (λ (t : Reacted). t.stored) whole);
      sends =
          ap (λ (x : List Datagram). x ++ sends) first
          ∙ ap (λ (x : List Datagram). datagrams_of_all s (finished s m).sends ++ x) datagrams
          ∙ sym (turned-datagrams s m event);
      changed = turned-stores s m event stored changed;
    }

-- a turn, and its record after the others
pub runs-turned : (s : Setup) (m : Member) (a b c : Seat) (t : Reacted) (stored : Option Record) (sends : List Datagram) → Runs s m a → IsRunning a → a.setup ≡ s
    → Gives a t b stored sends → c.setup ≡ b.setup → c.node ≡ b.node → c.records ≡ with_stored b.records stored → Runs s t.member c
runs-turned s m a b c t stored sends runs own at gives setup node records =
    let same : member_of a ≡ m = runs-own s m a runs in
    let changed : IsStored (durable_of m) stored (durable_of t.member) = subst (λ (x : Member). IsStored (durable_of x) stored (durable_of t.member)) same gives.changed in
    let longer = records ∙ ap (λ (r : List Record). with_stored r stored) gives.records in
    record {
      group = runs.group;
      setup = setup ∙ gives.setup ∙ at;
      node = node ∙ gives.node ∙ ap (λ (x : Setup). Some (Some (record { setup = x; member = t.member }))) at;
      history = rw longer (history-more a.records (durable_of m) (durable_of t.member) stored changed runs.history runs.durable);
      durable = ap replay longer ∙ state-more a.records (durable_of m) (durable_of t.member) stored changed runs.durable;
    }

-- what lasts of what was stored
history-after : (kept : Bool) (records : List Record) (d e : State) (stored : Option Record) → IsStored d stored e → IsHistory records → replay records ≡ d
    → IsHistory (journal_after kept records stored)
history-after true records d e None is history state = history
history-after false records d e None is history state = history
history-after true records d e (Some r) is history state = history-more records d e (Some r) is history state
history-after false records d e (Some r) is history state = history

-- a stop within a turn
pub rests-within : (a b c d : Seat) (t : Reacted) (stored : Option Record) (sends : List Datagram) (kept : Bool) → IsRunning a → Gives a t b stored sends
    → c.setup ≡ b.setup → c.records ≡ journal_after kept b.records stored → d.setup ≡ c.setup → d.node ≡ None → d.records ≡ c.records → Rests a.setup d
rests-within a b c d t stored sends kept runs gives setup records at none same =
    record {
      group = runs.group;
      setup = at ∙ setup ∙ gives.setup;
      node = none;
      history =
          rw (same ∙ records ∙ ap (λ (r : List Record). journal_after kept r stored) gives.records)
          (history-after kept a.records (durable_of (member_of a)) (durable_of t.member) stored gives.changed runs.history runs.durable);
    }

-- the term in which records end
pub last-term : (records : List Record) (i : ℕ) (r : Record) → i + 1 ≡ length records → r ≡ get_or records i r → r.term ≡ (replay records).term
last-term records i r last is =
    let step = replay_step records i r (omega (arith, last)) is in
    let all = take_all (i + 1) records (omega (arith, last)) in
    let same : replay records ≡ after (replay (take i records)) r = ap replay (sym all) ∙ step in
    sym (ap (λ (d : State). d.term) same)

pub no-term : (records : List Record) → records ≡ [] → 0 ≡ (replay records).term
no-term records none = sym (ap (λ (r : List Record). (replay r).term) none ∙ ap (λ (d : State). d.term) replay_none)

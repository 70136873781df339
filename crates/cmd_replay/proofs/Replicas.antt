-- What a replica runs, from turn to turn.
use Rattle.std.proofs.Common.{◌≡◌, ℕ, List, [], ◌++◌, Option, Some, refl, sym, ap, subst, ◌∙◌}
use Rattle.r2_base.specs.declared.datagram.Datagram.{Datagram}
use Rattle.r2_base.specs.declared.event.Event.{Event}
use Rattle.hc_log.specs.declared.record.Record.{Record}
use Rattle.hc_log.specs.Durable.{State, begun, replay}
use Rattle.hc_log.proofs.Replays.{replay_none, history_none}
use Rattle.hc_member.specs.declared.setup.Setup.{Setup}
use Rattle.hc_member.specs.Finish.{finished}
use Rattle.hc_member.specs.Laws.{IsStored}
use Rattle.hc_member.specs.Member.{Member, anew, beginning, durable_of, restarted}
use Rattle.hc_member.specs.Sending.{datagrams_of_all}
use Rattle.hc_member.specs.Setup.{IsSetup}
use Rattle.hc_member.specs.Sound.{IsSound}
use Rattle.hc_member.specs.Turn.{Reacted, reacted, turned}
use Rattle.hc_member.proofs.Progress.{finished-durable}
use Rattle.hc_node.specs.Node.{IsSoundUnlessSpent, NodeState, number_of}
use Rattle.cmd_replay.specs.declared.replica.Replica.{Replica}
use Rattle.cmd_replay.specs.Replica.{Gives, IsRunning, Runs, member_at, member_of, stored_list}
use Rattle.cmd_replay.proofs.Records.{history-more, state-more}
use Rattle.cmd_replay.proofs.Turned.{turned-is, turned-datagrams, turned-stores}

-- the member that is run is the replica's
pub runs-member : (s : Setup) (m : Member) (r : Replica) → Runs s m r → member_of r ≡ m
runs-member s m r runs = ap member_at runs.node

pub runs-own : (s : Setup) (m : Member) (r : Replica) → Runs s m r → Runs s (member_of r) r
runs-own s m r runs = subst (λ (x : Member). Runs s x r) (sym (runs-member s m r runs)) runs

pub runs-running : (s : Setup) (m : Member) (r : Replica) → Runs s m r → IsRunning r
runs-running s m r runs = subst (λ (x : Setup). Runs x (member_of r) r) (sym runs.setup) (runs-own s m r runs)

pub durable-anew : (d : State) → durable_of (anew d) ≡ d
unfolding anew
durable-anew d = refl

-- nothing was stored yet
pub runs-first : (s : Setup) (r : Replica) → IsSetup s → r.setup ≡ s → r.node ≡ Some (record { setup = s; member = beginning }) → r.records ≡ [] → Runs s beginning r
runs-first s r group setup node none =
    record {
      group = group;
      setup = setup;
      node = node;
      history = rw none history_none;
      state = ap replay none ∙ replay_none ∙ sym (durable-anew begun);
    }

-- a turn, and its record after the others
pub runs-turned : (s : Setup) (m n : Member) (a b : Replica) (stored : Option Record) → Runs s m a → IsStored (durable_of m) stored (durable_of n)
    → b.setup ≡ s → b.node ≡ Some (record { setup = s; member = n }) → b.records ≡ a.records ++ stored_list stored → Runs s n b
runs-turned s m n a b stored runs is setup node records =
    record {
      group = runs.group;
      setup = setup;
      node = node;
      history = rw records (history-more a.records (durable_of m) (durable_of n) stored is runs.history runs.state);
      state = ap replay records ∙ state-more a.records (durable_of m) (durable_of n) stored is runs.state;
    }

-- a batch
pub runs-finished : (s : Setup) (m : Member) (a b : Replica) → Runs s m a → b.setup ≡ a.setup → b.node ≡ Some (record { setup = s; member = (finished s m).member })
    → b.records ≡ a.records → Runs s (finished s m).member b
runs-finished s m a b runs setup node records =
    record {
      group = runs.group;
      setup = setup ∙ runs.setup;
      node = node;
      history = rw records runs.history;
      state = ap replay records ∙ runs.state ∙ sym (finished-durable s m);
    }

-- a restart from the records
pub runs-restarted : (s : Setup) (m : Member) (a b : Replica) (d : State) → Runs s m a → d ≡ replay a.records → b.setup ≡ a.setup
    → b.node ≡ Some (record { setup = s; member = anew d }) → b.records ≡ a.records → Runs s (restarted m) b
runs-restarted s m a b d runs from setup node records =
    let here : d ≡ durable_of m = from ∙ runs.state in
    record {
      group = runs.group;
      setup = setup ∙ runs.setup;
      node = node ∙ ap (λ (x : State). Some (record { setup = s; member = anew x })) here;
      history = rw records runs.history;
      state = ap replay records ∙ runs.state ∙ sym (durable-anew (durable_of m));
    }

-- a number that a node gives is its member's
pub number-at : (f : Member → ℕ) (n : NodeState) (told : Option NodeState) → told ≡ Some n → number_of f told ≡ f (member_at told)
number-at f n told is = ap (number_of f) is ∙ sym (ap (λ x. f (member_at x)) is)

-- the member of a node that isn't spent is sound
pub sound-at : (n : NodeState) (told : Option NodeState) → told ≡ Some n → IsSoundUnlessSpent told → IsSound n.setup n.member
sound-at n told is holds = let sound = subst IsSoundUnlessSpent is holds in sound.sound

-- a whole turn, by its two halves
pub gives-turn : (a b c : Replica) (event : Event) (stored : Option Record) (replies sends : List Datagram) → Runs a.setup (finished a.setup (member_of a)).member b
    → b.records ≡ a.records → replies ≡ datagrams_of_all a.setup (finished a.setup (member_of a)).sends
    → Gives b (reacted b.setup (member_of b) event) c stored sends → Gives a (turned a.setup (member_of a) event) c stored (replies ++ sends)
gives-turn a b c event stored replies sends runs records first gives =
    let s = a.setup in
    let m = member_of a in
    let n = (finished s m).member in
    let at : member_of b ≡ n = runs-member s n b runs in
    let second : reacted b.setup (member_of b) event ≡ reacted s n event =
    ap (λ (x : Setup). reacted x (member_of b) event) runs.setup ∙ ap (λ (x : Member). reacted s x event) at in
    let whole = turned-is s m event in
    let datagrams : sends ≡ datagrams_of_all s (reacted s n event).sends =
    gives.sends ∙ ap (λ (x : Setup). datagrams_of_all x (reacted b.setup (member_of b) event).sends) runs.setup
    ∙ ap (λ (t : Reacted). datagrams_of_all s t.sends) second in
    let changed : IsStored (durable_of n) stored (durable_of (reacted s n event).member) =
    subst (λ (x : Member). IsStored (durable_of x) stored (durable_of (reacted s n event).member)) at
    (subst (λ (t : Reacted). IsStored (durable_of (member_of b)) stored (durable_of t.member)) second gives.changed) in
    record {
      setup = gives.setup ∙ runs.setup;
      node =
          gives.node
          ∙ ap (λ (x : Setup). Some (record { setup = x; member = (reacted b.setup (member_of b) event).member })) runs.setup
          ∙ ap (λ (t : Reacted). Some (record { setup = s; member = t.member })) second
          ∙ ap (λ (t : Reacted). Some (record { setup = s; member = t.member })) (sym whole);
      records = gives.records ∙ records;
      stored = gives.stored ∙ ap (λ (t : Reacted). t.stored) second ∙ sym (ap (λ (t : Reacted). t.stored) whole);
      sends =
          ap (λ (x : List Datagram). x ++ sends) first
          ∙ ap (λ (x : List Datagram). datagrams_of_all s (finished s m).sends ++ x) datagrams
          ∙ sym (turned-datagrams s m event);
      changed = turned-stores s m event stored changed;
    }

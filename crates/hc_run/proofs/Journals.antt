-- Each journal is a history, and its replay is the durable state of its member.
use Rattle.std.proofs.Common.{◌≡◌, ℕ, zero, suc, ◌<◌, Bool, true, false, List, [], ◌∷◌, ◌++◌, length, set, get_or, Option, None, Some, refl, sym, ap, subst, ◌∙◌, arith, inl, inr}
use Rattle.std.specs.Prelude.{IfSome, slice_get, if◌then◌else◌}
use Rattle.std.proofs.lemmas.Bool.{cases_eq, cases_lt}
use Rattle.std.proofs.lemmas.List.{get_or-replicate, get_or_past, get_or-set_other, get_or-set_same, length-set, get_or_default, length-replicate}
use Rattle.r2_base.specs.declared.datagram.Datagram.{Datagram}
use Rattle.r2_base.specs.declared.event.Event.{Event}
use Rattle.r2_base.specs.declared.event.Event.TheVariants as event
use Rattle.hc_log.specs.declared.record.Record.{Record}
use Rattle.hc_log.specs.Durable.{State, IsHistory, after, replay}
use Rattle.hc_log.proofs.Replays.{IsHistory-push, IsValid-replay, history_none, replay_push}
use Rattle.hc_member.specs.declared.setup.Setup.{Setup}
use Rattle.hc_member.specs.Finish.{finished}
use Rattle.hc_member.specs.Laws.{IsStored}
use Rattle.hc_member.specs.Member.{Member as MemberState, anew, durable_of}
use Rattle.hc_member.specs.Setup.{IsSetup}
use Rattle.hc_member.specs.Sound.{IsSound}
use Rattle.hc_member.specs.Turn.{turned}
use Rattle.hc_member.proofs.Begun.{sound-anew}
use Rattle.hc_run.specs.Group.{Group, IsGroup, Receiver, Member, Aggregator, Outside, receiver_at, setup_of}
use Rattle.hc_run.specs.State.{GroupState, Replica, beginning, journal_at, member_at, started, stopped}
use Rattle.hc_run.specs.Events.{GroupEvent, ClientSend, Deliver, Tick, Quiet, Crash, Restart, CrashInTurn, Forget, End, IsPossible}
use Rattle.hc_run.specs.Steps.{asked, comes_to, crashes, crashes_in_turn, delivered, ends, event_of, happens, lasts, makes_turn, packet_at, step, stops, where_up, with_facts, with_finished, with_heard, with_sent, with_stored}
use Rattle.hc_run.specs.Runs.{ArePossible, after_events, run}
use Rattle.hc_run.specs.Laws.{GroupsHaveSetups, JournalsAreKept, KeepsJournal, RunsGoOn}
use Rattle.hc_run.proofs.Turns.{turns}

pub groups_have_setups : GroupsHaveSetups
groups_have_setups g v is member =
    record {
      few = is.few;
      own = member;
      distinct = is.distinct;
      apart = is.apart;
      bounds = is.bounds;
      bound_each = is.bound_each;
      election_low = is.election_low;
      election_high = is.election_high;
    }

-- Single members --

-- a member that is up is sound, and keeps what its journal leads to
pub record IsGoodMember (s : Setup) (journal : List Record) (m : MemberState) : Type 0 where
  pub sound : IsSound s m
  pub durable : durable_of m ≡ replay journal

pub record IsGood (s : Setup) (r : Replica) : Type 0 where
  pub history : IsHistory r.journal
  pub member : IfSome r.member (IsGoodMember s r.journal)

good-stopped : (s : Setup) (journal : List Record) → IsHistory journal → IsGood s (stopped journal)
good-stopped s journal history = record { history = history; member = tt }

pub durable-anew : (d : State) → durable_of (anew d) ≡ d
unfolding anew
durable-anew d = refl

good-started : (s : Setup) (journal : List Record) → IsHistory journal → IsGood s (started journal)
good-started s journal history =
    record {
      history = history;
      member =
          record {
            sound = sound-anew s (replay journal) (IsValid-replay journal history);
            durable = durable-anew (replay journal);
          };
    }

-- a journal with what a turn stored is a history that leads to what the member keeps then
pub record Grown (journal : List Record) (d : State) : Type 0 where
  pub history : IsHistory journal
  pub leads : d ≡ replay journal

pub grown : (journal : List Record) (old new : State) (stored : Option Record) → IsHistory journal → old ≡ replay journal → IsStored old stored new
    → Grown (with_stored journal stored) new
grown journal old new None history same stays = record { history = history; leads = stays ∙ same }
grown journal old new (Some r) history same change =
    record {
      history = IsHistory-push journal r history (rw same at change.next);
      leads = sym change.leads ∙ ap (λ (d : State). after d r) same ∙ sym (replay_push journal r);
    }

good-turned : (s : Setup) (journal : List Record) (m : MemberState) (e : Event) → IsSetup s → IsHistory journal → IsGoodMember s journal m
    → IsGood s (record { journal = with_stored journal (turned s m e).stored; member = Some (turned s m e).member })
good-turned s journal m e is history good =
    let did = turns s m e is good.sound in
    let longer = grown journal (durable_of m) (durable_of (turned s m e).member) (turned s m e).stored history good.durable did.stores in
    record { history = longer.history; member = record { sound = did.sound; durable = longer.leads } }

-- a journal that grew is a history
turned-history : (s : Setup) (journal : List Record) (m : MemberState) (e : Event) → IsSetup s → IsHistory journal → IsGoodMember s journal m
    → IsHistory (with_stored journal (turned s m e).stored)
turned-history s journal m e is history good = let turned = good-turned s journal m e is history good in turned.history

-- All members --

-- each member of a group is good
pub record AreGood (g : Group) (replicas : List Replica) : Type 0 where
  pub each : length replicas ≡ length g.members
  pub good : (v : ℕ) → v < length g.members → IsGood (setup_of g v) (get_or replicas v (stopped []))

-- one of them changed
good-set : (g : Group) (replicas : List Replica) (v : ℕ) (r : Replica) → AreGood g replicas → v < length g.members → IsGood (setup_of g v) r
    → AreGood g (set replicas v r)
good-set g replicas v r are member good =
    let each = are.each in
    record {
      each = length-set replicas v r ∙ each;
      good = λ u inside.
          elim (cases_eq u v) [
            | inl same ↦
                subst (λ (w : ℕ). IsGood (setup_of g w) (get_or (set replicas v r) w (stopped []))) (sym same)
                (rw (get_or-set_same replicas v r (stopped []) (omega (arith, member, each))) good)
            | inr other ↦ rw (get_or-set_other replicas v u r (stopped []) other) (are.good u inside)
          ];
    }

module _ (g : Group) (is : IsGroup g) where
  -- a member that is up is one of the group
  pub up-inside : (replicas : List Replica) (v : ℕ) (m : MemberState) → AreGood g replicas → (get_or replicas v (stopped [])).member ≡ Some m → v < length g.members
  up-inside replicas v m are up =
      elim (cases_lt v (length g.members)) [
        | inl inside ↦ inside
        | inr past ↦
            let each = are.each in
            let down : get_or replicas v (stopped []) ≡ stopped [] = get_or_past replicas v (stopped []) (omega (arith, past, each)) in
            let none : None ≡ Some m = sym (ap (λ (r : Replica). r.member) down) ∙ up in
            absurd cc
      ]

  -- what is known of a member that is up
  record IsUp (s : GroupState) (v : ℕ) (m : MemberState) : Type 0 where
    inside : v < length g.members
    history : IsHistory (journal_at s v)
    good : IsGoodMember (setup_of g v) (journal_at s v) m

  up-good : (s : GroupState) (v : ℕ) (m : MemberState) → AreGood g s.replicas → member_at s v ≡ Some m → IsUp s v m
  up-good s v m are up =
      let inside = up-inside s.replicas v m are up in
      let good = are.good v inside in
      record {
        inside = inside;
        history = good.history;
        good = rw up at good.member;
      }

  -- what a member does that is up
  goes-up : (v : ℕ) (s : GroupState) (found : Option MemberState) (does : MemberState → GroupState → GroupState) → AreGood g s.replicas
      → ((m : MemberState) → found ≡ Some m → AreGood g (does m s).replicas) → AreGood g (where_up found does s).replicas
  goes-up v s (Some m) does are each = each m refl
  goes-up v s None does are each = are

  turn-good : (v : ℕ) (e : Event) (m : MemberState) (s : GroupState) → AreGood g s.replicas → member_at s v ≡ Some m → AreGood g (makes_turn g v e m s).replicas
  unfolding makes_turn with_sent with_heard with_finished
  turn-good v e m s are up =
      let here = up-good s v m are up in
      let setup = groups_have_setups g v is here.inside in
      good-set g s.replicas v (record { journal = with_stored (journal_at s v) (turned (setup_of g v) m e).stored; member = Some (turned (setup_of g v) m e).member }) are here.inside
      (good-turned (setup_of g v) (journal_at s v) m e setup here.history here.good)

  stops-good : (v : ℕ) (journal : List Record) (s : GroupState) → AreGood g s.replicas → v < length g.members → IsHistory journal → AreGood g (stops v journal s).replicas
  stops-good v journal s are inside history = good-set g s.replicas v (stopped journal) are inside (good-stopped (setup_of g v) journal history)

  crash-by : (b : Bool) (v : ℕ) (e : Event) (m : MemberState) (s : GroupState) → AreGood g s.replicas → IsUp s v m
      → AreGood g (if b then crashes (stops v (with_stored (journal_at s v) (turned (setup_of g v) m e).stored) (with_facts g v m e s))
      else crashes (stops v (journal_at s v) (with_finished g v m s))).replicas
  unfolding with_heard with_finished
  crash-by true v e m s are here =
      stops-good v (with_stored (journal_at s v) (turned (setup_of g v) m e).stored) s are here.inside
      (turned-history (setup_of g v) (journal_at s v) m e (groups_have_setups g v is here.inside) here.history here.good)
  crash-by false v e m s are here = stops-good v (journal_at s v) s are here.inside here.history

  crash-good : (v : ℕ) (e : Event) (kept : Bool) (m : MemberState) (s : GroupState) → AreGood g s.replicas → member_at s v ≡ Some m
      → AreGood g (crashes_in_turn g v e kept m s).replicas
  unfolding crashes_in_turn
  crash-good v e kept m s are up =
      crash-by (lasts kept (turned (setup_of g v) m e).stored) v e m s are (up-good s v m are up)

  -- an end leaves the journal as it was
  ends-stops : (v times : ℕ) (m : MemberState) (s : GroupState) → (ends g v times m s).replicas ≡ set s.replicas v (stopped (journal_at s v))
  unfolding ends with_sent with_finished
  ends-stops v zero m s = refl
  ends-stops v (suc times) m s =
      ends-stops v times (finished (setup_of g v) m).member (with_sent g v (finished (setup_of g v) m).sends (with_finished g v m s))

  ends-good : (v times : ℕ) (m : MemberState) (s : GroupState) → AreGood g s.replicas → member_at s v ≡ Some m → AreGood g (ends g v times m s).replicas
  ends-good v times m s are up =
      let here = up-good s v m are up in
      subst (AreGood g) (sym (ends-stops v times m s)) (stops-good v (journal_at s v) s are here.inside here.history)

  comes-good : (to : Receiver) (d : Datagram) (s : GroupState) → AreGood g s.replicas → AreGood g (comes_to g to d s).replicas
  comes-good (Member v) d s are =
      goes-up v s (member_at s v) (makes_turn g v (event.Datagram d)) are (λ m up. turn-good v (event.Datagram d) m s are up)
  comes-good Aggregator d s are = are
  comes-good Outside d s are = are

  delivered-good : (packet : Option Datagram) (s : GroupState) → AreGood g s.replicas → AreGood g (delivered g packet s).replicas
  delivered-good (Some d) s are = comes-good (receiver_at g d.to) d s are
  delivered-good None s are = are

  happens-good : (e : GroupEvent) (s : GroupState) → AreGood g s.replicas → IsPossible g s e → AreGood g (happens g e s).replicas
  unfolding asked
  happens-good (ClientSend q) s are may = are
  happens-good (Deliver number) s are may = delivered-good (slice_get s.datagrams number) s are
  happens-good (Tick v) s are may = goes-up v s (member_at s v) (makes_turn g v event.Tick) are (λ m up. turn-good v event.Tick m s are up)
  happens-good (Quiet v) s are may = goes-up v s (member_at s v) (makes_turn g v event.Quiet) are (λ m up. turn-good v event.Quiet m s are up)
  happens-good (Crash v) s are may =
      goes-up v s (member_at s v) (λ m s. crashes (stops v (journal_at s v) s)) are
      (λ m up. let here = up-good s v m are up in stops-good v (journal_at s v) s are here.inside here.history)
  happens-good (Restart v) s are may =
      let good = are.good v may.member in
      good-set g s.replicas v (started (journal_at s v)) are may.member (good-started (setup_of g v) (journal_at s v) good.history)
  happens-good (CrashInTurn v packet kept) s are may =
      goes-up v s (member_at s v) (crashes_in_turn g v (event_of (packet_at s packet)) kept) are
      (λ m up. crash-good v (event_of (packet_at s packet)) kept m s are up)
  happens-good Forget s are may = are
  happens-good (End v times) s are may = goes-up v s (member_at s v) (ends g v times) are (λ m up. ends-good v times m s are up)

  pub step-good : (s : GroupState) (e : GroupEvent) → AreGood g s.replicas → IsPossible g s e → AreGood g (step g s e).replicas
  unfolding step
  step-good s e are may = happens-good e s are may

  pub beginning-good : AreGood g (beginning g).replicas
  beginning-good =
      record {
        each = length-replicate (length g.members) (started []);
        good = λ v inside.
            rw (get_or-replicate (length g.members) v (started []) (stopped []) inside) (good-started (setup_of g v) [] history_none);
      }

  pub events-good : (s : GroupState) (events : List GroupEvent) → AreGood g s.replicas → ArePossible g s events → AreGood g (after_events g s events).replicas
  events-good s [] are may = are
  events-good s (e ∷ more) are may = events-good (step g s e) more (step-good s e are may.0) may.1

-- of the member there is, its durable state
keeps-durable : (s : Setup) (journal : List Record) (found : Option MemberState) → IfSome found (IsGoodMember s journal)
    → IfSome found (λ m. durable_of m ≡ replay journal)
keeps-durable s journal (Some m) good = good.durable
keeps-durable s journal None good = tt

keeps-one : (s : Setup) (r : Replica) → IsGood s r → KeepsJournal r
keeps-one s r good = record { history = good.history; durable = keeps-durable s r.journal r.member good.member }

pub journals_are_kept : JournalsAreKept
journals_are_kept g events is runs k d inside =
    let are = events-good g is (beginning g) events (beginning-good g is) runs.possible in
    let each = are.each in
    let same : get_or (run g events).replicas k (stopped []) ≡ get_or (run g events).replicas k d = get_or_default (run g events).replicas k (stopped []) d inside in
    subst KeepsJournal same (keeps-one (setup_of g k) (get_or (run g events).replicas k (stopped [])) (are.good k (omega (arith, each, inside))))

-- Runs --

-- events after others
possible-more : (g : Group) (s : GroupState) (events more : List GroupEvent) → ArePossible g s events → ArePossible g (after_events g s events) more
    → ArePossible g s (events ++ more)
possible-more g s [] more may later = later
possible-more g s (e ∷ events) more may later = (may.0, possible-more g (step g s e) events more may.1 later)

pub runs_go_on : RunsGoOn
runs_go_on g events more runs later = record { possible = possible-more g (beginning g) events more runs.possible later }

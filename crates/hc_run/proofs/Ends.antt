-- A member comes to the end of its link, or stops within a turn.
use Rattle.std.proofs.Common.{◌≡◌, ℕ, zero, suc, ◌+◌, ◌<◌, Bool, true, false, List, [], ◌∷◌, length, set, Option, None, Some, refl, sym, ap, subst, ◌∙◌, arith}
use Rattle.std.specs.Prelude.{All, IfSome, if◌then◌else◌}
use Rattle.std.proofs.lemmas.List.{get_or-set_same, set-get_or}
use Rattle.r2_base.specs.declared.datagram.Datagram.{Datagram}
use Rattle.r2_base.specs.declared.event.Event.{Event}
use Rattle.hc_log.specs.declared.record.Record.{Record}
use Rattle.hc_log.specs.Durable.{IsHistory, State, replay}
use Rattle.hc_member.specs.declared.setup.Setup.{Setup}
use Rattle.hc_member.specs.Finish.{finished}
use Rattle.hc_member.specs.Member.{Member as MemberState, durable_of}
use Rattle.hc_member.specs.Turn.{turned}
use Rattle.hc_member.proofs.Finished.{finishes}
use Rattle.hc_rules.specs.Protocol.{ProtocolState}
use Rattle.hc_rules.specs.Runs.{after_rules}
use Rattle.hc_rules.proofs.RuleLists.{rules_only_add}
use Rattle.hc_run.specs.Group.{Group, IsGroup, Member, setup_of}
use Rattle.hc_run.specs.State.{GroupState, Replica, journal_at, member_at, replica_at, stopped, with_replica}
use Rattle.hc_run.specs.Events.{CrashInTurn, End, MayCrashInTurn, MayEnd, WasSentTo}
use Rattle.hc_run.specs.Steps.{crashes, crashes_in_turn, ends, event_of, lasts, own_report, packet_at, stops, with_facts, with_finished, with_heard, with_sent, with_stored}
use Rattle.hc_run.specs.Held.{IsStoredOf}
use Rattle.hc_run.specs.Receiving.{IsTurn}
use Rattle.hc_run.specs.Shows.{IsShown, Shows, ShowsReplica}
use Rattle.hc_run.specs.StepLaws.{IsStepRules, LeadsTo}
use Rattle.hc_run.specs.WholeTurns.{told_by}
use Rattle.hc_run.proofs.Assembled.{assembled, step-leads, up-stands}
use Rattle.hc_run.proofs.Finishing.{finish_rules}
use Rattle.hc_run.proofs.Journals.{grown}
use Rattle.hc_run.proofs.MemberTurns.{datagram-turn, passed-more}
use Rattle.hc_run.proofs.Places.{datagrams-before, leads-becomes}
use Rattle.hc_run.proofs.Receiving.{timed_turns}
use Rattle.hc_run.proofs.Stops.{crash-becomes, leads-up}
use Rattle.hc_run.proofs.Stretches.{leads-counted, leads-then}
use Rattle.hc_run.proofs.Turns.{turns}

-- A member in its place --

set-again : {A : Type 0} (xs : List A) (i : ℕ) (a b : A) → set (set xs i a) i b ≡ set xs i b
set-again [] i a b = refl
set-again (x ∷ xs) zero a b = refl
set-again {A = A} (x ∷ xs) (suc i) a b = ap (λ (l : List A). x ∷ l) (set-again xs i a b)

-- v is up with a journal, as this member
abbrev having : ℕ → List Record → MemberState → GroupState → GroupState
having v journal m s = with_replica s v (record { journal = journal; member = Some m })

replica-there : (s : GroupState) (v : ℕ) (journal : List Record) (m : MemberState) → v < length s.replicas
    → replica_at (having v journal m s) v ≡ record { journal = journal; member = Some m }
replica-there s v journal m inside = get_or-set_same s.replicas v (record { journal = journal; member = Some m }) (stopped []) inside

journal-there : (s : GroupState) (v : ℕ) (journal : List Record) (m : MemberState) → v < length s.replicas → journal_at (having v journal m s) v ≡ journal
journal-there s v journal m inside = ap (λ (r : Replica). r.journal) (replica-there s v journal m inside)

member-there : (s : GroupState) (v : ℕ) (journal : List Record) (m : MemberState) → v < length s.replicas → member_at (having v journal m s) v ≡ Some m
member-there s v journal m inside = ap (λ (r : Replica). r.member) (replica-there s v journal m inside)

-- so it was
having-same : (s : GroupState) (v : ℕ) (m : MemberState) → member_at s v ≡ Some m → having v (journal_at s v) m s ≡ s
having-same s v m up =
    ap (λ (l : List Replica). record s { replicas = l })
    (ap (λ (found : Option MemberState). set s.replicas v (record { journal = journal_at s v; member = found })) (sym up) ∙ set-get_or s.replicas v (stopped []))

place-of : (s : Setup) (x : ProtocolState) (journal : List Record) (n : MemberState) → IsHistory journal → IsShown s x n → durable_of n ≡ replay journal
    → ShowsReplica s x (record { journal = journal; member = Some n })
place-of s x journal n history shown leads =
    let holds = shown.holds in
    record {
      history = history;
      bodies = subst (λ (d : State). All (IsStoredOf x.table) d.log) leads holds.bodies;
      member = (shown, leads);
    }

module _ (g : Group) (is : IsGroup g) (v : ℕ) where
  -- it stops
  stops-having : (w : ProtocolState) (s : GroupState) (journal : List Record) (m : MemberState) → v < length s.replicas → Shows g w (having v journal m s) → LeadsTo g w (stops v journal s)
  stops-having w s journal m inside shows =
      let t = having v journal m s in
      let a : Replica = record { journal = journal; member = Some m } in
      let same : set t.replicas v (stopped (journal_at t v)) ≡ set s.replicas v (stopped journal) =
      ap (λ (j : List Record). set t.replicas v (stopped j)) (journal-there s v journal m inside) ∙ set-again s.replicas v a (stopped journal) in
      subst (λ (l : List Replica). LeadsTo g w (record s { replicas = l })) same (crash-becomes g w t v m shows (member-there s v journal m inside))

  -- it applies what is pending, and sends the replies
  finish-leads : (w : ProtocolState) (s : GroupState) (journal : List Record) (m : MemberState) → v < length s.replicas → Shows g w (having v journal m s)
      → LeadsTo g w (having v journal (finished (setup_of g v) m).member (with_sent g v (finished (setup_of g v) m).sends (with_finished g v m s)))
  unfolding with_sent with_finished
  finish-leads w s journal m inside shows =
      let setup = setup_of g v in
      let t = having v journal m s in
      let f = finished setup m in
      let here = up-stands g w t v m is shows (member-there s v journal m inside) in
      let stands = here.stands in
      let shown = stands.shown in
      let there = journal-there s v journal m inside in
      let did = finish_rules setup w m stands in
      let are = did.are in
      let does = finishes setup stands.setup m shown.sound in
      let x = after_rules w did.rules in
      let r : Replica = record { journal = journal; member = Some f.member } in
      assembled g w t (having v journal f.member (with_sent g v f.sends (with_finished g v m s))) v r f.sends did.rules shows here.inside
      (record {
        own = are.own;
        allowed = are.allowed;
        place = place-of setup x journal f.member (subst IsHistory there here.history) are.shown (does.durable ∙ here.durable ∙ ap replay there);
        sent = does.sends;
        backed = are.backed;
        passed = are.passed ∙ passed-more v m w s.passed shows.passed;
        reports = are.reports ∙ ap (own_report v f.member f.member.role) shows.reports;
      })
      (record { replicas = sym (set-again s.replicas v (record { journal = journal; member = Some m }) r); tally = refl; table = refl; datagrams = refl; replied = refl })

  -- Ends --

  ends-lead : (times : ℕ) (w : ProtocolState) (s : GroupState) (m : MemberState) → v < length s.replicas → Shows g w (having v (journal_at s v) m s) → LeadsTo g w (ends g v times m s)
  unfolding ends with_sent with_finished
  ends-lead zero w s m inside shows = stops-having w s (journal_at s v) m inside shows
  ends-lead (suc times) w s m inside shows =
      let f = finished (setup_of g v) m in
      let t = with_sent g v f.sends (with_finished g v m s) in
      leads-then g w (having v (journal_at s v) f.member t) (ends g v times f.member t) (finish-leads w s (journal_at s v) m inside shows)
      (λ x shown. ends-lead times x t f.member inside shown)

  pub end-step : (times : ℕ) (w : ProtocolState) (s : GroupState) → Shows g w s → MayEnd s v times → IsStepRules g w s (End v times)
  end-step times w s shows may =
      step-leads g w s (End v times)
      (leads-up g w s (member_at s v) (ends g v times) may.runs
      (λ m up.
      let here = up-stands g w s v m is shows up in
      let inside = here.inside in
      let each = shows.each in
      ends-lead times w s m (omega (arith, inside, each)) (subst (Shows g w) (sym (having-same s v m up)) shows)))

  -- Crashes within a turn --

  -- what v stored is lost: it has applied what was pending, and knows so
  finish-alone : (w : ProtocolState) (s : GroupState) (m : MemberState) → Shows g w s → member_at s v ≡ Some m
      → LeadsTo g w (having v (journal_at s v) (finished (setup_of g v) m).member (with_finished g v m s))
  unfolding with_finished
  finish-alone w s m shows up =
      let setup = setup_of g v in
      let f = finished setup m in
      let journal = journal_at s v in
      let here = up-stands g w s v m is shows up in
      let stands = here.stands in
      let shown = stands.shown in
      let did = finish_rules setup w m stands in
      let are = did.are in
      let does = finishes setup stands.setup m shown.sound in
      let x = after_rules w did.rules in
      let grows = rules_only_add w did.rules shows.kept are.allowed in
      let r : Replica = record { journal = journal; member = Some f.member } in
      leads-becomes g w s (having v journal f.member (with_finished g v m s)) v r did.rules shows here.inside
      (record {
        own = are.own;
        allowed = are.allowed;
        place = place-of setup x journal f.member here.history are.shown (does.durable ∙ here.durable);
        replicas = refl;
        tally = refl;
        table = refl;
        passed = are.passed ∙ passed-more v m w s.passed shows.passed;
        reports = are.reports ∙ ap (own_report v f.member f.member.role) shows.reports;
        replied = λ y there. grows.replied y (shows.replied y there);
        datagrams = datagrams-before g w s v did.rules shows are.own are.allowed;
      })

  -- nothing is lost: it has made the whole turn, but nothing of it went out
  turn-alone : (w : ProtocolState) (s : GroupState) (e : Event) (m : MemberState) → Shows g w s → member_at s v ≡ Some m → IsTurn (setup_of g v) w m e
      → LeadsTo g w (having v (with_stored (journal_at s v) (turned (setup_of g v) m e).stored) (turned (setup_of g v) m e).member (with_facts g v m e s))
  unfolding with_heard with_finished
  turn-alone w s e m shows up turn =
      let setup = setup_of g v in
      let made = turned setup m e in
      let here = up-stands g w s v m is shows up in
      let stands = here.stands in
      let shown = stands.shown in
      let are = turn.are in
      let x = after_rules w turn.rules in
      let did = turns setup m e stands.setup shown.sound in
      let longer = grown (journal_at s v) (durable_of m) (durable_of made.member) made.stored here.history here.durable did.stores in
      let grows = rules_only_add w turn.rules shows.kept are.allowed in
      let journal = with_stored (journal_at s v) made.stored in
      let r : Replica = record { journal = journal; member = Some made.member } in
      leads-becomes g w s (having v journal made.member (with_facts g v m e s)) v r turn.rules shows here.inside
      (record {
        own = are.own;
        allowed = are.allowed;
        place = place-of setup x journal made.member longer.history are.shown longer.leads;
        replicas = refl;
        tally = refl;
        table = refl;
        passed = are.passed ∙ passed-more v m w s.passed shows.passed;
        reports = are.reports ∙ ap (told_by setup m e) shows.reports;
        replied = λ y there. grows.replied y (shows.replied y there);
        datagrams = datagrams-before g w s v turn.rules shows are.own are.allowed;
      })

  -- and then it stops. Of a whole turn the protocol may have as sent what never went out: nothing that can be seen is changed by that
  crash-leads : (b : Bool) (w : ProtocolState) (s : GroupState) (e : Event) (m : MemberState) → Shows g w s → member_at s v ≡ Some m → IsTurn (setup_of g v) w m e
      → LeadsTo g w
      (if b then crashes (stops v (with_stored (journal_at s v) (turned (setup_of g v) m e).stored) (with_facts g v m e s)) else crashes (stops v (journal_at s v) (with_finished g v m s)))
  unfolding with_heard with_finished
  crash-leads true w s e m shows up turn =
      let here = up-stands g w s v m is shows up in
      let inside = here.inside in
      let each = shows.each in
      let r = turned (setup_of g v) m e in
      let journal = with_stored (journal_at s v) r.stored in
      let t = with_facts g v m e s in
      let u = stops v journal t in
      leads-counted g w u u.events (u.crashes + 1)
      (leads-then g w (having v journal r.member t) u (turn-alone w s e m shows up turn) (λ x shown. stops-having x t journal r.member (omega (arith, inside, each)) shown))
  crash-leads false w s e m shows up turn =
      let here = up-stands g w s v m is shows up in
      let inside = here.inside in
      let each = shows.each in
      let n = (finished (setup_of g v) m).member in
      let journal = journal_at s v in
      let t = with_finished g v m s in
      let u = stops v journal t in
      leads-counted g w u u.events (u.crashes + 1)
      (leads-then g w (having v journal n t) u (finish-alone w s m shows up) (λ x shown. stops-having x t journal n (omega (arith, inside, each)) shown))

  -- a turn at a datagram that was sent to v, or at a tick
  event-turn : (w : ProtocolState) (s : GroupState) (m : MemberState) (packet : Option ℕ) → Shows g w s → member_at s v ≡ Some m
      → IfSome packet (λ number. WasSentTo g s number (Member v)) → IsTurn (setup_of g v) w m (event_of (packet_at s packet))
  event-turn w s m None shows up sent =
      let here = up-stands g w s v m is shows up in (timed_turns (setup_of g v) w m here.stands).0
  event-turn w s m (Some number) shows up sent =
      subst (λ (found : Option Datagram). IsTurn (setup_of g v) w m (event_of found)) (sym sent.sent) (datagram-turn g w s number v sent.datagram m is shows sent.sent sent.to up)

  pub crash-in-turn-step : (packet : Option ℕ) (kept : Bool) (w : ProtocolState) (s : GroupState) → Shows g w s → MayCrashInTurn g s v packet → IsStepRules g w s (CrashInTurn v packet kept)
  unfolding crashes_in_turn
  crash-in-turn-step packet kept w s shows may =
      let e = event_of (packet_at s packet) in
      step-leads g w s (CrashInTurn v packet kept)
      (leads-up g w s (member_at s v) (crashes_in_turn g v e kept) may.runs
      (λ m up. crash-leads (lasts kept (turned (setup_of g v) m e).stored) w s e m shows up (event-turn w s m packet shows up may.sent)))

-- A member stops, and begins again.
use Rattle.std.proofs.Common.{◌≡◌, ℕ, ◌+◌, ◌<◌, true, false, List, [], ◌∷◌, length, Option, None, Some, refl, ap, subst}
use Rattle.std.specs.Prelude.{All, is_some}
use Rattle.std.proofs.lemmas.List.Elements.{All-nil}
use Rattle.hc_log.specs.declared.record.Record.{Record}
use Rattle.hc_log.specs.Durable.{State, replay}
use Rattle.hc_log.proofs.Replays.{IsValid-replay}
use Rattle.hc_member.specs.declared.setup.Setup.{Setup}
use Rattle.hc_member.specs.Member.{Member, anew, durable_of}
use Rattle.hc_member.proofs.Begun.{sound-anew}
use Rattle.hc_rules.specs.Conditions.{CanAct, MayRestart}
use Rattle.hc_rules.specs.Kept.{Kept}
use Rattle.hc_rules.specs.Parts.{MemberOf, member_of, stopped_member}
use Rattle.hc_rules.specs.Protocol.{ProtocolState}
use Rattle.hc_rules.specs.Rules.{Crash as CrashRule, Restart as RestartRule, after}
use Rattle.hc_rules.proofs.Puts.{put_same}
use Rattle.hc_run.specs.Group.{Group, setup_of}
use Rattle.hc_run.specs.State.{GroupState, is_up, journal_at, member_at, started, stopped, with_replica}
use Rattle.hc_run.specs.Events.{Crash, Restart, IsDown}
use Rattle.hc_run.specs.Held.{HasTablesParts, Holds, IsAskedIn, IsStoredOf, WasReplied}
use Rattle.hc_run.specs.Shows.{IsShown, Shows, ShowsMember}
use Rattle.hc_run.specs.StepLaws.{IsStepRules, LeadsTo}
use Rattle.hc_run.specs.Steps.{acts, crashes, step, stops, where_up}
use Rattle.hc_run.specs.Tied.{IsTied, IsTiedDown}
use Rattle.hc_run.proofs.Common.{led-follower}
use Rattle.hc_run.proofs.Journals.{durable-anew}
use Rattle.hc_run.proofs.Places.{datagrams-before, leads-becomes, up-member}
use Rattle.hc_run.proofs.Stretches.{leads-counted}

-- Crashes --

-- what a member keeps is what its journal leads to
tied-down : (w : ProtocolState) (v : ℕ) (m : Member) (d : State) → IsTied (member_of w v) m → durable_of m ≡ d → IsTiedDown (member_of (after w (CrashRule v)) v) d
tied-down w v m d tied same =
    subst (λ (x : State). IsTiedDown (member_of (after w (CrashRule v)) v) x) same
    (record { down = put_same w.up v false; term = tied.term; vote = tied.vote; log = tied.log })

-- the place of a member that is up
pub shown-up : (g : Group) (w : ProtocolState) (s : GroupState) (v : ℕ) (m : Member) → Shows g w s → v < length g.members → member_at s v ≡ Some m
    → ShowsMember (setup_of g v) w (journal_at s v) (Some m)
shown-up g w s v m shows inside up =
    let place = shows.members v inside in
    subst (λ (found : Option Member). ShowsMember (setup_of g v) w (journal_at s v) found) up place.member

-- a member that is up stops
pub crash-becomes : (g : Group) (w : ProtocolState) (s : GroupState) (v : ℕ) (m : Member) → Shows g w s → member_at s v ≡ Some m
    → LeadsTo g w (stops v (journal_at s v) s)
crash-becomes g w s v m shows up =
    let inside = up-member g s v m shows.each up in
    let place = shows.members v inside in
    let both = shown-up g w s v m shows inside up in
    let shown = both.0 in
    let tied = shown.tied in
    let group = shown.group in
    let rules = CrashRule v ∷ [] in
    let may : CanAct w v = record { member = rw group.size inside; runs = tied.up } in
    leads-becomes g w s (stops v (journal_at s v) s) v (stopped (journal_at s v)) rules shows inside
    (record {
      own = (refl, tt);
      allowed = (may, tt);
      place = record { history = place.history; bodies = place.bodies; member = tied-down w v m (replay (journal_at s v)) tied both.1 };
      replicas = refl;
      tally = refl;
      table = refl;
      passed = shows.passed;
      reports = shows.reports;
      replied = shows.replied;
      datagrams = datagrams-before g w s v rules shows (refl, tt) (may, tt);
    })

-- what a member does that is up
pub leads-up : (g : Group) (w : ProtocolState) (s : GroupState) (found : Option Member) (does : Member → GroupState → GroupState) → is_some found ≡ true
    → ((m : Member) → found ≡ Some m → LeadsTo g w (does m s)) → LeadsTo g w (where_up found does s)
leads-up g w s (Some m) does up each = each m refl
leads-up g w s None does up each = absurd cc

pub crash-step : (g : Group) (w : ProtocolState) (s : GroupState) (v : ℕ) → Shows g w s → is_up s v ≡ true → IsStepRules g w s (Crash v)
unfolding step
crash-step g w s v shows up =
    let t = acts v (λ m s. crashes (stops v (journal_at s v) s)) s in
    leads-counted g w t (t.events + 1) t.crashes
    (leads-up g w s (member_at s v) (λ m s. crashes (stops v (journal_at s v) s)) up
    (λ m is. let t = stops v (journal_at s v) s in leads-counted g w t t.events (t.crashes + 1) (crash-becomes g w s v m shows is)))

-- Restarts --

-- a member that was down has lost all else, and begins so
tied-anew : (w : ProtocolState) (v : ℕ) (d : State) → Kept w → IsTiedDown (member_of w v) d → IsTied (member_of (after w (RestartRule v)) v) (anew d)
unfolding anew
tied-anew w v d kept tied =
    let forgot : member_of w v ≡ stopped_member (w.term v) (w.vote v) (w.log v) = kept.stopped_members_forgot v tied.down in
    record {
      up = put_same w.up v true;
      term = tied.term;
      vote = tied.vote;
      log = tied.log;
      role = ap (λ (x : MemberOf). x.role) forgot;
      matched = ap (λ (x : MemberOf). x.matched) forgot;
      commit = ap (λ (x : MemberOf). x.commit) forgot;
      applied = ap (λ (x : MemberOf). x.applied) forgot;
      counted = λ e c. absurd cc;
      start = λ e. absurd cc;
      reached = λ e p. absurd cc;
    }

-- it holds its log alone
pub holds-anew : (w : ProtocolState) (v : ℕ) (d : State) → All (IsStoredOf w.table) d.log → Holds w.table w.replied w.reports v (anew d)
unfolding anew
holds-anew w v d bodies =
    record {
      bodies = bodies;
      pool = All-nil (IsAskedIn w.table);
      kept = All-nil (WasReplied w.replied);
      led = led-follower w.reports v (anew d) refl;
      unfinished = All-nil (HasTablesParts w.table);
    }

-- a member that is down
shown-down : (s : Setup) (w : ProtocolState) (journal : List Record) (found : Option Member) → is_some found ≡ false → ShowsMember s w journal found
    → IsTiedDown (member_of w s.me) (replay journal)
shown-down s w journal (Some m) down shown = absurd cc
shown-down s w journal None down shown = shown

restart-becomes : (g : Group) (w : ProtocolState) (s : GroupState) (v : ℕ) → Shows g w s → IsDown g s v → LeadsTo g w (with_replica s v (started (journal_at s v)))
restart-becomes g w s v shows down =
    let inside = down.member in
    let setup = setup_of g v in
    let journal = journal_at s v in
    let d = replay journal in
    let place = shows.members v inside in
    let group = shows.group in
    let tied = shown-down setup w journal (member_at s v) down.down place.member in
    let rules = RestartRule v ∷ [] in
    let may : MayRestart w v = record { member = rw group.size inside; stopped = tied.down } in
    let x = after w (RestartRule v) in
    let shown : IsShown setup x (anew d) =
    record {
      group = record { size = group.size; bound = group.bound };
      tied = tied-anew w v d shows.kept tied;
      sound = sound-anew setup d (IsValid-replay journal place.history);
      holds = holds-anew w v d place.bodies;
    } in
    leads-becomes g w s (with_replica s v (started journal)) v (started journal) rules shows inside
    (record {
      own = (refl, tt);
      allowed = (may, tt);
      place = record { history = place.history; bodies = place.bodies; member = (shown, durable-anew d) };
      replicas = refl;
      tally = refl;
      table = refl;
      passed = shows.passed;
      reports = shows.reports;
      replied = shows.replied;
      datagrams = datagrams-before g w s v rules shows (refl, tt) (may, tt);
    })

pub restart-step : (g : Group) (w : ProtocolState) (s : GroupState) (v : ℕ) → Shows g w s → IsDown g s v → IsStepRules g w s (Restart v)
unfolding step
restart-step g w s v shows down =
    let t = with_replica s v (started (journal_at s v)) in leads-counted g w t (t.events + 1) t.crashes (restart-becomes g w s v shows down)

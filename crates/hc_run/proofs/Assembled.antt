-- From steps of one member to the whole group, with what the member sends.
use Rattle.std.proofs.Common.{◌≡◌, ℕ, ◌+◌, ◌<◌, List, ◌++◌, length, map, set, Some, sym, ap, subst, ◌∙◌}
use Rattle.std.specs.Prelude.{All}
use Rattle.std.proofs.lemmas.List.Elements.{All-append}
use Rattle.r2_base.specs.declared.datagram.Datagram.{Datagram}
use Rattle.hc_log.specs.Durable.{IsHistory, replay}
use Rattle.hc_member.specs.Member.{Member, durable_of}
use Rattle.hc_member.specs.Sending.{IsSent, Sending, datagrams_of_all}
use Rattle.hc_rules.specs.Log.{In}
use Rattle.hc_rules.specs.Message.{Reply}
use Rattle.hc_rules.specs.Protocol.{ProtocolState}
use Rattle.hc_rules.specs.Rules.{Rule}
use Rattle.hc_rules.specs.Runs.{AllAllowed, after_rules}
use Rattle.hc_rules.proofs.RuleLists.{rules_answer, rules_keep, rules_only_add}
use Rattle.hc_run.specs.Group.{Group, IsGroup, setup_of}
use Rattle.hc_run.specs.State.{GroupState, Replica, journal_at, member_at}
use Rattle.hc_run.specs.Events.{GroupEvent}
use Rattle.hc_run.specs.Steps.{happens, replies, step}
use Rattle.hc_run.specs.Tied.{passed_in}
use Rattle.hc_run.specs.Held.{IsAsked}
use Rattle.hc_run.specs.Backed.{IsBacked, IsBackedDatagram}
use Rattle.hc_run.specs.Halves.{Stands}
use Rattle.hc_run.specs.Rows.{AreBy, ByMember}
use Rattle.hc_run.specs.Shows.{Shows, ShowsReplica}
use Rattle.hc_run.specs.StepLaws.{IsStepRules, LeadsTo}
use Rattle.hc_run.proofs.Composed.{leave-table}
use Rattle.hc_run.proofs.Journals.{groups_have_setups}
use Rattle.hc_run.proofs.Places.{datagrams-before, leads-becomes, up-member}
use Rattle.hc_run.proofs.SentDatagrams.{replies-made, sent-backed}
use Rattle.hc_run.proofs.Stops.{shown-up}
use Rattle.hc_run.proofs.Stretches.{leads-counted}

-- what a member's doing leaves of a group: its own place is another one, and so much was sent
pub record IsMoved (g : Group) (s t : GroupState) (v : ℕ) (r : Replica) (sends : List Sending) : Type 0 where
  pub replicas : t.replicas ≡ set s.replicas v r
  pub tally : t.tally ≡ s.tally
  pub table : t.table ≡ s.table
  pub datagrams : t.datagrams ≡ s.datagrams ++ datagrams_of_all (setup_of g v) sends
  pub replied : t.replied ≡ replies (length s.table) sends s.replied

-- steps of the member alone that show what has become of its place, what it sent, and what was applied and learnt
pub record AreMoves (g : Group) (w : ProtocolState) (t : GroupState) (v : ℕ) (r : Replica) (sends : List Sending) (rules : List Rule) : Type 0 where
  pub own : AreBy (ByMember v) rules
  pub allowed : AllAllowed w rules
  pub place : ShowsReplica (setup_of g v) (after_rules w rules) r
  pub sent : All IsSent sends
  pub backed : All (IsBacked (setup_of g v) (after_rules w rules)) sends
  pub passed : (after_rules w rules).passed ≡ map passed_in t.passed
  pub reports : (after_rules w rules).reports ≡ t.reports

-- then the group is shown where they lead
pub assembled : (g : Group) (w : ProtocolState) (s t : GroupState) (v : ℕ) (r : Replica) (sends : List Sending) (rules : List Rule) → Shows g w s → v < length g.members
    → AreMoves g w t v r sends rules → IsMoved g s t v r sends → LeadsTo g w t
assembled g w s t v r sends rules shows inside moves moved =
    let x = after_rules w rules in
    let setup = setup_of g v in
    let kept = rules_keep w rules shows.kept moves.allowed in
    let answered = rules_answer w rules shows.kept shows.answered moves.allowed in
    let grows = rules_only_add w rules shows.kept moves.allowed in
    let table : x.table ≡ s.table = leave-table w rules v moves.own ∙ shows.table in
    let size : length s.table ≡ length x.table = ap length (sym table) in
    let asked : All IsAsked x.table = rw table shows.asked in
    let made = replies-made setup x sends s.replied moves.backed (λ y there. grows.replied y (shows.replied y there)) in
    leads-becomes g w s t v r rules shows inside
    (record {
      own = moves.own;
      allowed = moves.allowed;
      place = moves.place;
      replicas = moved.replicas;
      tally = moved.tally;
      table = moved.table;
      passed = moves.passed;
      reports = moves.reports;
      replied = λ y there.
          made y (subst (λ (n : ℕ). In y (replies n sends s.replied)) size (subst (λ (l : List Reply). In y l) moved.replied there));
      datagrams = subst (λ (l : List Datagram). All (IsBackedDatagram g.members x) l) (sym moved.datagrams)
          (All-append (IsBackedDatagram g.members x) s.datagrams (datagrams_of_all setup sends) (datagrams-before g w s v rules shows moves.own moves.allowed)
          (sent-backed setup x kept answered asked sends moves.sent moves.backed));
    })

-- Members that are up --

-- what is known of a member that is up
pub record IsUpIn (g : Group) (w : ProtocolState) (s : GroupState) (v : ℕ) (m : Member) : Type 0 where
  pub inside : v < length g.members
  pub history : IsHistory (journal_at s v)
  pub durable : durable_of m ≡ replay (journal_at s v)
  pub stands : Stands (setup_of g v) w m

pub up-stands : (g : Group) (w : ProtocolState) (s : GroupState) (v : ℕ) (m : Member) → IsGroup g → Shows g w s → member_at s v ≡ Some m → IsUpIn g w s v m
up-stands g w s v m is shows up =
    let inside = up-member g s v m shows.each up in
    let place = shows.members v inside in
    let both = shown-up g w s v m shows inside up in
    record {
      inside = inside;
      history = place.history;
      durable = both.1;
      stands = record { setup = groups_have_setups g v is inside; kept = shows.kept; answered = shows.answered; shown = both.0 };
    }

-- the count of events doesn't matter
pub step-leads : (g : Group) (w : ProtocolState) (s : GroupState) (e : GroupEvent) → LeadsTo g w (happens g e s) → IsStepRules g w s e
unfolding step
step-leads g w s e leads =
    let t = happens g e s in
    leads-counted g w t (t.events + 1) t.crashes leads

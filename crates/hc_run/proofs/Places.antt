-- What a state of the protocol shows of a group after steps of one member, and after steps of no member.
use Rattle.std.proofs.Common.{◌≡◌, ℕ, ◌<◌, ◌++◌, List, [], set, get_or, length, map, None, Some, sym, ap, subst, ◌∙◌, arith, inl, inr}
use Rattle.std.specs.Prelude.{All}
use Rattle.std.proofs.lemmas.Bool.{cases_eq, cases_lt}
use Rattle.std.proofs.lemmas.List.{get_or_past, get_or-set_other, get_or-set_same, length-set}
use Rattle.std.proofs.lemmas.List.Elements.{All-append, All-weaker}
use Rattle.r2_base.specs.declared.datagram.Datagram.{Datagram}
use Rattle.hc_member.specs.Member.{Member}
use Rattle.hc_aggregate.specs.Sound.{IsTally}
use Rattle.hc_aggregate.specs.Tally.{Tally}
use Rattle.hc_rules.specs.Log.{In}
use Rattle.hc_rules.specs.Message.{Reply, Request}
use Rattle.hc_rules.specs.Protocol.{ProtocolState}
use Rattle.hc_rules.specs.Rules.{Rule}
use Rattle.hc_rules.specs.Runs.{AllAllowed, after_rules}
use Rattle.hc_rules.proofs.RuleLists.{rules_answer, rules_keep, rules_only_add, same_group}
use Rattle.hc_run.specs.Group.{Group, setup_of}
use Rattle.hc_run.specs.State.{GroupState, Replica, member_at, replica_at, stopped}
use Rattle.hc_run.specs.Backed.{IsBackedDatagram}
use Rattle.hc_run.specs.Held.{IsAsked}
use Rattle.hc_run.specs.Rows.{AreBy, ByMember}
use Rattle.hc_run.specs.Shows.{Shows, ShowsReplica}
use Rattle.hc_run.specs.Sparing.{Spares, SparesMembers}
use Rattle.hc_run.specs.StepLaws.{LeadsTo}
use Rattle.hc_run.specs.Tied.{IsTiedTally, passed_in}
use Rattle.hc_run.proofs.Sparing.{members_spare}

-- each member's place is shown
abbrev pub PlacesShown : Group → ProtocolState → List Replica → Type 0
PlacesShown g w replicas = (v : ℕ) → v < length g.members → ShowsReplica (setup_of g v) w (get_or replicas v (stopped []))

-- one of them is new, and the others are spared
pub places-set : (g : Group) (w x : ProtocolState) (replicas : List Replica) (v : ℕ) (r : Replica) → length replicas ≡ length g.members → v < length g.members → PlacesShown g w replicas
    → Spares (setup_of g v) w x → ShowsReplica (setup_of g v) x r → PlacesShown g x (set replicas v r)
places-set g w x replicas v r each member places spares new u inside =
    elim (cases_eq u v) [
      | inl same ↦
          subst (λ (y : ℕ). ShowsReplica (setup_of g y) x (get_or (set replicas v r) y (stopped []))) (sym same)
          (rw (get_or-set_same replicas v r (stopped []) (omega (arith, member, each))) new)
      | inr other ↦
          let spared = spares.others u other in
          rw (get_or-set_other replicas v u r (stopped []) other) (spared.place (get_or replicas u (stopped [])) (places u inside))
    ]

-- a member that is up is one of the group
pub up-member : (g : Group) (s : GroupState) (v : ℕ) (m : Member) → length s.replicas ≡ length g.members → member_at s v ≡ Some m → v < length g.members
up-member g s v m each up =
    elim (cases_lt v (length g.members)) [
      | inl inside ↦ inside
      | inr past ↦
          let down : replica_at s v ≡ stopped [] = get_or_past s.replicas v (stopped []) (omega (arith, past, each)) in
          let none : None ≡ Some m = sym (ap (λ (r : Replica). r.member) down) ∙ up in
          absurd cc
    ]

-- a group becomes another one by steps of one member, which has the place r then
pub record Becomes (g : Group) (w : ProtocolState) (s t : GroupState) (v : ℕ) (r : Replica) (rules : List Rule) : Type 0 where
  pub own : AreBy (ByMember v) rules
  pub allowed : AllAllowed w rules
  pub place : ShowsReplica (setup_of g v) (after_rules w rules) r
  pub replicas : t.replicas ≡ set s.replicas v r
  pub tally : t.tally ≡ s.tally
  pub table : t.table ≡ s.table
  pub passed : (after_rules w rules).passed ≡ map passed_in t.passed
  pub reports : (after_rules w rules).reports ≡ t.reports
  pub replied : (y : Reply) → In y t.replied → In y (after_rules w rules).replied
  pub datagrams : All (IsBackedDatagram g.members (after_rules w rules)) t.datagrams

-- then the state of the protocol after them shows it
pub shows-becomes : (g : Group) (w : ProtocolState) (s t : GroupState) (v : ℕ) (r : Replica) (rules : List Rule) → Shows g w s → v < length g.members → Becomes g w s t v r rules
    → Shows g (after_rules w rules) t
shows-becomes g w s t v r rules shows member becomes =
    let x = after_rules w rules in
    let spares = members_spare (setup_of g v) w rules shows.kept becomes.own becomes.allowed in
    let group = same_group w rules in
    let old = shows.group in
    let each = shows.each in
    let places = places-set g w x s.replicas v r each member shows.members spares becomes.place in
    record {
      kept = rules_keep w rules shows.kept becomes.allowed;
      answered = rules_answer w rules shows.kept shows.answered becomes.allowed;
      group = record { size = group.size ∙ old.size; bound = λ p. ap (λ (f : ℕ → ℕ). f p) group.bound ∙ old.bound p };
      each = ap length becomes.replicas ∙ length-set s.replicas v r ∙ each;
      members = subst (λ (l : List Replica). PlacesShown g x l) (sym becomes.replicas) places;
      aggregator = rw spares.aggregator (subst (λ (t : Tally). IsTiedTally w.aggregator t) (sym becomes.tally) shows.aggregator);
      tally = subst (λ (t : Tally). IsTally (length g.members) t) (sym becomes.tally) shows.tally;
      table = spares.table ∙ shows.table ∙ sym becomes.table;
      asked = subst (λ (l : List Request). All IsAsked l) (sym becomes.table) shows.asked;
      passed = becomes.passed;
      reports = becomes.reports;
      replied = becomes.replied;
      datagrams = becomes.datagrams;
    }

pub leads-becomes : (g : Group) (w : ProtocolState) (s t : GroupState) (v : ℕ) (r : Replica) (rules : List Rule) → Shows g w s → v < length g.members → Becomes g w s t v r rules
    → LeadsTo g w t
leads-becomes g w s t v r rules shows member becomes =
    record { rules = rules; allowed = becomes.allowed; shown = shows-becomes g w s t v r rules shows member becomes }

-- what was sent before stays so
pub datagrams-before : (g : Group) (w : ProtocolState) (s : GroupState) (v : ℕ) (rules : List Rule) → Shows g w s → AreBy (ByMember v) rules → AllAllowed w rules
    → All (IsBackedDatagram g.members (after_rules w rules)) s.datagrams
datagrams-before g w s v rules shows own allowed =
    let spares = members_spare (setup_of g v) w rules shows.kept own allowed in
    All-weaker (IsBackedDatagram g.members w) (IsBackedDatagram g.members (after_rules w rules)) spares.datagrams s.datagrams shows.datagrams

-- Steps of no member --

-- a group becomes another one by steps of the aggregator or of a client: the members' places are the same, and so much more was sent
pub record Stays (g : Group) (w : ProtocolState) (s t : GroupState) (more : List Datagram) (rules : List Rule) : Type 0 where
  pub allowed : AllAllowed w rules
  pub spared : SparesMembers (setup_of g 0) w (after_rules w rules)
  pub replicas : t.replicas ≡ s.replicas
  pub aggregator : IsTiedTally (after_rules w rules).aggregator t.tally
  pub tally : IsTally (length g.members) t.tally
  pub table : (after_rules w rules).table ≡ t.table
  pub asked : All IsAsked t.table
  pub passed : (after_rules w rules).passed ≡ map passed_in t.passed
  pub reports : (after_rules w rules).reports ≡ t.reports
  pub replied : t.replied ≡ s.replied
  pub sent : All (IsBackedDatagram g.members (after_rules w rules)) more
  pub datagrams : t.datagrams ≡ s.datagrams ++ more

pub leads-stays : (g : Group) (w : ProtocolState) (s t : GroupState) (more : List Datagram) (rules : List Rule) → Shows g w s → Stays g w s t more rules → LeadsTo g w t
leads-stays g w s t more rules shows stays =
    let x = after_rules w rules in
    let spared = stays.spared in
    let group = same_group w rules in
    let old = shows.group in
    let grows = rules_only_add w rules shows.kept stays.allowed in
    let places : PlacesShown g x s.replicas = λ v inside. let member = spared.members v in member.place (replica_at s v) (shows.members v inside) in
    record {
      rules = rules;
      allowed = stays.allowed;
      shown =
          record {
            kept = rules_keep w rules shows.kept stays.allowed;
            answered = rules_answer w rules shows.kept shows.answered stays.allowed;
            group = record { size = group.size ∙ old.size; bound = λ p. ap (λ (f : ℕ → ℕ). f p) group.bound ∙ old.bound p };
            each = ap length stays.replicas ∙ shows.each;
            members = subst (λ (l : List Replica). PlacesShown g x l) (sym stays.replicas) places;
            aggregator = stays.aggregator;
            tally = stays.tally;
            table = stays.table;
            asked = stays.asked;
            passed = stays.passed;
            reports = stays.reports;
            replied = λ y there. grows.replied y (shows.replied y (subst (λ (l : List Reply). In y l) stays.replied there));
            datagrams = subst (λ (l : List Datagram). All (IsBackedDatagram g.members x) l) (sym stays.datagrams)
                (All-append (IsBackedDatagram g.members x) s.datagrams more
                (All-weaker (IsBackedDatagram g.members w) (IsBackedDatagram g.members x) spared.datagrams s.datagrams shows.datagrams) stays.sent);
          };
    }

-- Rows as lists of rules, one rule after another.
use Rattle.std.proofs.Common.{◌≡◌, ℕ, Bool, true, false, List, [], ◌∷◌, None, refl}
use Rattle.std.specs.Prelude.{All, nat_lt, if◌then◌else◌}
use Rattle.std.proofs.lemmas.Bool.{ltb-true}
use Rattle.hc_member.specs.declared.setup.Setup.{Setup}
use Rattle.hc_member.specs.declared.heard.Heard.{Heard}
use Rattle.hc_member.specs.declared.role.Role.TheVariants as member
use Rattle.hc_member.specs.Member.{Member}
use Rattle.hc_member.specs.Outcome.{Outcome}
use Rattle.hc_member.specs.Reports.{report_in}
use Rattle.hc_member.specs.Setup.{IsSetup}
use Rattle.hc_member.specs.Sound.{IsSound}
use Rattle.hc_member.specs.Votes.{rise_to}
use Rattle.hc_rules.specs.Conditions.{Allowed, CanAct, MayRise}
use Rattle.hc_rules.specs.Kept.{Kept}
use Rattle.hc_rules.proofs.Steps.{steps_keep}
use Rattle.hc_rules.specs.Message.{Passed, Report}
use Rattle.hc_rules.specs.Parts.{member_of}
use Rattle.hc_rules.specs.Protocol.{ProtocolState}
use Rattle.hc_rules.specs.Rules.{Rule, Rise, after}
use Rattle.hc_rules.specs.Runs.{AllAllowed, after_rules}
use Rattle.hc_run.specs.Backed.{IsBacked}
use Rattle.hc_run.specs.Held.{Holds}
use Rattle.hc_run.specs.Rows.{AreBy, ByMember, IsRow, maker}
use Rattle.hc_run.specs.Shows.{IsGroupOf, IsShown}
use Rattle.hc_run.specs.Steps.{heard_report}
use Rattle.hc_run.specs.Tied.{IsTied}
use Rattle.hc_run.proofs.Common.{holds-on, led-follower}
use Rattle.hc_run.proofs.Ties.{tie-rise}

-- a member as a state of the protocol has it, but for its soundness
pub record IsLike (s : Setup) (w : ProtocolState) (m : Member) : Type 0 where
  pub group : IsGroupOf s w
  pub tied : IsTied (member_of w s.me) m
  pub holds : Holds w.table w.replied w.reports s.me m

pub like_of : (s : Setup) (w : ProtocolState) (m : Member) → IsShown s w m → IsLike s w m
like_of s w m shown = record { group = shown.group; tied = shown.tied; holds = shown.holds }

pub shown_of : (s : Setup) (w : ProtocolState) (m : Member) → IsLike s w m → IsSound s m → IsShown s w m
shown_of s w m like sound = record { group = like.group; tied = like.tied; sound = sound; holds = like.holds }

-- the member may act
pub acts : (s : Setup) (w : ProtocolState) (m : Member) → IsSetup s → IsLike s w m → CanAct w s.me
acts s w m is like =
    let group = like.group in
    let tied = like.tied in
    record { member = rw group.size is.own; runs = tied.up }

-- steps of the member that lead to what comes, with so much passed and these reports
pub record IsWay (s : Setup) (w : ProtocolState) (o : Outcome) (done : List Passed) (told : List Report) : Type 0 where
  pub rules : List Rule
  pub own : AreBy (ByMember s.me) rules
  pub allowed : AllAllowed w rules
  pub like : IsLike s (after_rules w rules) o.member
  pub backed : All (IsBacked s (after_rules w rules)) o.sends
  pub passed : (after_rules w rules).passed ≡ done
  pub reports : (after_rules w rules).reports ≡ told

-- no steps
pub way-end : (s : Setup) (w : ProtocolState) (o : Outcome) → IsLike s w o.member → All (IsBacked s w) o.sends → IsWay s w o w.passed w.reports
way-end s w o like backed =
    record { rules = []; own = tt; allowed = tt; like = like; backed = backed; passed = refl; reports = refl }

-- one step, and those after it
pub way-first : (s : Setup) (w : ProtocolState) (o : Outcome) (passed : List Passed) (reports : List Report) (r : Rule) → maker r ≡ ByMember s.me → Allowed w r
    → IsWay s (after w r) o passed reports → IsWay s w o passed reports
way-first s w o passed reports r own may way =
    record {
      rules = r ∷ way.rules;
      own = (own, way.own);
      allowed = (may, way.allowed);
      like = way.like;
      backed = way.backed;
      passed = way.passed;
      reports = way.reports;
    }

-- they are a row
pub row-of : (s : Setup) (w : ProtocolState) (m : Member) (said : Heard) (o : Outcome) → IsSound s o.member
    → IsWay s w o w.passed (heard_report s.me m.term (report_in s m said) w.reports) → IsRow s w m said o
row-of s w m said o sound way =
    record {
      rules = way.rules;
      are =
          record {
            own = way.own;
            allowed = way.allowed;
            shown = shown_of s (after_rules w way.rules) o.member way.like sound;
            backed = way.backed;
            passed = way.passed;
            reports = way.reports;
          };
    }

-- Rising --

pub like-rise : (s : Setup) (w : ProtocolState) (m : Member) (term : ℕ) → IsLike s w m
    → IsLike s (after w (Rise s.me term)) (record m { term = term; vote = None; role = member.Follower; votes = []; matched = 0 })
like-rise s w m term like =
    let n : Member = record m { term = term; vote = None; role = member.Follower; votes = []; matched = 0 } in
    record {
      group = record { size = like.group.size; bound = like.group.bound };
      tied = tie-rise w s.me m like.tied term;
      holds = holds-on w.table w.replied w.replied w.reports w.reports s.me m n like.holds refl refl refl refl (λ r there. there) (led-follower w.reports s.me n refl);
    }

-- what a rise leaves of what was sent
pub record SameSent (w v : ProtocolState) : Type 0 where
  pub vote_requests : v.vote_requests ≡ w.vote_requests
  pub votes : v.votes ≡ w.votes
  pub orders : v.orders ≡ w.orders
  pub passed : v.passed ≡ w.passed
  pub reports : v.reports ≡ w.reports
  pub table : v.table ≡ w.table

rises-by : (s : Setup) (w : ProtocolState) (m : Member) (term : ℕ) (o : Outcome) (b : Bool) → nat_lt m.term term ≡ b → IsSetup s → Kept w → IsLike s w m
    → ((v : ProtocolState) → SameSent w v → Kept v
    → IsLike s v (if b then record m { term = term; vote = None; role = member.Follower; votes = []; matched = 0 } else m) → IsWay s v o v.passed v.reports)
    → IsWay s w o w.passed w.reports
rises-by s w m term o true e is kept like goes =
    let tied = like.tied in
    let may : MayRise w s.me term = record { acts = acts s w m is like; higher = rw tied.term (ltb-true m.term term e) } in
    way-first s w o w.passed w.reports (Rise s.me term) refl may
    (goes (after w (Rise s.me term)) (record { vote_requests = refl; votes = refl; orders = refl; passed = refl; reports = refl; table = refl })
    (steps_keep w (Rise s.me term) kept may) (like-rise s w m term like))
rises-by s w m term o false e is kept like goes =
    goes w (record { vote_requests = refl; votes = refl; orders = refl; passed = refl; reports = refl; table = refl }) kept like

-- a member that hears of a term rises to it first, where it is greater
pub rises : (s : Setup) (w : ProtocolState) (m : Member) (term : ℕ) (o : Outcome) → IsSetup s → Kept w → IsLike s w m
    → ((v : ProtocolState) → SameSent w v → Kept v → IsLike s v (rise_to term m) → IsWay s v o v.passed v.reports)
    → IsWay s w o w.passed w.reports
unfolding rise_to
rises s w m term o is kept like goes = rises-by s w m term o (nat_lt m.term term) refl is kept like goes

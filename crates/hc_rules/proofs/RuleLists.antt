-- Lists of rules, one after another.
use Rattle.std.proofs.Common.{◌≡◌, ℕ, List, [], ◌∷◌, ◌++◌, length, refl, sym, ap, ◌∙◌, arith, append_assoc}
use Rattle.std.proofs.Common.{append-nil}
use Rattle.hc_rules.specs.Conditions.{Allowed}
use Rattle.hc_rules.specs.Kept.{Kept}
use Rattle.hc_rules.specs.Message.{Request}
use Rattle.hc_rules.specs.Parts.{Grows, member_of}
use Rattle.hc_rules.specs.Protocol.{ProtocolState, beginning}
use Rattle.hc_rules.specs.Replies.{Answered}
use Rattle.hc_rules.specs.Rules.{Rule, after}
use Rattle.hc_rules.specs.Runs.{AllAllowed, IsRun, after_rules, state_after}
use Rattle.hc_rules.specs.Sequences.{AreOthers, IsSameGroup}
use Rattle.hc_rules.specs.Agreed.{agreed}
use Rattle.hc_rules.specs.Log.{Share}
use Rattle.hc_rules.proofs.Agreement.{agreed_grows}
use Rattle.hc_rules.proofs.Bounds.{leaders_are_bounded, requests_are_given}
use Rattle.hc_rules.proofs.Grows.{grows}
use Rattle.hc_rules.proofs.Parts.{leaves, spares}
use Rattle.hc_rules.proofs.Replied.{later_requests_stand_behind, places_are_within, replies_are_right}
use Rattle.hc_rules.proofs.Shares.{share_less, share_self, share-trans}
use Rattle.hc_rules.proofs.Steps.{steps_keep}

pub steps_follow : (w : ProtocolState) (first more : List Rule) → after_rules w (first ++ more) ≡ after_rules (after_rules w first) more
steps_follow w [] more = refl
steps_follow w (r ∷ first) more = steps_follow (after w r) first more

pub allowed_in_parts : (w : ProtocolState) (first more : List Rule) → AllAllowed w first → AllAllowed (after_rules w first) more → AllAllowed w (first ++ more)
allowed_in_parts w [] more a b = b
allowed_in_parts w (r ∷ first) more a b = (a.0, allowed_in_parts (after w r) first more a.1 b)

pub parts_are_allowed : (w : ProtocolState) (first more : List Rule) → AllAllowed w (first ++ more) → AllAllowed w first × AllAllowed (after_rules w first) more
parts_are_allowed w [] more a = (tt, a)
parts_are_allowed w (r ∷ first) more a = let rest = parts_are_allowed (after w r) first more a.1 in ((a.0, rest.0), rest.1)

pub runs_go_on : (members : ℕ) (bounds : ℕ → ℕ) (rules more : List Rule) → IsRun members bounds rules → AllAllowed (state_after members bounds rules) more → IsRun members bounds (rules ++ more)
runs_go_on members bounds rules more r a = record { allowed = allowed_in_parts (beginning members bounds) rules more r.allowed a }

pub same_group : (w : ProtocolState) (rules : List Rule) → IsSameGroup w (after_rules w rules)
same_group w [] = record { size = refl; bound = refl }
same_group w (r ∷ more) =
    let rest = same_group (after w r) more in
    let one = leaves w r in
    record { size = rest.size ∙ one.size; bound = rest.bound ∙ one.bound }

pub rules_keep : (w : ProtocolState) (rules : List Rule) → Kept w → AllAllowed w rules → Kept (after_rules w rules)
rules_keep w [] k a = k
rules_keep w (r ∷ more) k a = rules_keep (after w r) more (steps_keep w r k a.0) a.1

pub steps_answer : (w : ProtocolState) (r : Rule) → Kept w → Answered w → Allowed w r → Answered (after w r)
steps_answer w r k h a =
    record {
      replies_are_right = replies_are_right w k h.replies_are_right r a;
      places_are_within = places_are_within w k h.places_are_within r a;
      later_requests_stand_behind = later_requests_stand_behind w k h.places_are_within h.replies_are_right h.later_requests_stand_behind r a;
      leaders_are_bounded = leaders_are_bounded w k h.leaders_are_bounded r a;
      requests_are_given = requests_are_given w k h.requests_are_given r a;
    }

pub rules_answer : (w : ProtocolState) (rules : List Rule) → Kept w → Answered w → AllAllowed w rules → Answered (after_rules w rules)
rules_answer w [] k h a = h
rules_answer w (r ∷ more) k h a = rules_answer (after w r) more (steps_keep w r k a.0) (steps_answer w r k h a.0) a.1

nothing_grows : (w : ProtocolState) → Grows w w
nothing_grows w =
    record {
      terms = λ v. omega arith;
      grants = λ t v g e. e;
      winners = λ t c e. e;
      bases = λ t c e. refl;
      books = λ t. share_self (length (w.book t)) (w.book t) (omega arith);
      vote_requests = λ q h. h;
      votes = λ y h. h;
      orders = λ o h. h;
      acks = λ a h. h;
      acked = λ t v. omega arith;
      aggregates = λ a h. h;
      refusals = λ y h. h;
      nacks = λ y h. h;
      asked = λ rid h. h;
      bodies = λ rid h. h;
      table = ([], sym (append-nil w.table));
      reports = λ r h. h;
      passed = λ e h. h;
      replied = λ r h. h;
    }

-- what grew and grew again
pub grows_on : (w x y : ProtocolState) → Grows w x → Grows x y → Grows w y
grows_on w x y g h =
    record {
      terms = λ v. omega (arith, g.terms v, h.terms v);
      grants = λ t v e l. h.grants t v e (g.grants t v e l);
      winners = λ t c e. h.winners t c (g.winners t c e);
      bases = λ t c e. h.bases t c (g.winners t c e) ∙ g.bases t c e;
      books = λ t. let one = g.books t in share-trans (length (w.book t)) (w.book t) (x.book t) (y.book t) one (share_less (length (w.book t)) (length (x.book t)) (x.book t) (y.book t) one.there (h.books t));
      vote_requests = λ q l. h.vote_requests q (g.vote_requests q l);
      votes = λ z l. h.votes z (g.votes z l);
      orders = λ o l. h.orders o (g.orders o l);
      acks = λ a l. h.acks a (g.acks a l);
      acked = λ t v. omega (arith, g.acked t v, h.acked t v);
      aggregates = λ a l. h.aggregates a (g.aggregates a l);
      refusals = λ z l. h.refusals z (g.refusals z l);
      nacks = λ z l. h.nacks z (g.nacks z l);
      asked = λ rid l. h.asked rid (g.asked rid l);
      bodies = λ rid l. h.bodies rid (g.bodies rid l);
      table = (g.table.0 ++ h.table.0, h.table.1 ∙ (ap (λ (t : List Request). t ++ h.table.0) g.table.1 ∙ append_assoc w.table g.table.0 h.table.0));
      reports = λ r l. h.reports r (g.reports r l);
      passed = λ e l. h.passed e (g.passed e l);
      replied = λ r l. h.replied r (g.replied r l);
    }

pub rules_only_add : (w : ProtocolState) (rules : List Rule) → Kept w → AllAllowed w rules → Grows w (after_rules w rules)
rules_only_add w [] k a = nothing_grows w
rules_only_add w (r ∷ more) k a =
    grows_on w (after w r) (after_rules (after w r) more) (grows w k r a.0) (rules_only_add (after w r) more (steps_keep w r k a.0) a.1)

pub agreed_grows_on : (w : ProtocolState) (rules : List Rule) → Kept w → AllAllowed w rules → Share (length (agreed w)) (agreed w) (agreed (after_rules w rules))
agreed_grows_on w [] k a = share_self (length (agreed w)) (agreed w) (omega arith)
agreed_grows_on w (r ∷ more) k a =
    let one = agreed_grows w r k a.0 in
    let rest = agreed_grows_on (after w r) more (steps_keep w r k a.0) a.1 in
    share-trans (length (agreed w)) (agreed w) (agreed (after w r)) (agreed (after_rules (after w r) more)) one
    (share_less (length (agreed w)) (length (agreed (after w r))) (agreed (after w r)) (agreed (after_rules (after w r) more)) one.there rest)

pub rules_spare : (w : ProtocolState) (rules : List Rule) (u : ℕ) → AreOthers u rules → member_of (after_rules w rules) u ≡ member_of w u
rules_spare w [] u h = refl
rules_spare w (r ∷ more) u h = rules_spare (after w r) more u h.1 ∙ spares w r u h.0

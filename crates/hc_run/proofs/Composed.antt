-- Steps of a member, one list after another.
use Rattle.std.proofs.Common.{◌≡◌, ℕ, true, false, List, [], ◌∷◌, ◌++◌, refl, sym, ap, subst, ◌∙◌}
use Rattle.std.specs.Prelude.{All}
use Rattle.std.proofs.lemmas.List.Elements.{All-append, All-weaker}
use Rattle.r2_base.specs.declared.addr.Addr.{Addr}
use Rattle.hc_message.specs.declared.msg.Msg.{Msg}
use Rattle.hc_message.specs.declared.msg.Msg.TheVariants.{VoteReq, Vote, Order, Ack, Nack, AggCommit, RecoverAsk, RecoverBody}
use Rattle.hc_member.specs.declared.setup.Setup.{Setup}
use Rattle.hc_member.specs.declared.heard.Heard.{Heard}
use Rattle.hc_member.specs.declared.heard.Heard.TheVariants.{Nothing, Whole, Told, Recovered, Time}
use Rattle.hc_member.specs.Member.{Member}
use Rattle.hc_member.specs.Sending.{Sending, Tell, Recover, Reply as ReplyTo}
use Rattle.hc_member.specs.Setup.{own_address}
use Rattle.hc_rules.specs.Kept.{Kept}
use Rattle.hc_rules.specs.Message.{Passed, Report, Request}
use Rattle.hc_rules.specs.Parts.{Grows}
use Rattle.hc_rules.specs.Protocol.{ProtocolState}
use Rattle.hc_rules.specs.Rules.{Rule, SendRequest, after}
use Rattle.hc_rules.specs.Runs.{after_rules}
use Rattle.hc_rules.proofs.RuleLists.{allowed_in_parts, rules_answer, rules_keep, rules_only_add, steps_follow}
use Rattle.hc_run.specs.Backed.{IsAbout, IsBacked, IsHeardOf, IsSentAs}
use Rattle.hc_run.specs.Halves.{IsSteps, Stands}
use Rattle.hc_run.specs.Rows.{AreBy, ByMember, maker}
use Rattle.hc_run.specs.Shows.{IsShown}

-- a member's rules leave the table
leaves-table : (w : ProtocolState) (r : Rule) (v : ℕ) → maker r ≡ ByMember v → (after w r).table ≡ w.table
leaves-table w (SendRequest q) v e = absurd cc
leaves-table w r v e = refl

pub leave-table : (w : ProtocolState) (rules : List Rule) (v : ℕ) → AreBy (ByMember v) rules → (after_rules w rules).table ≡ w.table
leave-table w [] v own = refl
leave-table w (r ∷ more) v own = leave-table (after w r) more v own.1 ∙ leaves-table w r v own.0

-- what was sent stays
pub sent-grows : (members : List Addr) (w x : ProtocolState) → Grows w x → (to : Addr) (message : Msg) → IsSentAs members w to message → IsSentAs members x to message
sent-grows members w x g to (VoteReq a b c d) sent = g.vote_requests _ sent
sent-grows members w x g to (Vote a b true) sent = record { candidate = sent.candidate; member = sent.member; to_it = sent.to_it; sent = g.votes _ sent.sent }
sent-grows members w x g to (Vote a b false) sent = g.refusals _ sent
sent-grows members w x g to (Order a b c d e f h i) sent = g.orders _ sent
sent-grows members w x g to (Ack a b c d) sent = g.acks _ sent
sent-grows members w x g to (Nack a b c) sent = g.nacks _ sent
sent-grows members w x g to (AggCommit a b) sent = g.aggregates _ sent
sent-grows members w x g to (RecoverAsk a) sent = absurd sent
sent-grows members w x g to (RecoverBody a b) sent = absurd sent

pub backed-grows : (s : Setup) (w x : ProtocolState) → Grows w x → x.table ≡ w.table → (y : Sending) → IsBacked s w y → IsBacked s x y
backed-grows s w x g table (Tell to message) sent = sent-grows s.members w x g to message sent
backed-grows s w x g table (Recover to rid message) sent = subst (λ (t : List Request). IsAbout t rid message) (sym table) sent
backed-grows s w x g table (ReplyTo reply) sent = g.replied _ (rw table sent)

pub heard-grows : (s : Setup) (w x : ProtocolState) → Grows w x → x.table ≡ w.table → (said : Heard) → IsHeardOf s w said → IsHeardOf s x said
heard-grows s w x g table Nothing heard = tt
heard-grows s w x g table (Whole r) heard = rw table heard
heard-grows s w x g table (Told from message) heard = sent-grows s.members w x g (own_address s) message heard
heard-grows s w x g table (Recovered from rid message) heard = subst (λ (t : List Request). IsAbout t rid message) (sym table) heard
heard-grows s w x g table Time heard = tt

own-more : (v : ℕ) (first more : List Rule) → AreBy (ByMember v) first → AreBy (ByMember v) more → AreBy (ByMember v) (first ++ more)
own-more v [] more a b = b
own-more v (r ∷ first) more a b = (a.0, own-more v first more a.1 b)

-- steps, and others where they led
pub steps-then : (s : Setup) (w : ProtocolState) (m n : Member) (first more : List Sending) (done last : List Passed) (told after_all : List Report) → Kept w
    → (steps : IsSteps s w m first done told) → IsSteps s (after_rules w steps.rules) n more last after_all → IsSteps s w n (first ++ more) last after_all
steps-then s w m n first more done last told after_all kept steps rest =
    let one = steps.are in
    let two = rest.are in
    let v = after_rules w steps.rules in
    let u = after_rules v rest.rules in
    let follow : after_rules w (steps.rules ++ rest.rules) ≡ u = steps_follow w steps.rules rest.rules in
    let kept_v = rules_keep w steps.rules kept one.allowed in
    let grows = rules_only_add v rest.rules kept_v two.allowed in
    let table = leave-table v rest.rules s.me two.own in
    record {
      rules = steps.rules ++ rest.rules;
      are =
          record {
            own = own-more s.me steps.rules rest.rules one.own two.own;
            allowed = allowed_in_parts w steps.rules rest.rules one.allowed two.allowed;
            shown = subst (λ (x : ProtocolState). IsShown s x n) (sym follow) two.shown;
            backed = subst (λ (x : ProtocolState). All (IsBacked s x) (first ++ more)) (sym follow)
                (All-append (IsBacked s u) first more (All-weaker (IsBacked s v) (IsBacked s u) (backed-grows s v u grows table) first one.backed) two.backed);
            passed = ap (λ (x : ProtocolState). x.passed) follow ∙ two.passed;
            reports = ap (λ (x : ProtocolState). x.reports) follow ∙ two.reports;
          };
    }

-- where steps led, the member still stands
pub stands-then : (s : Setup) (w : ProtocolState) (m n : Member) (sends : List Sending) (done : List Passed) (told : List Report) → Stands s w m
    → (steps : IsSteps s w n sends done told) → Stands s (after_rules w steps.rules) n
stands-then s w m n sends done told stands steps =
    let are = steps.are in
    record {
      setup = stands.setup;
      kept = rules_keep w steps.rules stands.kept are.allowed;
      answered = rules_answer w steps.rules stands.kept stands.answered are.allowed;
      shown = are.shown;
    }

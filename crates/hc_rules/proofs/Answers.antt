-- Every run answers rightly, in order and within bounds.
use Rattle.std.proofs.Common.{◌≡◌, ◌⊎◌, inl, inr, true, length, ℕ, zero, suc, ◌<◌, ◌≤◌, List, [], refl, sym, ap, subst, ◌∙◌, arith, length-take-le}
use Rattle.r2_base.specs.declared.entry.Entry.{Entry}
use Rattle.r2_base.specs.Entry.{is_request}
use Rattle.hc_rules.specs.Log.{In, Share, entry_at}
use Rattle.hc_rules.specs.Message.{Request, Reply}
use Rattle.hc_rules.specs.Rules.{Rule}
use Rattle.hc_rules.specs.Protocol.{ProtocolState}
use Rattle.hc_rules.specs.Kept.{EachLog, Kept, Matches}
use Rattle.hc_rules.specs.Agreed.{IsCommittedFront, agreed}
use Rattle.hc_rules.specs.Laws.{AgreedWasAsked, AreGiven, AppliedIsAgreed, GivenWithinBounds, MembersApplyTheSame, IsAnswer, RepliesAreTheServices, RepliesAreInOrder, LeadersKeepTheBound}
use Rattle.hc_rules.specs.Replies.{Answered, IsRight}
use Rattle.hc_rules.specs.Requests.{At, IsListed}
use Rattle.hc_rules.specs.Runs.{IsRun, state_after}
use Rattle.hc_rules.specs.Protocol.{beginning, unreported}
use Rattle.hc_rules.proofs.Agreement.{agreed_is, has_at}
use Rattle.hc_rules.proofs.Bounds.{given_by_books}
use Rattle.hc_rules.proofs.Commits.{entry_shared}
use Rattle.hc_rules.proofs.Logs.{each_weaken}
use Rattle.hc_rules.proofs.Replied.{reply_shared}
use Rattle.hc_rules.proofs.RuleLists.{rules_answer, rules_keep, same_group}
use Rattle.hc_rules.proofs.Shares.{share_less, share_none, share_take, share-sym, share-trans}
use Rattle.hc_rules.proofs.Steps.{begins}

pub begins_answered : (members : ℕ) (bounds : ℕ → ℕ) → Answered (beginning members bounds)
begins_answered members bounds =
    record {
      replies_are_right = λ r h. absurd h;
      places_are_within = λ r h. absurd h;
      later_requests_stand_behind = λ r h. absurd h;
      leaders_are_bounded = λ v p h. cc;
      requests_are_given = λ t k h. absurd (omega (arith, h));
    }

pub runs_keep : (members : ℕ) (bounds : ℕ → ℕ) (rules : List Rule) → IsRun members bounds rules → Kept (state_after members bounds rules)
runs_keep members bounds rules r = rules_keep (beginning members bounds) rules (begins members bounds) r.allowed

pub runs_answer : (members : ℕ) (bounds : ℕ → ℕ) (rules : List Rule) → IsRun members bounds rules → Answered (state_after members bounds rules)
runs_answer members bounds rules r = rules_answer (beginning members bounds) rules (begins members bounds) (begins_answered members bounds) r.allowed

pub applied_is_agreed : AppliedIsAgreed
applied_is_agreed members bounds rules r x h =
    let k = runs_keep members bounds rules r in
    has_at (state_after members bounds rules) k x.index x.entry (k.commitments.passed_was_committed x h)

pub members_apply_the_same : MembersApplyTheSame
members_apply_the_same members bounds rules r x y h l e =
    let one = applied_is_agreed members bounds rules r x h in
    let two = applied_is_agreed members bounds rules r y l in
    sym one.is ∙ (ap (entry_at (agreed (state_after members bounds rules))) e ∙ two.is)

pub answer_of : (w : ProtocolState) → Kept w → (r : Reply) → IsRight w.size w.winner w.book w.acks w.table r → IsAnswer w r
answer_of w k r h =
    let front = (agreed_is w k).has_all h.term h.end h.committed in
    let same = entry_shared h.end r.index (agreed w) (w.book h.term) front h.low in
    record {
      stands = record { first = h.first; within = omega (arith, h.low, front.here); is = refl };
      named = ap (λ (e : Entry). e.rid) same ∙ h.named;
      right = reply_shared w.table h.end (agreed w) (w.book h.term) front r.index h.low ∙ h.right;
    }

pub replies_are_the_services : RepliesAreTheServices
replies_are_the_services members bounds rules r x h =
    answer_of (state_after members bounds rules) (runs_keep members bounds rules r) x ((runs_answer members bounds rules r).replies_are_right x h)

in_order : (w : ProtocolState) → Answered w → (earlier later : Reply) (place : ℕ) (q : Request) → In earlier w.replied → In later w.replied → At w.table place q → later.request ≡ q.rid → earlier.place ≤ place → earlier.index < later.index
in_order w a earlier later place q h l at named behind =
    let right = a.replies_are_right later l in
    a.later_requests_stand_behind earlier h right.term right.end later.index place q right.committed right.first right.low right.asks (right.named ∙ named) at behind

pub replies_are_in_order : RepliesAreInOrder
replies_are_in_order members bounds rules r earlier later place q h l at named behind =
    in_order (state_after members bounds rules) (runs_answer members bounds rules r) earlier later place q h l at named behind

pub leaders_keep_the_bound : LeadersKeepTheBound
leaders_keep_the_bound members bounds rules r v p leads =
    subst (λ (b : ℕ → ℕ). length (unreported (state_after members bounds rules) v p) ≤ b p) (same_group (beginning members bounds) rules).bound ((runs_answer members bounds rules r).leaders_are_bounded v p leads)

given_of : (w : ProtocolState) → Kept w → Answered w → EachLog (AreGiven w.size w.bound) w.log w.base w.book w.granted
given_of w k a = each_weaken w.log w.base w.book w.granted (Matches w.book) (AreGiven w.size w.bound) (given_by_books w k a.requests_are_given) k.logs.logs_match_books

pub given_within_bounds : GivenWithinBounds
given_within_bounds members bounds rules r =
    let w = state_after members bounds rules in
    let same = same_group (beginning members bounds) rules in
    subst
    (λ (n : ℕ). EachLog (AreGiven n bounds) w.log w.base w.book w.granted)
    same.size
    (subst (λ (b : ℕ → ℕ). EachLog (AreGiven w.size b) w.log w.base w.book w.granted) same.bound (given_of w (runs_keep members bounds rules r) (runs_answer members bounds rules r)))

-- a request of a committed prefix is one of the table
asked_in : (w : ProtocolState) → Kept w → (log : List Entry) (t m : ℕ) → Share m log (w.book t) → (index : ℕ) → 1 ≤ index → index ≤ m
    → is_request (entry_at log index).kind ≡ true → IsListed w.table (entry_at log index)
asked_in w k log t m shares zero first low asks = absurd (omega (arith, first))
asked_in w k log t m shares (suc i) first low asks =
    let same = entry_shared m (suc i) log (w.book t) shares low in
    subst
    (IsListed w.table)
    (sym same)
    ((k.logs.logs_are_formed.of_book t).listed i (omega (arith, low, shares.there)) (sym (ap (λ (x : Entry). is_request x.kind) same) ∙ asks))

asked_of : (w : ProtocolState) → Kept w → (log : List Entry) → ((log ≡ []) ⊎ IsCommittedFront w log) → (index : ℕ) → 1 ≤ index → index ≤ length log
    → is_request (entry_at log index).kind ≡ true → IsListed w.table (entry_at log index)
asked_of w k log (inl e) index first low asks = absurd (omega (arith, first, low, ap (length {A = Entry}) e))
asked_of w k log (inr f) index first low asks =
    let long = ap (length {A = Entry}) f.is ∙ length-take-le f.index (w.book f.term) f.committed.within in
    let shares : Share f.index log (w.book f.term) =
    subst (λ (xs : List Entry). Share f.index xs (w.book f.term)) (sym f.is) (share_take f.index f.index (w.book f.term) (omega arith) f.committed.within) in
    asked_in w k log f.term f.index shares index first (omega (arith, low, long)) asks

pub agreed_was_asked : AgreedWasAsked
agreed_was_asked members bounds rules r =
    let w = state_after members bounds rules in
    let k = runs_keep members bounds rules r in
    asked_of w k (agreed w) (agreed_is w k).is_one

pub committed_is_agreed : (w : ProtocolState) → Kept w → (v : ℕ) → Share (w.commit v) (w.log v) (agreed w)
committed_is_agreed w k v = by (w.commit v) refl
  where
    by : (n : ℕ) → w.commit v ≡ n → Share n (w.log v) (agreed w)
    by zero e = share_none (w.log v) (agreed w)
    by (suc n) e =
        let was = k.commitments.commits_are_committed v (omega (arith, e)) in
        let mine = subst (λ (c : ℕ). Share c (w.log v) (w.book was.term)) e was.same in
        let has = (agreed_is w k).has_all was.term was.index was.committed in
        share-trans (suc n) (w.log v) (w.book was.term) (agreed w) mine
        (share-sym (suc n) (agreed w) (w.book was.term) (share_less (suc n) was.index (agreed w) (w.book was.term) (omega (arith, e, was.low)) has))

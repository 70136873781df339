-- A group that runs serves as one thread.
use Rattle.std.proofs.Common.{◌≡◌, ℕ, zero, suc, ◌-◌, ◌<◌, ◌≤◌, ◌⊎◌, inl, inr, true, List, [], length, take, get_or, Some, refl, sym, ap, subst, ◌∙◌, arith}
use Rattle.std.specs.Prelude.{All}
use Rattle.std.proofs.lemmas.List.{ext_get_or, get_or-take, length-take-le}
use Rattle.std.proofs.lemmas.List.Elements.{All-get_or}
use Rattle.r2_base.specs.declared.entry.Entry.{Entry}
use Rattle.r2_base.specs.Entry.{is_request}
use Rattle.hc_log.specs.declared.stored.Stored.{Stored}
use Rattle.hc_log.specs.Log.{blank_of, metas_of, stored_at}
use Rattle.hc_store.specs.Replies.{Operation, reply_at}
use Rattle.hc_service.specs.Entries.{IsReplayed}
use Rattle.hc_member.specs.Member.{Member}
use Rattle.hc_rules.specs.Agreed.{IsCommittedFront, agreed}
use Rattle.hc_rules.specs.Laws.{AreGiven}
use Rattle.hc_rules.specs.Log.{In, Share, entry_at}
use Rattle.hc_rules.specs.Message.{Passed as WorldPassed, Reply, Request}
use Rattle.hc_rules.specs.Protocol.{Leader, ProtocolState, unreported}
use Rattle.hc_rules.specs.Requests.{At, entry_body, operations as world_operations}
use Rattle.hc_rules.proofs.Agreement.{agreed_is}
use Rattle.hc_rules.proofs.Answers.{answer_of}
use Rattle.hc_rules.proofs.Commits.{entry_shared}
use Rattle.hc_rules.proofs.Replied.{reply_shared}
use Rattle.hc_rules.proofs.Shares.{share_take}
use Rattle.hc_run.specs.Group.{Group, IsGroup}
use Rattle.hc_run.specs.State.{GroupState, Passed, member_at}
use Rattle.hc_run.specs.AsOne.{AreAfterReplies, AreInOrder, IsBounded, IsReplyOf, Serves}
use Rattle.hc_run.specs.Held.{IsWhole, owed}
use Rattle.hc_run.specs.OneList.{applied_list, greatest_passed}
use Rattle.hc_run.specs.Shows.{Shows}
use Rattle.hc_run.specs.StepLaws.{bounds_of}
use Rattle.hc_run.specs.Tied.{passed_in, role_in}
use Rattle.hc_run.proofs.Assembled.{up-stands}
use Rattle.hc_run.proofs.Gaps.{HasNoGaps}
use Rattle.hc_run.proofs.Items.{holds-in, made-of}
use Rattle.hc_run.proofs.Metas.{entry-metas}
use Rattle.hc_run.proofs.OneList as list
use Rattle.hc_run.proofs.OneList.{greatest-over, index-of, stored-equal}
use Rattle.hc_run.proofs.ReplyFacts.{RepliesWerePassed}
use Rattle.hc_run.proofs.TableBodies.{IsDistinct, body-of, operations-whole}
use Rattle.hc_run.proofs.WholeBodies.{AreWhole, log-whole}

module _ (g : Group) (w : ProtocolState) (s : GroupState) (is : IsGroup g) (shows : Shows g w s) (whole : AreWhole s) (none : HasNoGaps w) where
  abbrev top : ℕ
  top = greatest_passed s.passed

  -- an entry of the list is the agreed list's
  same-entry : (index : ℕ) → 0 < index → index ≤ top → (stored_at (applied_list s) index).entry ≡ entry_at (agreed w) index
  same-entry zero set low = absurd (omega (arith, set))
  same-entry (suc k) set low =
      let less : k < top = omega (arith, low) in
      let e : suc k - 1 ≡ k = omega arith in
      rw e (sym (entry-metas (applied_list s) k) ∙ list.agreed-entry g w s shows whole none k less)

  -- Replies --

  -- a reply's index is one of the list's
  reply-within : RepliesWerePassed w → (r : Reply) → In r w.replied → r.index ≤ top
  reply-within were r there =
      let one = were r there in
      let made = made-of passed_in one.x s.passed (subst (λ (l : List WorldPassed). In one.x l) shows.passed one.there) in
      let index = index-of one.x s.passed made in
      let at = one.at in
      let most = greatest-over s.passed made.item made.there in
      omega (arith, index, at, most)

  pub reply-is : RepliesWerePassed w → (bodies : All (IsWhole s.table) (applied_list s)) → (r : Reply) → In r w.replied → IsReplyOf (applied_list s) r
  reply-is were bodies r there =
      let kept = shows.kept in
      let answered = shows.answered in
      let right = answered.replies_are_right r there in
      let answer = answer_of w kept r right in
      let requests = kept.requests in
      let front = (agreed_is w kept).has_all right.term right.end right.committed in
      let size = list.size g w s shows whole none in
      let within = reply-within were r there in
      let shared = list.shared g w s shows whole none in
      let distinct = subst IsDistinct shows.table requests.table_is_distinct in
      let entry : (stored_at (applied_list s) r.index).entry ≡ entry_at (agreed w) r.index = same-entry r.index right.first within in
      let book : entry_at (agreed w) r.index ≡ entry_at (w.book right.term) r.index = entry_shared right.end r.index (agreed w) (w.book right.term) front right.low in
      record {
        first = right.first;
        within = omega (arith, within, size);
        asks = rw (entry, book) right.asks;
        named = ap (λ (e : Entry). e.rid) entry ∙ answer.named;
        right =
            ap (λ (l : List Operation). reply_at l r.index) (sym (operations-whole s.table (applied_list s) distinct bodies))
            ∙ reply_shared s.table (length (applied_list s)) (metas_of (applied_list s)) (agreed w) shared r.index (omega (arith, within, size))
            ∙ subst (λ (t : List Request). reply_at (world_operations t (agreed w)) r.index ≡ Some r.payload) shows.table answer.right;
      }

  -- Entries --

  -- an entry of the list is one of a committed prefix of a term's book
  entry-after : (list : List Entry) → (list ≡ []) ⊎ IsCommittedFront w list → (index place : ℕ) (r : Reply) (q : Request) → In r w.replied → At w.table place q → r.place ≤ place
      → 0 < index → index ≤ length list → is_request (entry_at list index).kind ≡ true → (entry_at list index).rid ≡ q.rid → r.index < index
  entry-after list (inl none) index place r q a at before first within asks named = absurd (omega (arith, first, within, ap (length {A = Entry}) none))
  entry-after list (inr front) index place r q a at before first within asks named =
      let answered = shows.answered in
      let committed = front.committed in
      let there = committed.within in
      let size : length list ≡ front.index = ap (length {A = Entry}) front.is ∙ length-take-le front.index (w.book front.term) there in
      let shares : Share front.index list (w.book front.term) =
      subst (λ (l : List Entry). Share front.index l (w.book front.term)) (sym front.is) (share_take front.index front.index (w.book front.term) (omega arith) there) in
      let low : index ≤ front.index = omega (arith, within, size) in
      let same = entry_shared front.index index list (w.book front.term) shares low in
      answered.later_requests_stand_behind r a front.term front.index index place q committed first low
      (sym (ap (λ (e : Entry). is_request e.kind) same) ∙ asks) (sym (ap (λ (e : Entry). e.rid) same) ∙ named) at before

  pub after-replies : AreAfterReplies s.table (applied_list s) s.replied
  after-replies r place index q a at before one =
      let kept = shows.kept in
      let size = list.size g w s shows whole none in
      let most = list.top-within g w s shows whole none in
      let within = one.within in
      let low : index ≤ top = omega (arith, within, size) in
      let entry = same-entry index one.first low in
      entry-after (agreed w) (agreed_is w kept).is_one index place r q (shows.replied r a) (rw shows.table at) before one.first (omega (arith, low, most))
      (sym (ap (λ (e : Entry). is_request e.kind) entry) ∙ one.asks) (sym (ap (λ (e : Entry). e.rid) entry) ∙ one.named)

  -- a reply is at its request's entry
  pub in-order : ((r : Reply) → In r s.replied → IsReplyOf (applied_list s) r) → AreInOrder s.table s.replied
  in-order are earlier later place q a b at named before =
      let is = are later b in
      after-replies earlier place later.index q a at before
      (record { first = is.first; within = is.within; asks = is.asks; named = is.named ∙ named })

  -- Services --

  module _ (v : ℕ) (m : Member) (up : member_at s v ≡ Some m) where
    -- what a member applied is the list's
    applied-item : (k : ℕ) → k < m.applied → (k < top) × (get_or m.log k (blank_of 0) ≡ get_or (applied_list s) k (blank_of 0))
    applied-item k less =
        let kept = shows.kept in
        let here = up-stands g w s v m is shows up in
        let stands = here.stands in
        let shown = stands.shown in
        let tied = shown.tied in
        let sound = shown.sound in
        let committed = sound.committed in
        let batch = sound.batch in
        let that : WorldPassed = record { member = v; index = suc k; entry = entry_at (w.log v) (suc k) } in
        let done = kept.commitments.applied_was_passed v k (rw tied.applied less) in
        let made = made-of passed_in that s.passed (subst (λ (l : List WorldPassed). In that l) shows.passed done) in
        let y = made.item in
        let index : y.index ≡ suc k = index-of that s.passed made in
        let most = greatest-over s.passed y made.there in
        let below : k < top = omega (arith, index, most) in
        let x = get_or m.log k (blank_of 0) in
        let requests = kept.requests in
        let distinct = subst IsDistinct shows.table requests.table_is_distinct in
        let entry : x.entry ≡ y.stored.entry = sym (entry-metas m.log k) ∙ ap (λ (l : List Entry). entry_at l (suc k)) (sym tied.log) ∙ ap (λ (z : WorldPassed). z.entry) made.made in
        let these = body-of s.table x distinct (All-get_or (IsWhole s.table) m.log k (blank_of 0) (omega (arith, less, batch, committed)) (log-whole g w s v m shows up)) in
        let those = body-of s.table y.stored distinct (holds-in (λ (z : Passed). IsWhole s.table z.stored) y s.passed whole made.there) in
        let stored : x ≡ y.stored = stored-equal x.entry y.stored.entry x.body y.stored.body entry (sym these ∙ (ap (entry_body s.table) entry ∙ those)) in
        let found = list.found g w s shows whole none k below in (
          below,
          stored ∙ list.same-stored g w s shows whole none y found.newest made.there found.there (index ∙ sym found.place)
              ∙ sym (list.found-item g w s shows whole none k (blank_of 0) below),
        )

    applied-within : m.applied ≤ top
    applied-within = by m.applied refl
      where
        by : (n : ℕ) → m.applied ≡ n → n ≤ top
        by zero e = omega arith
        by (suc k) e = let one = (applied-item k (omega (arith, e))).0 in omega (arith, one)

    pub serves : Serves (applied_list s) v m
    serves =
        let here = up-stands g w s v m is shows up in
        let stands = here.stands in
        let shown = stands.shown in
        let sound = shown.sound in
        let committed = sound.committed in
        let batch = sound.batch in
        let size = list.size g w s shows whole none in
        let most = applied-within in
        let n = m.applied in
        let first = length-take-le n m.log (omega (arith, batch, committed)) in
        let second = length-take-le n (applied_list s) (omega (arith, most, size)) in
        let prefix : take n m.log ≡ take n (applied_list s) = ext_get_or (blank_of 0) (take n m.log) (take n (applied_list s)) (first ∙ sym second)
        (λ k inside.
        let less : k < n = omega (arith, inside, first) in
        get_or-take n m.log k (blank_of 0) less ∙ (applied-item k less).1 ∙ sym (get_or-take n (applied_list s) k (blank_of 0) less)) in
        record { within = omega (arith, most, size); prefix = prefix; service = subst (λ (l : List Stored). IsReplayed v l m.service) prefix sound.service }

    -- Bounds --

    pub bounded : AreGiven (length g.members) (bounds_of g) (w.log v) → IsBounded g s.reports v m
    bounded given =
        let here = up-stands g w s v m is shows up in
        let stands = here.stands in
        let shown = stands.shown in
        let tied = shown.tied in
        let group = shows.group in
        let answered = shows.answered in
        record {
          owes = λ leads p.
              let role : w.role v ≡ Leader = tied.role ∙ ap role_in leads in
              let most = answered.leaders_are_bounded v p role in
              let same : unreported w v p ≡ owed s.reports v m p = rw (tied.term, tied.log, shows.reports) refl in
              let bound = group.bound p in
              rw (sym same, sym bound) most;
          given = subst (AreGiven (length g.members) (bounds_of g)) tied.log given;
        }

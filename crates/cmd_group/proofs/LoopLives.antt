-- A loop of a replica is a life, however it ended.
use Rattle.std.proofs.Common.{◌≡◌, ℕ, zero, suc, ◌≤◌, List, [], ◌∷◌, ◌++◌, refl, sym, ap, subst, ◌∙◌, arith, append_assoc, append-nil, inl, inr}
use Rattle.std.specs.Prelude.{fold, replicate}
use Rattle.std.proofs.lemmas.List.{append_cancel_left}
use Rattle.r2_base.specs.declared.datagram.Datagram.{Datagram}
use Rattle.r2_base.specs.declared.event.Event.{Event}
use Rattle.r2_link.specs.declared.lane.Item.{Item}
use Rattle.hc_log.specs.declared.record.Record.{Record}
use Rattle.hc_log.specs.Durable.{replay}
use Rattle.hc_member.specs.declared.setup.Setup.{Setup}
use Rattle.hc_member.specs.Finish.{finished}
use Rattle.hc_member.specs.Member.{Member, anew}
use Rattle.hc_member.specs.Sending.{datagrams_of_all}
use Rattle.hc_member.specs.Turn.{turned}
use Rattle.cmd_status.specs.declared.status.Status.{Status}
use Rattle.cmd_status.specs.declared.status.Status.TheVariants as status
use Rattle.cmd_loop.specs.declared.pace.Pace.{Pace}
use Rattle.cmd_loop.specs.Ends.{Ends, Passes, nothing, passing}
use Rattle.cmd_loop.specs.Events.{events}
use Rattle.cmd_loop.specs.Happenings.{Happening, Came, Closing, came, closed}
use Rattle.cmd_loop.specs.Loop.{Ended, EndsBetween, GivesPart, LosesTurn}
use Rattle.cmd_loop.specs.Party.{records_of}
use Rattle.cmd_loop.specs.Round.{Makes}
use Rattle.cmd_replica.specs.Replica.{ReplicaServes, ReplicaServesAll, Served, serve_one, served, unserved}
use Rattle.cmd_replica.specs.Party.{served-push}
use Rattle.cmd_group.specs.Members.{AreFirst, closing_sends, turn_sends}
use Rattle.cmd_group.specs.Lives.{Ending, Stopped, Broken, Closed, IsEnd, IsLife, Life, sent_in, stored_in}
use Rattle.cmd_group.specs.LoopLives.{HasLife, KeepsRecord, LoopsAreLives, LostRecordsMayStay, taken_in}

-- Lists --

-- a list by its last item
record IsPushed {A : Type 0} (xs ys : List A) (x y : A) : Type 0 where
  before : xs ≡ ys
  last : x ≡ y

push-same : {A : Type 0} (xs ys : List A) (x y : A) → xs ++ x ∷ [] ≡ ys ++ y ∷ [] → IsPushed xs ys x y
push-same [] [] x y e = record { before = refl; last = cc }
push-same [] (b ∷ []) x y e = absurd cc
push-same [] (b ∷ c ∷ ys) x y e = absurd cc
push-same (a ∷ []) [] x y e = absurd cc
push-same (a ∷ c ∷ xs) [] x y e = absurd cc
push-same {A = A} (a ∷ xs) (b ∷ ys) x y e =
    let rest = push-same xs ys x y cc in
    let first : a ≡ b = cc in
    let later = rest.before in
    record { before = λ k. first k ∷ later k; last = rest.last }

-- events of which the last one is what happened last
record IsCame (es : List Event) (before : List Happening) (last : Happening) : Type 0 where
  first : List Event
  event : Event
  all : es ≡ first ++ event ∷ []
  before_of : before ≡ came first
  last_of : last ≡ Came event

came-last : (es : List Event) (before : List Happening) (last : Happening) → came es ≡ before ++ last ∷ [] → IsCame es before last
came-last [] [] last e = absurd cc
came-last [] (h ∷ before) last e = absurd cc
came-last (x ∷ []) [] last e = record { first = []; event = x; all = refl; before_of = refl; last_of = cc }
came-last (x ∷ y ∷ es) [] last e = absurd cc
came-last (x ∷ es) (h ∷ before) last e =
    let rest = came-last es before last cc in
    let head : h ≡ Came x = cc in
    let all = rest.all in
    let front = rest.before_of in
    record { first = x ∷ rest.first; event = rest.event; all = λ k. x ∷ all k; before_of = λ k. head k ∷ front k; last_of = rest.last_of }

-- Closing turns --

closings-last : (n : ℕ) → replicate n Closing ++ Closing ∷ [] ≡ Closing ∷ replicate n Closing
closings-last zero = refl
closings-last (suc n) = ap (λ (l : List Happening). Closing ∷ l) (closings-last n)

closed-after : (n : ℕ) (happened : List Happening) → closed n happened ≡ happened ++ replicate n Closing
closed-after zero happened = sym (append-nil happened)
closed-after (suc n) happened =
    ap (λ (l : List Happening). l ++ Closing ∷ []) (closed-after n happened)
    ∙ append_assoc happened (replicate n Closing) (Closing ∷ [])
    ∙ ap (λ (l : List Happening). happened ++ l) (closings-last n)

module _ (s : Setup) where
  serves-more : (so_far : Served) (happened more : List Happening) → fold (serve_one s) so_far (happened ++ more) ≡ fold (serve_one s) (fold (serve_one s) so_far happened) more
  serves-more so_far [] more = refl
  serves-more so_far (h ∷ happened) more = serves-more (serve_one s so_far h) happened more

  -- so many turns after the end store nothing, and send what is pending
  record HasClosed (so_far after : Served) (n : ℕ) : Type 0 where
    stored : after.stored ≡ so_far.stored
    sent : after.sent ≡ so_far.sent ++ closing_sends s so_far.member n

  closings : (n : ℕ) (so_far : Served) → HasClosed so_far (fold (serve_one s) so_far (replicate n Closing)) n
  unfolding closing_sends
  closings zero so_far = record { stored = refl; sent = sym (append-nil so_far.sent) }
  closings (suc n) so_far =
      let next = serve_one s so_far Closing in
      let rest = closings n next in
      record {
        stored = rest.stored ∙ append-nil so_far.stored;
        sent = rest.sent ∙ append_assoc so_far.sent (datagrams_of_all s (finished s so_far.member).sends) (closing_sends s next.member n);
      }

  closed-serves : (m : Member) (happened : List Happening) (n : ℕ) → HasClosed (served s m happened) (served s m (closed n happened)) n
  unfolding served
  closed-serves m happened n =
      subst (λ (so_far : Served). HasClosed (fold (serve_one s) (unserved m) happened) so_far n)
      (sym (ap (fold (serve_one s) (unserved m)) (closed-after n happened) ∙ serves-more (unserved m) happened (replicate n Closing)))
      (closings n (fold (serve_one s) (unserved m) happened))

  -- Lives --

  module _ (from : List Record) (pace : Pace) (old new : Ends) where
    abbrev first : Member
    first = anew (replay from)

    abbrev after : List Event → Served
    after es = served s (anew (replay from)) (came es)

    abbrev R : List Happening → List Record → List Datagram → Type 0
    R = ReplicaServes s (replay from)

    abbrev lived : List Event → Ending → Life
    lived es ending = record { records = from; events = es; ending = ending }

    has-life : (items : List Item) (moments : List ℕ) (life : Life) (left : List Event) (stored kept : List Record) (sent : List Datagram) → life.records ≡ from → IsLife s life → IsEnd life.ending
        → events pace.tick_ms items moments ≡ taken_in life ++ left → stored_in s life ≡ stored ++ kept → sent ≡ sent_in s life → Passes old new (passing items moments stored sent)
        → HasLife s from pace old new items moments kept
    has-life items moments life left stored kept sent begins is over taken journal same passed =
        record {
          life = life;
          begins = begins;
          is = is;
          over = over;
          left = left;
          taken = taken;
          stored = stored;
          journal = journal;
          passed = subst (λ (l : List Datagram). Passes old new (passing items moments stored l)) same passed;
        }

    -- it is over between two turns
    stopped-life : (items : List Item) (moments : List ℕ) (es left : List Event) → events pace.tick_ms items moments ≡ es ++ left → Makes (R (came es)) old new items moments
        → HasLife s from pace old new items moments []
    stopped-life items moments es left taken made =
        let right = made.right in
        has-life items moments (lived es Stopped) left made.stored [] made.sends refl tt tt
        (taken ∙ ap (λ (l : List Event). l ++ left) (sym (append-nil es)))
        (ap (λ (l : List Record). l ++ []) (sym right.0))
        (right.1 ∙ sym (append-nil (after es).sent))
        made.passed

    whole : (items : List Item) (moments : List ℕ) → Makes (R (came (events pace.tick_ms items moments))) old new items moments → HasLife s from pace old new items moments []
    whole items moments made =
        let es = events pace.tick_ms items moments in
        stopped-life items moments es [] (sym (append-nil es)) made

    -- after turns after the end of its link, of the last of which a prefix was sent
    closed-life : (items : List Item) (moments : List ℕ) (times : ℕ) (stored : List Record) (gone : List Datagram) (sent : List Datagram) → 1 ≤ times
        → AreFirst gone (closing_sends s (after (events pace.tick_ms items moments)).member times) → stored ≡ (after (events pace.tick_ms items moments)).stored
        → sent ≡ (after (events pace.tick_ms items moments)).sent ++ gone → Passes old new (passing items moments stored sent) → HasLife s from pace old new items moments []
    closed-life items moments times stored gone sent some are same goes passed =
        let es = events pace.tick_ms items moments in
        has-life items moments (lived es (Closed times gone)) [] stored [] sent refl (some, are) tt
        (sym (append-nil es) ∙ ap (λ (l : List Event). l ++ []) (sym (append-nil es)))
        (ap (λ (l : List Record). l ++ []) (sym same))
        goes passed

    -- so many turns after the end were made whole
    closed-whole : (items : List Item) (moments : List ℕ) (times : ℕ) → 1 ≤ times → Makes (R (closed times (came (events pace.tick_ms items moments)))) old new items moments
        → HasLife s from pace old new items moments []
    closed-whole items moments times some made =
        let es = events pace.tick_ms items moments in
        let right = made.right in
        let did = closed-serves first (came es) times in
        let all = closing_sends s (after es).member times in
        closed-life items moments times made.stored all made.sends some (record { unsent = []; split = sym (append-nil all) }) (right.0 ∙ did.stored) (right.1 ∙ did.sent) made.passed

    -- Turns that were sent in part --

    -- the turn of an event
    last-serves : (es : List Event) (before : List Happening) (last : Happening) (e : came es ≡ before ++ last ∷ []) (one : IsCame es before last)
        → served s first (came es) ≡ serve_one s (after one.first) (Came one.event)
    last-serves es before last e one =
        ap (served s first)
        (e ∙ ap (λ (l : List Happening). l ++ last ∷ []) one.before_of ∙ ap (λ (h : Happening). came one.first ++ h ∷ []) one.last_of)
        ∙ served-push s first (came one.first) (Came one.event)

    part-of-event : (items : List Item) (moments : List ℕ) → GivesPart R (came (events pace.tick_ms items moments)) old new items moments → HasLife s from pace old new items moments []
    part-of-event items moments part =
        let es = events pace.tick_ms items moments in
        let is_last = part.is_last in
        let one = came-last es part.before part.last is_last.last_of in
        let so_far = after one.first in
        let e = one.event in
        let turn = last-serves es part.before part.last is_last.last_of one in
        let right = part.right in
        let before : R (came one.first) part.records part.earlier = subst (λ (l : List Happening). R l part.records part.earlier) one.before_of part.right_before in
        let stored : part.records ++ part.stored ≡ so_far.stored ++ records_of (turned s so_far.member e).stored = right.0 ∙ ap (λ (x : Served). x.stored) turn in
        let sent : part.earlier ++ (part.sent ++ part.unsent) ≡ so_far.sent ++ turn_sends s so_far.member e = right.1 ∙ ap (λ (x : Served). x.sent) turn in
        let rest : turn_sends s so_far.member e ≡ part.sent ++ part.unsent =
        append_cancel_left so_far.sent (turn_sends s so_far.member e) (part.sent ++ part.unsent) (sym sent ∙ ap (λ (l : List Datagram). l ++ (part.sent ++ part.unsent)) before.1) in
        has-life items moments (lived one.first (Broken e part.sent)) [] (part.records ++ part.stored) [] (part.earlier ++ part.sent) refl
        (record { unsent = part.unsent; split = rest })
        tt
        (one.all ∙ sym (append-nil (one.first ++ e ∷ [])))
        (sym stored ∙ sym (append-nil (part.records ++ part.stored)))
        (ap (λ (l : List Datagram). l ++ part.sent) before.1)
        part.passed

    -- a turn after the end
    part-of-closing : (items : List Item) (moments : List ℕ) (n : ℕ) → GivesPart R (closed (suc n) (came (events pace.tick_ms items moments))) old new items moments → HasLife s from pace old new items moments []
    part-of-closing items moments n part =
        let es = events pace.tick_ms items moments in
        let is_last = part.is_last in
        let m = (after es).member in
        let so_far = after es in
        let pushed = push-same (closed n (came es)) part.before Closing part.last is_last.last_of in
        let before : R (closed n (came es)) part.records part.earlier = subst (λ (l : List Happening). R l part.records part.earlier) (sym pushed.before) part.right_before in
        let right = part.right in
        let fewer = closed-serves first (came es) n in
        let did = closed-serves first (came es) (suc n) in
        let some = closing_sends s m n in
        let earlier : part.earlier ≡ so_far.sent ++ some = before.1 ∙ fewer.sent in
        let all : part.earlier ++ (part.sent ++ part.unsent) ≡ so_far.sent ++ closing_sends s m (suc n) = right.1 ∙ did.sent in
        let rest : closing_sends s m (suc n) ≡ (some ++ part.sent) ++ part.unsent =
        append_cancel_left so_far.sent (closing_sends s m (suc n)) ((some ++ part.sent) ++ part.unsent)
        (sym all
        ∙ ap (λ (l : List Datagram). l ++ (part.sent ++ part.unsent)) earlier
        ∙ append_assoc so_far.sent some (part.sent ++ part.unsent)
        ∙ ap (λ (l : List Datagram). so_far.sent ++ l) (sym (append_assoc some part.sent part.unsent))) in
        closed-life items moments (suc n) (part.records ++ part.stored) (some ++ part.sent) (part.earlier ++ part.sent) (omega arith)
        (record { unsent = part.unsent; split = rest })
        (right.0 ∙ did.stored)
        (ap (λ (l : List Datagram). l ++ part.sent) earlier ∙ append_assoc so_far.sent some part.sent)
        part.passed

    part-life : (items : List Item) (moments : List ℕ) (closings : ℕ) → GivesPart R (closed closings (came (events pace.tick_ms items moments))) old new items moments → HasLife s from pace old new items moments []
    part-life items moments zero part = part-of-event items moments part
    part-life items moments (suc n) part = part-of-closing items moments n part

    -- Turns that were lost --

    -- the turn of an event
    lost-event : (items : List Item) (moments : List ℕ) → LosesTurn R (came (events pace.tick_ms items moments)) old new items moments → HasLife s from pace old new items moments []
    lost-event items moments loses =
        let es = events pace.tick_ms items moments in
        let is_last = loses.is_last in
        let one = came-last es loses.before loses.last is_last.last_of in
        stopped-life items moments one.first (one.event ∷ []) one.all (subst (λ (l : List Happening). Makes (R l) old new items moments) one.before_of loses.made)

    -- a turn after the end, of which so many were whole
    lost-closing : (items : List Item) (moments : List ℕ) (n : ℕ) → Makes (R (closed n (came (events pace.tick_ms items moments)))) old new items moments → HasLife s from pace old new items moments []
    lost-closing items moments zero made = whole items moments made
    lost-closing items moments (suc n) made = closed-whole items moments (suc n) (omega arith) made

    lost-life : (items : List Item) (moments : List ℕ) (closings : ℕ) → LosesTurn R (closed closings (came (events pace.tick_ms items moments))) old new items moments → HasLife s from pace old new items moments []
    lost-life items moments zero loses = lost-event items moments loses
    lost-life items moments (suc n) loses =
        let es = events pace.tick_ms items moments in
        let is_last = loses.is_last in
        let pushed = push-same (closed n (came es)) loses.before Closing loses.last is_last.last_of in
        lost-closing items moments n (subst (λ (l : List Happening). Makes (R l) old new items moments) (sym pushed.before) loses.made)

    -- the record of the turn of an event is kept all the same
    kept-life : (items : List Item) (moments : List ℕ) → LosesTurn R (came (events pace.tick_ms items moments)) old new items moments → KeepsRecord s from pace old new items moments
    unfolding has-life
    kept-life items moments loses =
        let es = events pace.tick_ms items moments in
        let is_last = loses.is_last in
        let one = came-last es loses.before loses.last is_last.last_of in
        let so_far = after one.first in
        let e = one.event in
        let made : Makes (R (came one.first)) old new items moments = subst (λ (l : List Happening). Makes (R l) old new items moments) one.before_of loses.made in
        let right = made.right in
        let kept = records_of (turned s so_far.member e).stored in
        record {
          kept = kept;
          has =
              has-life items moments (lived one.first (Broken e [])) [] made.stored kept made.sends refl
              (record { unsent = turn_sends s so_far.member e; split = refl })
              tt
              (one.all ∙ sym (append-nil (one.first ++ e ∷ [])))
              (ap (λ (l : List Record). l ++ kept) (sym right.0))
              (right.1 ∙ sym (append-nil so_far.sent))
              made.passed;
          last = e;
          lost = refl;
        }

    -- Ends --

    between : (items : List Item) (moments : List ℕ) → EndsBetween R pace old new items moments → HasLife s from pace old new items moments []
    between items moments ends = whole items moments ends.made

    -- a loop that did nothing
    pub nothing-life : Passes old new nothing → HasLife s from pace old new [] [] []
    unfolding served
    nothing-life passed = has-life [] [] (lived [] Stopped) [] [] [] [] refl tt tt refl refl refl passed

    ended-life : (items : List Item) (moments : List ℕ) (closings : ℕ) (at : Status)
        → Ended (ReplicaServesAll s (replay from)) R R pace old new items moments closings at → HasLife s from pace old new items moments []
    ended-life items moments closings status.Done ended =
        let made = ended.1 in
        let right = made.right in
        closed-whole items moments closings ended.0 (record { stored = made.stored; sends = made.sends; right = right.0; passed = made.passed })
    ended-life items moments closings status.TurnsSpent ended = whole items moments ended.3
    ended-life items moments closings status.ClockFault ended = whole items moments ended.2
    ended-life items moments closings status.LinkFault (inl ended) = between items moments ended.1
    ended-life items moments closings status.LinkFault (inr part) = part-life items moments closings part
    ended-life items moments closings status.DiskFault ended = lost-event items moments ended.1
    ended-life items moments closings status.Memory (inl ended) =
        subst (λ (l : List ℕ). HasLife s from pace old new items l []) (sym ended.2)
        (subst (λ (l : List Item). HasLife s from pace old new l [] []) (sym ended.1) (nothing-life ended.0))
    ended-life items moments closings status.Memory (inr (inl ended)) = between items moments ended.1
    ended-life items moments closings status.Memory (inr (inr loses)) = lost-life items moments closings loses
    ended-life items moments closings status.BadWords ended = absurd ended
    ended-life items moments closings (status.BadScript line) ended = absurd ended
    ended-life items moments closings (status.JournalDamaged at) ended = absurd ended
    ended-life items moments closings status.SourceFault ended = absurd ended
    ended-life items moments closings status.SinkFault ended = absurd ended
    ended-life items moments closings status.TimedOut ended = absurd ended
    ended-life items moments closings status.IdsUsed ended = absurd ended

pub loops_are_lives : LoopsAreLives
loops_are_lives s from pace old new at serves = ended-life s from pace old new serves.items serves.moments serves.closings at serves.ended

pub lost_records_may_stay : LostRecordsMayStay
lost_records_may_stay s from pace old new serves = let ended = serves.ended in kept-life s from pace old new serves.items serves.moments ended.1

-- How a loop ends.
use Rattle.std.proofs.Common.{◌≡◌, inl, inr, ℕ, ◌<◌, suc, List, [], ◌∷◌, ◌++◌, refl, ◌∙◌, append-nil, arith}
use Rattle.r2_base.specs.declared.event.Event.TheVariants.{Tick}
use Rattle.r2_link.specs.declared.lane.Item.{Item}
use Rattle.r2_link.specs.Links.{LinkTold}
use Rattle.r2_link.specs.Told.{RanDry, Takes}
use Rattle.r2_link.proofs.Told.{RanDry-from, RanDry-on, Takes-then}
use Rattle.cmd_status.specs.declared.status.Status.{Status}
use Rattle.cmd_status.specs.declared.status.Status.TheVariants.{Done, LinkFault, DiskFault, ClockFault, Memory, TurnsSpent}
use Rattle.cmd_loop.specs.declared.pace.Pace.{Pace}
use Rattle.cmd_loop.specs.declared.ticker.Ticker.{Ticker}
use Rattle.cmd_loop.specs.Ends.{Ends, Passes, nothing}
use Rattle.cmd_loop.specs.Events.{event_of, events}
use Rattle.cmd_loop.specs.Happenings.{Happening, Came, Closing, came, closed, happenings}
use Rattle.cmd_loop.specs.Loop.{Ended, EndsBetween, Rule, Serves}
use Rattle.cmd_loop.specs.Party.{Turns}
use Rattle.cmd_loop.specs.Round.{Closes, Drains, Makes, MakesPart, SomeTurns, Stops, StopsDue, StopsItem, StopsTick}
use Rattle.cmd_loop.proofs.Heard.{asked-item, came-item, came-tick, closed-first, one-more}
use Rattle.cmd_loop.proofs.Loops.{Any, IsAt, IsWithin, Lost, Makes-on, Makes-only, Whole, closes-made, lost-last}
use Rattle.cmd_loop.proofs.Passing.{Passes-link, Passes-nothing}
use Rattle.cmd_loop.proofs.Steps.{Turned}

-- the clock failed at once
pub ended-start : {P : Type 0} (T : Turned P) (first : P) (D W : Rule) (pace : Pace) (old new : Ends)
    → T first [] [] [] first → Passes old new nothing → Serves D W (Any T first) pace old new ClockFault
ended-start T first D W pace old new begins passed = record {
  items = [];
  moments = [];
  closings = 0;
  within = omega arith;
  found_end = λ some. absurd (omega (arith, some));
  ended = (refl, refl, record { stored = []; sends = []; right = (first, begins); passed = passed });
}

-- all receives were made
pub ended-turns : {P : Type 0} (T : Turned P) (first p : P) (start : ℕ) (t : Ticker) (made : ℕ) (D S : Rule) (pace : Pace) (a b : Ends)
    → IsAt T first p start pace.tick_ms t made a b → made ≡ pace.turns → Serves D (Whole T first p) S pace a b TurnsSpent
ended-turns T first p start t made D S pace a b at all = record {
  items = at.items;
  moments = start ∷ at.later;
  closings = 0;
  within = omega (arith, at.made_items, all);
  found_end = λ some. absurd (omega (arith, some));
  ended = (refl, omega (arith, at.each), at.made_items ∙ all, at.given);
}

-- nothing was received, and all turns are there
between : {P : Type 0} (T : Turned P) (first p : P) (start : ℕ) (t : Ticker) (made : ℕ) (pace : Pace) (a b c : Ends)
    → (at : IsAt T first p start pace.tick_ms t made a b) → made < pace.turns → Passes b c nothing → EndsBetween (Any T first) pace a c at.items (start ∷ at.later)
between T first p start t made pace a b c at more none = record {
  asked = omega (arith, at.each);
  within = omega (arith, at.made_items, more);
  made = Makes-only T first p (came (events pace.tick_ms at.items (start ∷ at.later))) a b c at.items [] at.items (start ∷ at.later) [] (start ∷ at.later)
      (append-nil at.items) (append-nil (start ∷ at.later)) at.given none;
}

module _ {P : Type 0} (T : Turned P) (first p : P) (start : ℕ) (t : Ticker) (made : ℕ) (D W : Rule) (pace : Pace) (a b c : Ends) (at : IsAt T first p start pace.tick_ms t made a b) (more : made < pace.turns) where
  -- nothing was received
  none : Passes b c nothing → (status : Status) → (EndsBetween (Any T first) pace a c at.items (start ∷ at.later) → Ended D W (Any T first) pace a c at.items (start ∷ at.later) 0 status)
      → Serves D W (Any T first) pace a c status
  none passed status ended = record {
    items = at.items;
    moments = start ∷ at.later;
    closings = 0;
    within = omega (arith, at.made_items, more);
    found_end = λ some. absurd (omega (arith, some));
    ended = ended (between T first p start t made pace a b c at more passed);
  }

  -- the turn of an item stopped
  last-item : (item : Item) (status : Status) → Stops (SomeTurns T p (Came (event_of item) ∷ [])) b c (item ∷ []) [] status
      → Lost (Any T first) (came (events pace.tick_ms (at.items ++ item ∷ []) (start ∷ at.later))) a c (at.items ++ item ∷ []) (start ∷ at.later) status
  last-item item status stops =
      lost-last T first p (came (events pace.tick_ms at.items (start ∷ at.later))) (came (events pace.tick_ms (at.items ++ item ∷ []) (start ∷ at.later))) (Came (event_of item))
      a b c at.items (item ∷ []) (at.items ++ item ∷ []) (start ∷ at.later) [] (start ∷ at.later) status
      (came-item pace.tick_ms start at.items at.later item at.each) refl (append-nil (start ∷ at.later))
      (asked-item item (at.items ++ item ∷ []) (start ∷ at.later) (omega (arith, at.each, one-more at.items item))) at.given stops

  with-item : (item : Item) (status : Status) → Ended D W (Any T first) pace a c (at.items ++ item ∷ []) (start ∷ at.later) 0 status → Serves D W (Any T first) pace a c status
  with-item item status ended = record {
    items = at.items ++ item ∷ [];
    moments = start ∷ at.later;
    closings = 0;
    within = omega (arith, at.made_items, more, one-more at.items item);
    found_end = λ some. absurd (omega (arith, some));
    ended = ended;
  }

  -- the end of the link was found, and the turn that it closes stopped
  at-end : MakesPart (SomeTurns T p (Closing ∷ [])) b c [] [] → RanDry b.link.left c.link.left → Serves D W (Any T first) pace a c LinkFault
  at-end part dry = record {
    items = at.items;
    moments = start ∷ at.later;
    closings = 1;
    within = omega (arith, at.made_items, more);
    found_end = λ some. record {
      asked = omega (arith, at.each);
      within = omega (arith, at.made_items, more);
      dry = RanDry-from a.link.left b.link.left c.link.left at.items at.given.passed.link.took dry;
    };
    ended = inr (lost-last T first p (came (events pace.tick_ms at.items (start ∷ at.later))) (happenings pace.tick_ms at.items (start ∷ at.later) 1) Closing
        a b c at.items [] at.items (start ∷ at.later) [] (start ∷ at.later) LinkFault
        refl (append-nil at.items) (append-nil (start ∷ at.later)) (omega (arith, at.each)) at.given part);
  }

  -- the first half of a round wasn't made whole
  pub ended-item : (status : Status) → StopsItem T p b c status → Serves D W (Any T first) pace a c status
  ended-item LinkFault (inl passed) = none passed LinkFault (λ ends. inl (refl, ends))
  ended-item LinkFault (inr (inl taken)) = with-item taken.0 LinkFault (inr (last-item taken.0 LinkFault taken.1))
  ended-item LinkFault (inr (inr end)) = at-end end.0 end.1
  ended-item DiskFault (inl passed) = absurd passed
  ended-item DiskFault (inr (inl taken)) = with-item taken.0 DiskFault (refl, last-item taken.0 DiskFault taken.1)
  ended-item DiskFault (inr (inr end)) = absurd end
  ended-item Memory (inl passed) = none passed Memory (λ ends. inr (inl (refl, ends)))
  ended-item Memory (inr (inl taken)) = with-item taken.0 Memory (inr (inr (last-item taken.0 Memory taken.1)))
  ended-item Memory (inr (inr end)) = absurd end
  ended-item _ (inl passed) = absurd passed
  ended-item _ (inr (inl taken)) = absurd taken.1
  ended-item _ (inr (inr end)) = absurd end

module _ {P : Type 0} (T : Turned P) (first p : P) (start : ℕ) (t : Ticker) (made : ℕ) (D W : Rule) (pace : Pace) (a b c : Ends) (w : IsWithin T first p start pace.tick_ms t made a b) (more : made < pace.turns) where
  -- the clock had no answer
  no-moment : Passes b c nothing → Serves D W (Any T first) pace a c ClockFault
  no-moment passed = record {
    items = w.items ++ w.item ∷ [];
    moments = start ∷ w.later;
    closings = 0;
    within = omega (arith, w.made_items, more, one-more w.items w.item);
    found_end = λ some. absurd (omega (arith, some));
    ended = (
      refl,
      omega (arith, w.each, one-more w.items w.item),
      Makes-only T first p (came (events pace.tick_ms (w.items ++ w.item ∷ []) (start ∷ w.later))) a b c (w.items ++ w.item ∷ []) [] (w.items ++ w.item ∷ []) (start ∷ w.later) [] (start ∷ w.later)
          (append-nil (w.items ++ w.item ∷ [])) (append-nil (start ∷ w.later)) w.given passed,
    );
  }

  -- the turn of a tick stopped
  last-tick : (status : Status) (due : StopsDue T p t b c status)
      → Lost (Any T first) (came (events pace.tick_ms (w.items ++ w.item ∷ []) (start ∷ (w.later ++ due.moment ∷ [])))) a c (w.items ++ w.item ∷ []) (start ∷ (w.later ++ due.moment ∷ [])) status
  last-tick status due =
      lost-last T first p (came (events pace.tick_ms (w.items ++ w.item ∷ []) (start ∷ w.later))) (came (events pace.tick_ms (w.items ++ w.item ∷ []) (start ∷ (w.later ++ due.moment ∷ [])))) (Came Tick)
      a b c (w.items ++ w.item ∷ []) [] (w.items ++ w.item ∷ []) (start ∷ w.later) (due.moment ∷ []) (start ∷ (w.later ++ due.moment ∷ [])) status
      (came-tick pace.tick_ms start w.items w.later w.item t due.moment w.each w.ticker due.is_due) (append-nil (w.items ++ w.item ∷ [])) refl
      (omega (arith, w.each, one-more w.items w.item, one-more w.later due.moment)) w.given due.stops

  with-tick : (status : Status) (moment : ℕ) → Ended D W (Any T first) pace a c (w.items ++ w.item ∷ []) (start ∷ (w.later ++ moment ∷ [])) 0 status → Serves D W (Any T first) pace a c status
  with-tick status moment ended = record {
    items = w.items ++ w.item ∷ [];
    moments = start ∷ (w.later ++ moment ∷ []);
    closings = 0;
    within = omega (arith, w.made_items, more, one-more w.items w.item);
    found_end = λ some. absurd (omega (arith, some));
    ended = ended;
  }

  -- the second half of a round wasn't made whole
  pub ended-tick : (status : Status) → StopsTick T p t b c status → Serves D W (Any T first) pace a c status
  ended-tick ClockFault passed = no-moment passed
  ended-tick LinkFault due = with-tick LinkFault due.moment (inr (last-tick LinkFault due))
  ended-tick DiskFault due = with-tick DiskFault due.moment (refl, last-tick DiskFault due)
  ended-tick Memory due = with-tick Memory due.moment (inr (inr (last-tick Memory due)))
  ended-tick _ due = absurd due.stops

-- the end of the link was found and closed a turn, and then what was pending was finished
module _ {P : Type 0} (T : Turned P) (Settled : P → Type 0) (first p q s : P) (start : ℕ) (t : Ticker) (made : ℕ) (W : Rule) (pace : Pace) (a b c : Ends) (m : LinkTold)
    (at : IsAt T first p start pace.tick_ms t made a b) (more : made < pace.turns)
    (closed_one : Makes (Turns T p q (Closing ∷ [])) b c [] []) (dry : RanDry b.link.left c.link.left) where
  abbrev done : Rule
  done happened stored sent = T first happened stored sent s × Settled s

  abbrev upto : ℕ → List Happening
  upto n = happenings pace.tick_ms at.items (start ∷ at.later) n

  -- one turn after the end, and so many more
  closed-so : (r : P) (k : LinkTold) (n : ℕ) → Closes T q r c.link k n → Makes (Whole T first r (upto (suc n))) a (record c { link = k }) at.items (start ∷ at.later)
  closed-so r k n closes =
      Makes-on T first q r (upto 1) (closed n []) (upto (suc n)) a c (record c { link = k }) at.items [] at.items (start ∷ at.later) [] (start ∷ at.later)
      (closed-first n (upto 0)) (append-nil at.items) (append-nil (start ∷ at.later))
      (Makes-on T first p q (upto 0) (Closing ∷ []) (upto 1) a b c at.items [] at.items (start ∷ at.later) [] (start ∷ at.later)
      refl (append-nil at.items) (append-nil (start ∷ at.later)) at.given closed_one)
      (closes-made T q r c c.link k n closes)

  serves-closed : (n : ℕ) (status : Status) → Takes c.link.left m.left [] → Ended done W (Any T first) pace a (record c { link = m }) at.items (start ∷ at.later) n status
      → Serves done W (Any T first) pace a (record c { link = m }) status
  serves-closed n status took ended = record {
    items = at.items;
    moments = start ∷ at.later;
    closings = n;
    within = omega (arith, at.made_items, more);
    found_end = λ some. record {
      asked = omega (arith, at.each);
      within = omega (arith, at.made_items, more);
      dry = RanDry-from a.link.left b.link.left m.left at.items at.given.passed.link.took (RanDry-on b.link.left c.link.left m.left dry took);
    };
    ended = ended;
  }

  pub ended-closing : (status : Status) → Drains T Settled q s c.link m status → Serves done W (Any T first) pace a (record c { link = m }) status
  ended-closing Done drained =
      let whole = closed-so s m drained.1.0 drained.1.1 in
      serves-closed (suc drained.1.0) Done drained.1.1.passed.took
      (omega arith, record { stored = whole.stored; sends = whole.sends; right = (whole.right, drained.0); passed = whole.passed })
  ended-closing LinkFault cut =
      serves-closed (suc (suc cut.closings)) LinkFault (Takes-then c.link.left cut.between.left m.left [] [] cut.whole.passed.took cut.passed.took)
      (inr (lost-last T first cut.last (upto (suc cut.closings)) (upto (suc (suc cut.closings))) Closing a (record c { link = cut.between }) (record c { link = m })
      at.items [] at.items (start ∷ at.later) [] (start ∷ at.later) LinkFault refl (append-nil at.items) (append-nil (start ∷ at.later)) (omega (arith, at.each))
      (closed-so cut.last cut.between cut.closings cut.whole)
      (record { stored = []; sent = cut.sent; unsent = cut.unsent; right = (cut.next, cut.turned); passed = Passes-link c cut.between m [] cut.sent cut.passed })))
  ended-closing Memory lost =
      serves-closed (suc (suc lost.closings)) Memory lost.whole.passed.took
      (inr (inr (lost-last T first lost.last (upto (suc lost.closings)) (upto (suc (suc lost.closings))) Closing a (record c { link = m }) (record c { link = m })
      at.items [] at.items (start ∷ at.later) [] (start ∷ at.later) Memory refl (append-nil at.items) (append-nil (start ∷ at.later)) (omega (arith, at.each))
      (closed-so lost.last m lost.closings lost.whole) (Passes-nothing (record c { link = m })))))
  ended-closing _ drained = absurd drained

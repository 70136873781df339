-- A loop so far, round by round.
use Rattle.std.proofs.Common.{◌≡◌, ℕ, ◌+◌, List, [], ◌∷◌, ◌++◌, length, refl, sym, ap, ◌∙◌, subst, append-nil}
use Rattle.r2_base.specs.declared.datagram.Datagram.{Datagram}
use Rattle.r2_link.specs.declared.lane.Item.{Item}
use Rattle.r2_link.specs.Links.{LinkTold}
use Rattle.hc_log.specs.declared.record.Record.{Record}
use Rattle.cmd_status.specs.declared.status.Status.{Status}
use Rattle.cmd_status.specs.declared.status.Status.TheVariants.{LinkFault, DiskFault, Memory}
use Rattle.cmd_loop.specs.declared.ticker.Ticker.{Ticker}
use Rattle.cmd_loop.specs.Ends.{Ends, Passes, passing}
use Rattle.cmd_loop.specs.Events.{event_of, events}
use Rattle.cmd_loop.specs.Happenings.{Happening, Came, came, closed}
use Rattle.cmd_loop.specs.Loop.{AskedBefore, GivesPart, LosesTurn, Rule}
use Rattle.cmd_loop.specs.Party.{Turns}
use Rattle.cmd_loop.specs.Round.{AsksClock, Closes, Makes, SomeTurns, Stops, due_at}
use Rattle.cmd_loop.proofs.Heard.{came-item, came-moment, events-begun, one-more, ticker-begun, ticker-more, ticker_at}
use Rattle.cmd_loop.proofs.Passing.{Passes-link, Passes-then}
use Rattle.cmd_loop.proofs.Steps.{Turned}

-- the turns of a party that is that one now, and of one that is any
abbrev pub Whole : {P : Type 0} → Turned P → P → P → Rule
Whole T first now happened stored sent = T first happened stored sent now

abbrev pub Any : {P : Type 0} → Turned P → P → Rule
Any {P} T first happened stored sent = (last : P) × T first happened stored sent last

-- what passes in two stretches, whose lists are called by names
passes-on : (a b c : Ends) (is js items : List Item) (ms ns moments : List ℕ) (rs rs' : List Record) (ds ds' : List Datagram)
    → is ++ js ≡ items → ms ++ ns ≡ moments → Passes a b (passing is ms rs ds) → Passes b c (passing js ns rs' ds')
    → Passes a c (passing items moments (rs ++ rs') (ds ++ ds'))
passes-on a b c is js items ms ns moments rs rs' ds ds' items-are moments-are p q =
    subst (λ (l : List Item). Passes a c (passing l moments (rs ++ rs') (ds ++ ds'))) items-are
    (subst (λ (l : List ℕ). Passes a c (passing (is ++ js) l (rs ++ rs') (ds ++ ds'))) moments-are
    (Passes-then a b c (passing is ms rs ds) (passing js ns rs' ds') p q))

-- turns in two stretches
pub Makes-on : {P : Type 0} (T : Turned P) (first p q : P) (hs more all : List Happening) (a b c : Ends) (is js items : List Item) (ms ns moments : List ℕ)
    → hs ++ more ≡ all → is ++ js ≡ items → ms ++ ns ≡ moments
    → Makes (Whole T first p hs) a b is ms → Makes (Turns T p q more) b c js ns → Makes (Whole T first q all) a c items moments
Makes-on T first p q hs more all a b c is js items ms ns moments all-are items-are moments-are x y = record {
  stored = x.stored ++ y.stored;
  sends = x.sends ++ y.sends;
  right = subst (λ (l : List Happening). T first l (x.stored ++ y.stored) (x.sends ++ y.sends) q) all-are (y.right first hs x.stored x.sends x.right);
  passed = passes-on a b c is js items ms ns moments x.stored y.stored x.sends y.sends items-are moments-are x.passed y.passed;
}

-- turns, and then something is taken in of which nothing is made
pub Makes-only : {P : Type 0} (T : Turned P) (first p : P) (hs : List Happening) (a b c : Ends) (is js items : List Item) (ms ns moments : List ℕ)
    → is ++ js ≡ items → ms ++ ns ≡ moments
    → Makes (Whole T first p hs) a b is ms → Passes b c (passing js ns [] []) → Makes (Any T first hs) a c items moments
Makes-only T first p hs a b c is js items ms ns moments items-are moments-are x passed = record {
  stored = x.stored;
  sends = x.sends;
  right = (p, x.right);
  passed = subst (λ (l : List Record). Passes a c (passing items moments l x.sends)) (append-nil x.stored)
      (subst (λ (l : List Datagram). Passes a c (passing items moments (x.stored ++ []) l)) (append-nil x.sends)
      (passes-on a b c is js items ms ns moments x.stored [] x.sends [] items-are moments-are x.passed passed));
}

-- what a turn that stopped leaves, as the last one of a loop
abbrev pub Lost : Rule → List Happening → Ends → Ends → List Item → List ℕ → Status → Type 0
Lost S all old new items moments LinkFault = GivesPart S all old new items moments
Lost S all old new items moments DiskFault = LosesTurn S all old new items moments
Lost S all old new items moments Memory = LosesTurn S all old new items moments
Lost S all old new items moments _ = ⊥

pub lost-last : {P : Type 0} (T : Turned P) (first p : P) (hs all : List Happening) (h : Happening) (a b c : Ends) (is js items : List Item) (ms ns moments : List ℕ) (status : Status)
    → hs ++ h ∷ [] ≡ all → is ++ js ≡ items → ms ++ ns ≡ moments → AskedBefore h items moments
    → Makes (Whole T first p hs) a b is ms → Stops (SomeTurns T p (h ∷ [])) b c js ns status → Lost (Any T first) all a c items moments status
lost-last T first p hs all h a b c is js items ms ns moments LinkFault all-are items-are moments-are asked x y = record {
  before = hs;
  last = h;
  is_last = record { last_of = sym all-are; asked = asked };
  records = x.stored;
  earlier = x.sends;
  stored = y.stored;
  sent = y.sent;
  unsent = y.unsent;
  right_before = (p, x.right);
  right = (y.right.0, subst (λ (l : List Happening). T first l (x.stored ++ y.stored) (x.sends ++ (y.sent ++ y.unsent)) y.right.0) all-are (y.right.1 first hs x.stored x.sends x.right));
  passed = passes-on a b c is js items ms ns moments x.stored y.stored x.sends y.sent items-are moments-are x.passed y.passed;
}
lost-last T first p hs all h a b c is js items ms ns moments DiskFault all-are items-are moments-are asked x passed = record {
  before = hs;
  last = h;
  is_last = record { last_of = sym all-are; asked = asked };
  made = Makes-only T first p hs a b c is js items ms ns moments items-are moments-are x passed;
}
lost-last T first p hs all h a b c is js items ms ns moments Memory all-are items-are moments-are asked x passed = record {
  before = hs;
  last = h;
  is_last = record { last_of = sym all-are; asked = asked };
  made = Makes-only T first p hs a b c is js items ms ns moments items-are moments-are x passed;
}
lost-last T first p hs all h a b c is js items ms ns moments _ all-are items-are moments-are asked x stops = absurd stops

-- turns after the end of a link, as a stretch of a loop
pub closes-made : {P : Type 0} (T : Turned P) (p q : P) (o : Ends) (l m : LinkTold) (n : ℕ)
    → Closes T p q l m n → Makes (Turns T p q (closed n [])) (record o { link = l }) (record o { link = m }) [] []
closes-made T p q o l m n closes = record { stored = []; sends = closes.sends; right = closes.turned; passed = Passes-link o l m [] closes.sends closes.passed }

-- a loop after so many whole rounds
pub record IsAt {P : Type 0} (T : Turned P) (first now : P) (start tick : ℕ) (t : Ticker) (made : ℕ) (old new : Ends) : Type 0 where
  pub items : List Item
  pub later : List ℕ
  pub given : Makes (Whole T first now (came (events tick items (start ∷ later)))) old new items (start ∷ later)
  pub made_items : length items ≡ made
  pub each : length later ≡ length items
  pub ticker : t ≡ ticker_at tick start later

-- before the first round the clock gave the start
pub at-start : {P : Type 0} (T : Turned P) (first : P) (start tick : ℕ) (old new : Ends)
    → T first [] [] [] first → Passes old new (passing [] (start ∷ []) [] [])
    → IsAt T first first start tick (record { start = start; tick_ms = tick; reached = 0 }) 0 old new
at-start T first start tick old new begins passed = record {
  items = [];
  later = [];
  given = record { stored = []; sends = []; right = subst (λ (l : List Happening). T first l [] [] first) (events-begun tick start) begins; passed = passed };
  made_items = refl;
  each = refl;
  ticker = ticker-begun tick start;
}

-- a loop in a round, after the turn of its item
pub record IsWithin {P : Type 0} (T : Turned P) (first now : P) (start tick : ℕ) (t : Ticker) (made : ℕ) (old new : Ends) : Type 0 where
  pub items : List Item
  pub item : Item
  pub later : List ℕ
  pub given : Makes (Whole T first now (came (events tick (items ++ item ∷ []) (start ∷ later)))) old new (items ++ item ∷ []) (start ∷ later)
  pub made_items : length items ≡ made
  pub each : length later ≡ length items
  pub ticker : t ≡ ticker_at tick start later

pub within-of : {P : Type 0} (T : Turned P) (first p q : P) (start tick : ℕ) (t : Ticker) (made : ℕ) (a b c : Ends) (item : Item)
    → IsAt T first p start tick t made a b → Makes (Turns T p q (Came (event_of item) ∷ [])) b c (item ∷ []) [] → IsWithin T first q start tick t made a c
within-of T first p q start tick t made a b c item at taken = record {
  items = at.items;
  item = item;
  later = at.later;
  given = Makes-on T first p q (came (events tick at.items (start ∷ at.later))) (Came (event_of item) ∷ []) (came (events tick (at.items ++ item ∷ []) (start ∷ at.later)))
      a b c at.items (item ∷ []) (at.items ++ item ∷ []) (start ∷ at.later) [] (start ∷ at.later)
      (came-item tick start at.items at.later item at.each) refl (append-nil (start ∷ at.later)) at.given taken;
  made_items = at.made_items;
  each = at.each;
  ticker = at.ticker;
}

pub at-next : {P : Type 0} (T : Turned P) (first p q : P) (start tick : ℕ) (t u : Ticker) (made : ℕ) (a b c : Ends)
    → IsWithin T first p start tick t made a b → AsksClock T p q t u b c → IsAt T first q start tick u (made + 1) a c
at-next T first p q start tick t u made a b c w asked =
    let all = w.items ++ w.item ∷ [] in
    record {
      items = all;
      later = w.later ++ asked.moment ∷ [];
      given = Makes-on T first p q (came (events tick all (start ∷ w.later))) (came (due_at t asked.moment)) (came (events tick all (start ∷ (w.later ++ asked.moment ∷ []))))
          a b c all [] all (start ∷ w.later) (asked.moment ∷ []) (start ∷ (w.later ++ asked.moment ∷ []))
          (came-moment tick start w.items w.later w.item t asked.moment w.each w.ticker) (append-nil all) refl w.given asked.made;
      made_items = one-more w.items w.item ∙ ap (λ (n : ℕ). n + 1) w.made_items;
      each = one-more w.later asked.moment ∙ ap (λ (n : ℕ). n + 1) w.each ∙ sym (one-more w.items w.item);
      ticker = ticker-more tick start w.later t u asked.moment w.ticker asked.ticker;
    }

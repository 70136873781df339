-- The clock is asked, and the turn of a tick is made that is due.
use Rattle.std.proofs.Common.{◌≡◌, ℕ, List, [], ◌∷◌, Option, sym, ap, subst, nat_lt, true, false, Bool, if◌then◌else◌}
use Rattle.r2_base.specs.declared.event.Event.{Event}
use Rattle.r2_base.specs.declared.event.Event.TheVariants.{Tick}
use Rattle.r2_link.specs.Links.{LinkTold}
use Rattle.r2_link.specs.Moments.{Tells}
use Rattle.r2_link.proofs.Links.{LinkPasses-nothing}
use Rattle.r2_link.proofs.Streams.{Appends-nil, Consumes-nil}
use Rattle.r2_link.proofs.Told.{Gains-nil}
use Rattle.hc_log.specs.declared.record.Record.{Record}
use Rattle.cmd_status.specs.declared.status.Status.{Status}
use Rattle.cmd_status.specs.declared.status.Status.TheVariants.{LinkFault, DiskFault, Memory}
use Rattle.cmd_loop.specs.declared.ticker.Ticker.{Ticker}
use Rattle.cmd_loop.specs.Ends.{Ends, Passes, passing}
use Rattle.cmd_loop.specs.Events.{elapsed}
use Rattle.cmd_loop.specs.Happenings.{Came, came}
use Rattle.cmd_loop.specs.Party.{Turns}
use Rattle.cmd_loop.specs.Round.{AsksClock, Makes, SomeTurns, Stops, StopsTick, due_at, ticked}
use Rattle.cmd_loop.proofs.Steps.{Makes-after, Stops-after, Turned, Turns-none}

-- the clock told what passed over it, and nothing else did
pub clock-told : (o : Ends) (l : LinkTold) (r : Option (List Record)) (a b : Option (List ℕ)) (moments : List ℕ) → Tells a b moments
    → Passes (record o { link = l; clock = a; records = r }) (record o { link = l; clock = b; records = r }) (passing [] moments [] [])
clock-told o l r a b moments tells =
    record { source = Consumes-nil o.source; sink = Appends-nil o.written; link = LinkPasses-nothing l; clock = tells; journal = Gains-nil r }

-- no tick is due
pub none-due : {P : Type 0} (T : Turned P) (p : P) (t u : Ticker) (l : LinkTold) (r : Option (List Record)) (a b : Option (List ℕ)) (moment : ℕ) (o : Ends)
    → Tells a b (moment ∷ []) → nat_lt t.reached (elapsed t.tick_ms t.start moment) ≡ false → u ≡ ticked t moment
    → AsksClock T p p t u (record o { link = l; clock = a; records = r }) (record o { link = l; clock = b; records = r })
none-due T p t u l r a b moment o tells not_due ticker =
    let none : due_at t moment ≡ [] = ap (λ (x : Bool). if x then Tick ∷ [] else []) not_due in
    record {
      moment = moment;
      made = record {
        stored = [];
        sends = [];
        right = subst (λ (es : List Event). Turns T p p (came es) [] []) (sym none) (Turns-none T p);
        passed = clock-told o l r a b (moment ∷ []) tells;
      };
      ticker = ticker;
    }

tick-due : (t : Ticker) (moment : ℕ) → nat_lt t.reached (elapsed t.tick_ms t.start moment) ≡ true → due_at t moment ≡ Tick ∷ []
tick-due t moment is = ap (λ (x : Bool). if x then Tick ∷ [] else []) is

-- a tick is due, and its turn was made
pub tick-made : {P : Type 0} (T : Turned P) (p q : P) (t u : Ticker) (l m : LinkTold) (r s : Option (List Record)) (a b : Option (List ℕ)) (moment : ℕ) (o : Ends)
    → Tells a b (moment ∷ []) → nat_lt t.reached (elapsed t.tick_ms t.start moment) ≡ true → u ≡ ticked t moment
    → Makes (Turns T p q (Came Tick ∷ [])) (record o { link = l; clock = b; records = r }) (record o { link = m; clock = b; records = s }) [] []
    → AsksClock T p q t u (record o { link = l; clock = a; records = r }) (record o { link = m; clock = b; records = s })
tick-made T p q t u l m r s a b moment o tells is ticker made = record {
  moment = moment;
  made = subst (λ (es : List Event). Makes (Turns T p q (came es)) (record o { link = l; clock = a; records = r }) (record o { link = m; clock = b; records = s }) [] (moment ∷ []))
      (sym (tick-due t moment is))
      (Makes-after (Turns T p q (Came Tick ∷ [])) (record o { link = l; clock = a; records = r }) (record o { link = l; clock = b; records = r }) (record o { link = m; clock = b; records = s }) [] (moment ∷ [])
      (clock-told o l r a b (moment ∷ []) tells) made);
  ticker = ticker;
}

-- or not made whole
pub tick-stops : {P : Type 0} (T : Turned P) (p : P) (t : Ticker) (l m : LinkTold) (r s : Option (List Record)) (a b : Option (List ℕ)) (moment : ℕ) (o : Ends) (status : Status)
    → Tells a b (moment ∷ []) → nat_lt t.reached (elapsed t.tick_ms t.start moment) ≡ true
    → Stops (SomeTurns T p (Came Tick ∷ [])) (record o { link = l; clock = b; records = r }) (record o { link = m; clock = b; records = s }) [] [] status
    → StopsTick T p t (record o { link = l; clock = a; records = r }) (record o { link = m; clock = b; records = s }) status
tick-stops T p t l m r s a b moment o status tells is stops = ticked-by status
    (Stops-after (SomeTurns T p (Came Tick ∷ [])) (record o { link = l; clock = a; records = r }) (record o { link = l; clock = b; records = r }) (record o { link = m; clock = b; records = s }) [] (moment ∷ []) status
    (clock-told o l r a b (moment ∷ []) tells) stops) where
      ticked-by : (status : Status) → Stops (SomeTurns T p (Came Tick ∷ [])) (record o { link = l; clock = a; records = r }) (record o { link = m; clock = b; records = s }) [] (moment ∷ []) status
          → StopsTick T p t (record o { link = l; clock = a; records = r }) (record o { link = m; clock = b; records = s }) status
      ticked-by LinkFault stops = record { moment = moment; is_due = tick-due t moment is; stops = stops }
      ticked-by DiskFault stops = record { moment = moment; is_due = tick-due t moment is; stops = stops }
      ticked-by Memory stops = record { moment = moment; is_due = tick-due t moment is; stops = stops }
      ticked-by _ stops = absurd stops

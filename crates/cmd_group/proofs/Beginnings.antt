-- A group of which no loop has begun yet is seen where each member stopped at once.
use Rattle.std.proofs.Common.{◌≡◌, ℕ, zero, suc, ◌+◌, List, [], ◌∷◌, ◌++◌, get_or, length, set, refl, sym, ap, subst, ◌∙◌, arith}
use Rattle.std.specs.Prelude.{is_some, replicate}
use Rattle.hc_run.specs.Group.{Group}
use Rattle.hc_run.specs.State.{GroupState, Replica, beginning, journal_at, started, stopped}
use Rattle.hc_run.specs.Events.{GroupEvent, Crash}
use Rattle.hc_run.specs.Runs.{ArePossible, after_events}
use Rattle.hc_run.specs.Steps.{crashes, happens, step, stops, where_up}
use Rattle.cmd_group.specs.Merge.{begun}

-- the first members have stopped, and the others are as they began
abbrev halfway : ℕ → ℕ → List Replica
halfway down up = replicate down (stopped []) ++ replicate up (started [])

set-next : (down up : ℕ) → set (halfway down (suc up)) down (stopped []) ≡ halfway (suc down) up
set-next zero up = refl
set-next (suc down) up = ap (λ (l : List Replica). stopped [] ∷ l) (set-next down up)

get-next : (down up : ℕ) → get_or (halfway down (suc up)) down (stopped []) ≡ started []
get-next zero up = refl
get-next (suc down) up = get-next down up

-- a group halfway, where nothing else has happened
record IsHalfway (g : Group) (down up : ℕ) (t : GroupState) : Type 0 where
  replicas : t.replicas ≡ halfway down up
  tally : t.tally ≡ (begun g).tally
  table : t.table ≡ []

-- the rest stops
pub record StopsRest (g : Group) (t : GroupState) (n : ℕ) : Type 0 where
  pub events : List GroupEvent
  pub possible : ArePossible g t events
  pub replicas : (after_events g t events).replicas ≡ replicate n (stopped [])
  pub tally : (after_events g t events).tally ≡ (begun g).tally
  pub table : (after_events g t events).table ≡ []

halfway-none : (down : ℕ) → halfway down zero ≡ replicate down (stopped [])
halfway-none zero = refl
halfway-none (suc down) = ap (λ (l : List Replica). stopped [] ∷ l) (halfway-none down)

module _ (g : Group) where
  next-stops : (t : GroupState) (down up : ℕ) → IsHalfway g down (suc up) t → IsHalfway g (suc down) up (step g t (Crash down))
  unfolding step
  next-stops t down up is =
      let place : get_or t.replicas down (stopped []) ≡ started [] = ap (λ (l : List Replica). get_or l down (stopped [])) is.replicas ∙ get-next down up in
      let does : happens g (Crash down) t ≡ crashes (stops down (journal_at t down) t) =
      ap (λ (r : Replica). where_up r.member (λ m s. crashes (stops down (journal_at s down) s)) t) place in
      record {
        replicas =
            ap (λ (u : GroupState). u.replicas) does
            ∙ ap (λ (r : Replica). set t.replicas down (stopped r.journal)) place
            ∙ ap (λ (l : List Replica). set l down (stopped [])) is.replicas
            ∙ set-next down up;
        tally = ap (λ (u : GroupState). u.tally) does ∙ is.tally;
        table = ap (λ (u : GroupState). u.table) does ∙ is.table;
      }

  rest-stops : (up down : ℕ) (t : GroupState) → IsHalfway g down up t → StopsRest g t (down + up)
  rest-stops zero down t is =
      let e : down + zero ≡ down = omega arith in
      record {
        events = [];
        possible = tt;
        replicas = rw e (is.replicas ∙ halfway-none down);
        tally = is.tally;
        table = is.table;
      }
  rest-stops (suc up) down t is =
      let place : get_or t.replicas down (stopped []) ≡ started [] = ap (λ (l : List Replica). get_or l down (stopped [])) is.replicas ∙ get-next down up in
      let rest = rest-stops up (suc down) (step g t (Crash down)) (next-stops t down up is) in
      let e : down + suc up ≡ suc down + up = omega arith in
      record {
        events = Crash down ∷ rest.events;
        possible = (ap (λ (r : Replica). is_some r.member) place, rest.possible);
        replicas = rest.replicas ∙ ap (λ (n : ℕ). replicate n (stopped [])) (sym e);
        tally = rest.tally;
        table = rest.table;
      }

  pub all-stop : StopsRest g (beginning g) (length g.members)
  all-stop =
      let e : 0 + length g.members ≡ length g.members = omega arith in
      subst (λ (n : ℕ). StopsRest g (beginning g) n) e (rest-stops (length g.members) 0 (beginning g) (record { replicas = refl; tally = refl; table = refl }))

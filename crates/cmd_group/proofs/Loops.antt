-- Loops that are merged may do what they do, so they are a run.
use Rattle.std.proofs.Common.{◌≡◌, ℕ, ◌<◌, Bool, true, false, List, [], ◌∷◌, ◌++◌, get_or, length, Option, None, Some, refl, sym, ap, subst, ◌∙◌, arith, inl, inr}
use Rattle.std.specs.Prelude.{◌==◌, ◌≢◌, ◌⊎◌, if◌then◌else◌}
use Rattle.std.proofs.lemmas.Bool.{eqb-true, eqb-false}
use Rattle.std.proofs.lemmas.List.{get_or-replicate, get_or-set_same, get_or-set_other, length-replicate, length-set}
use Rattle.r2_base.specs.declared.datagram.Datagram.{Datagram}
use Rattle.hc_rules.specs.Log.{In}
use Rattle.hc_run.specs.Group.{Group, setup_of}
use Rattle.hc_run.specs.State.{Replica, stopped}
use Rattle.hc_run.specs.Events.{GroupEvent}
use Rattle.hc_run.specs.OneList.{ListGrows}
use Rattle.hc_run.specs.Runs.{IsRun, run}
use Rattle.hc_run.specs.Steps.{request_parts}
use Rattle.hc_run.proofs.Items.{in-left, in-parts, in-right}
use Rattle.hc_run.proofs.WholeRuns.{groups_serve_as_one, the_list_grows}
use Rattle.cmd_group.specs.Steps.{Act, Step, Asks, Acts, Aggregates, BeginsAnew, acts_at, of_aggregators}
use Rattle.cmd_group.specs.Members.{MayAll, place_after, places_after, sends_by, sends_of_all}
use Rattle.cmd_group.specs.Merge.{Loops, MayFollow, after_step, after_steps, begun, loops_after, place_at}
use Rattle.cmd_group.specs.Lives.{place_of_lives, sent_in_lives}
use Rattle.cmd_group.specs.Loops.{AllCome, ComesBefore, LoopsAreRuns, LoopsServeAsOne}
use Rattle.hc_aggregate.specs.Tally.{Tally}
use Rattle.r2_base.specs.declared.addr.Addr.{Addr}
use Rattle.cmd_group.specs.AggregatorLoops.{AggregatorLife, AreAggregatorLives, steps_of_lives}
use Rattle.cmd_group.proofs.AggregatorLoops.{AllMayAggregate, lives-may, lives-send, others-may, others-send, sends_of_steps}
use Rattle.cmd_group.proofs.InOrder.{asked-new, come-later, comes-before, run-earlier, table-asked}
use Rattle.cmd_group.proofs.Lives.{Does, lives-do}
use Rattle.cmd_group.proofs.Merges.{merges_are_runs}

-- the acts of a member, where the next step is an act of this one or of another
own-acts : (v : ℕ) (act : Act) (more : List Step) → acts_at v (Acts v act ∷ more) ≡ act ∷ acts_at v more
own-acts v act more = by (v == v) refl
  where
    by : (b : Bool) → v == v ≡ b → (if v == v then act ∷ acts_at v more else acts_at v more) ≡ act ∷ acts_at v more
    by true e = ap (λ (b : Bool). if b then act ∷ acts_at v more else acts_at v more) e
    by false e = absurd (eqb-false v v e refl)

others-acts : (v u : ℕ) (act : Act) (more : List Step) → u == v ≡ false → acts_at v (Acts u act ∷ more) ≡ acts_at v more
others-acts v u act more e = ap (λ (b : Bool). if b then act ∷ acts_at v more else acts_at v more) e

module _ (g : Group) where
  -- each member may do what it does in the steps, from its place on
  abbrev AllMay : Loops → List Step → Type 0
  AllMay s steps = (v : ℕ) → v < length g.members → MayAll (setup_of g v) (place_at s v) (acts_at v steps)

  record Sized (s : Loops) : Type 0 where
    each : length s.replicas ≡ length g.members

  -- the place of a member after an act of its own, or of another
  own-place : (s : Loops) (v : ℕ) (act : Act) → v < length s.replicas → place_at (after_step g s (Acts v act)) v ≡ place_after (setup_of g v) (place_at s v) act
  own-place s v act inside = get_or-set_same s.replicas v (place_after (setup_of g v) (place_at s v) act) (stopped []) inside

  others-place : (s : Loops) (v u : ℕ) (act : Act) → v ≢ u → place_at (after_step g s (Acts u act)) v ≡ place_at s v
  others-place s v u act apart = get_or-set_other s.replicas u v (place_after (setup_of g u) (place_at s u) act) (stopped []) apart

  still-sized : (s : Loops) (u : ℕ) (act : Act) → Sized s → Sized (after_step g s (Acts u act))
  still-sized s u act sized = record { each = length-set s.replicas u (place_after (setup_of g u) (place_at s u) act) ∙ sized.each }

  inside-sized : (s : Loops) (v : ℕ) → Sized s → v < length g.members → v < length s.replicas
  inside-sized s v sized inside = let each = sized.each in omega (arith, each, inside)

  -- what the others may do besides, and what the member itself may do afterwards
  rest-may : (s : Loops) (u v : ℕ) (act : Act) (more : List Step) (b : Bool) → u == v ≡ b → Sized s → v < length g.members
      → MayAll (setup_of g v) (place_at s v) (acts_at v (Acts u act ∷ more)) → MayAll (setup_of g v) (place_at (after_step g s (Acts u act)) v) (acts_at v more)
  rest-may s u v act more true e sized inside may =
      let same : v ≡ u = sym (eqb-true u v e) in
      let after : Loops = after_step g s (Acts u act) in
      let here : v < length s.replicas = inside-sized s v sized inside in
      let own : place_at after v ≡ place_after (setup_of g v) (place_at s v) act =
      ap (λ (x : ℕ). place_at (after_step g s (Acts x act)) v) (sym same) ∙ own-place s v act here in
      let all : MayAll (setup_of g v) (place_at s v) (act ∷ acts_at v more) =
      subst (λ (l : List Act). MayAll (setup_of g v) (place_at s v) l) (ap (λ (x : ℕ). acts_at v (Acts x act ∷ more)) (sym same) ∙ own-acts v act more) may in
      subst (λ (p : Replica). MayAll (setup_of g v) p (acts_at v more)) (sym own) all.1
  rest-may s u v act more false e sized inside may =
      let apart : v ≢ u = λ same. eqb-false u v e (sym same) in
      subst (λ (p : Replica). MayAll (setup_of g v) p (acts_at v more)) (sym (others-place s v u act apart))
      (subst (λ (l : List Act). MayAll (setup_of g v) (place_at s v) l) (others-acts v u act more e) may)

  follows : (s : Loops) (steps : List Step) → Sized s → AllMay s steps → AllMayAggregate g s.tally steps → AllCome g s steps → MayFollow g s steps
  follows s [] sized may counts come = tt
  follows s (Acts u act ∷ more) sized may counts come =
      let inside = come.0.inside in
      let own : MayAll (setup_of g u) (place_at s u) (act ∷ acts_at u more) =
      subst (λ (l : List Act). MayAll (setup_of g u) (place_at s u) l) (own-acts u act more) (may u inside) in (
        come.0,
        own.0,
        follows (after_step g s (Acts u act)) more (still-sized s u act sized)
            (λ v within. rest-may s u v act more (u == v) refl sized within (may v within))
            counts
            come.1,
      )
  follows s (Asks q ∷ more) sized may counts come = (come.0, tt, follows (after_step g s (Asks q)) more (record { each = sized.each }) may counts come.1)
  follows s (Aggregates me e sent ∷ more) sized may counts come =
      (come.0, counts.0, follows (after_step g s (Aggregates me e sent)) more (record { each = sized.each }) may counts.1 come.1)
  follows s (BeginsAnew me ∷ more) sized may counts come = (come.0, tt, follows (after_step g s (BeginsAnew me)) more (record { each = sized.each }) may counts come.1)

  -- What is left of a member --

  -- steps of which the first is an act leave the same as what comes after it does
  rest-leaves : (s : Loops) (u v : ℕ) (act : Act) (more : List Step) (b : Bool) → u == v ≡ b → Sized s → v < length g.members
      → places_after (setup_of g v) (place_at s v) (acts_at v (Acts u act ∷ more)) ≡ places_after (setup_of g v) (place_at (after_step g s (Acts u act)) v) (acts_at v more)
  rest-leaves s u v act more true e sized inside =
      let same : v ≡ u = sym (eqb-true u v e) in
      let own : place_at (after_step g s (Acts u act)) v ≡ place_after (setup_of g v) (place_at s v) act =
      ap (λ (x : ℕ). place_at (after_step g s (Acts x act)) v) (sym same) ∙ own-place s v act (inside-sized s v sized inside) in
      ap (λ (l : List Act). places_after (setup_of g v) (place_at s v) l) (ap (λ (x : ℕ). acts_at v (Acts x act ∷ more)) (sym same) ∙ own-acts v act more)
      ∙ ap (λ (p : Replica). places_after (setup_of g v) p (acts_at v more)) (sym own)
  rest-leaves s u v act more false e sized inside =
      ap (λ (l : List Act). places_after (setup_of g v) (place_at s v) l) (others-acts v u act more e)
      ∙ ap (λ (p : Replica). places_after (setup_of g v) p (acts_at v more)) (sym (others-place s v u act (λ same. eqb-false u v e (sym same))))

  leaves : (s : Loops) (steps : List Step) (v : ℕ) → Sized s → v < length g.members
      → place_at (after_steps g s steps) v ≡ places_after (setup_of g v) (place_at s v) (acts_at v steps)
  leaves s [] v sized inside = refl
  leaves s (Acts u act ∷ more) v sized inside =
      leaves (after_step g s (Acts u act)) more v (still-sized s u act sized) inside ∙ sym (rest-leaves s u v act more (u == v) refl sized inside)
  leaves s (Asks q ∷ more) v sized inside = leaves (after_step g s (Asks q)) more v (record { each = sized.each }) inside
  leaves s (Aggregates me e sent ∷ more) v sized inside = leaves (after_step g s (Aggregates me e sent)) more v (record { each = sized.each }) inside
  leaves s (BeginsAnew me ∷ more) v sized inside = leaves (after_step g s (BeginsAnew me)) more v (record { each = sized.each }) inside

  -- What is sent --

  stays : (s : Loops) (steps : List Step) (d : Datagram) → In d s.sent → In d (after_steps g s steps).sent
  stays s [] d there = there
  stays s (Acts u act ∷ more) d there = stays (after_step g s (Acts u act)) more d (in-left d s.sent (sends_by (setup_of g u) (place_at s u).member act) there)
  stays s (Asks q ∷ more) d there = stays (after_step g s (Asks q)) more d (in-left d s.sent (request_parts g q) there)
  stays s (Aggregates me e sent ∷ more) d there = stays (after_step g s (Aggregates me e sent)) more d (in-left d s.sent sent there)
  stays s (BeginsAnew me ∷ more) d there = stays (after_step g s (BeginsAnew me)) more d there

  -- what a member sends is sent by its first act, or later
  rest-sends : (s : Loops) (u v : ℕ) (act : Act) (more : List Step) (b : Bool) → u == v ≡ b → Sized s → v < length g.members → (d : Datagram)
      → In d (sends_of_all (setup_of g v) (place_at s v) (acts_at v (Acts u act ∷ more)))
      → In d (sends_by (setup_of g u) (place_at s u).member act) ⊎ In d (sends_of_all (setup_of g v) (place_at (after_step g s (Acts u act)) v) (acts_at v more))
  rest-sends s u v act more true e sized inside d there =
      let same : v ≡ u = sym (eqb-true u v e) in
      let own : place_at (after_step g s (Acts u act)) v ≡ place_after (setup_of g v) (place_at s v) act =
      ap (λ (x : ℕ). place_at (after_step g s (Acts x act)) v) (sym same) ∙ own-place s v act (inside-sized s v sized inside) in
      let all : In d (sends_of_all (setup_of g v) (place_at s v) (act ∷ acts_at v more)) =
      subst (λ (l : List Act). In d (sends_of_all (setup_of g v) (place_at s v) l)) (ap (λ (x : ℕ). acts_at v (Acts x act ∷ more)) (sym same) ∙ own-acts v act more) there in
      elim (in-parts d (sends_by (setup_of g v) (place_at s v).member act) (sends_of_all (setup_of g v) (place_after (setup_of g v) (place_at s v) act) (acts_at v more)) all) [
        | inl first ↦ inl (subst (λ (x : ℕ). In d (sends_by (setup_of g x) (place_at s x).member act)) same first)
        | inr later ↦ inr (subst (λ (p : Replica). In d (sends_of_all (setup_of g v) p (acts_at v more))) (sym own) later)
      ]
  rest-sends s u v act more false e sized inside d there =
      inr (subst (λ (p : Replica). In d (sends_of_all (setup_of g v) p (acts_at v more))) (sym (others-place s v u act (λ same. eqb-false u v e (sym same))))
      (subst (λ (l : List Act). In d (sends_of_all (setup_of g v) (place_at s v) l)) (others-acts v u act more e) there))

  sends : (s : Loops) (steps : List Step) (v : ℕ) → Sized s → v < length g.members → (d : Datagram)
      → In d (sends_of_all (setup_of g v) (place_at s v) (acts_at v steps)) → In d (after_steps g s steps).sent
  sends s [] v sized inside d there = absurd there
  sends s (Acts u act ∷ more) v sized inside d there =
      let after : Loops = after_step g s (Acts u act) in
      elim (rest-sends s u v act more (u == v) refl sized inside d there) [
        | inl first ↦ stays after more d (in-right d s.sent (sends_by (setup_of g u) (place_at s u).member act) first)
        | inr later ↦ sends after more v (still-sized s u act sized) inside d later
      ]
  sends s (Asks q ∷ more) v sized inside d there = sends (after_step g s (Asks q)) more v (record { each = sized.each }) inside d there
  sends s (Aggregates me e sent ∷ more) v sized inside d there = sends (after_step g s (Aggregates me e sent)) more v (record { each = sized.each }) inside d there
  sends s (BeginsAnew me ∷ more) v sized inside d there = sends (after_step g s (BeginsAnew me)) more v (record { each = sized.each }) inside d there

  -- and what the aggregator sends
  counting-sends : (s : Loops) (steps : List Step) (d : Datagram) → In d (sends_of_steps steps) → In d (after_steps g s steps).sent
  counting-sends s [] d there = absurd there
  counting-sends s (Acts u act ∷ more) d there = counting-sends (after_step g s (Acts u act)) more d there
  counting-sends s (Asks q ∷ more) d there = counting-sends (after_step g s (Asks q)) more d there
  counting-sends s (Aggregates me e goes ∷ more) d there =
      let after : Loops = after_step g s (Aggregates me e goes) in
      elim (in-parts d goes (sends_of_steps more) there) [
        | inl first ↦ stays after more d (in-right d s.sent goes first)
        | inr later ↦ counting-sends after more d later
      ]
  counting-sends s (BeginsAnew me ∷ more) d there = counting-sends (after_step g s (BeginsAnew me)) more d there

  -- the aggregator may do what its lives are
  counts-by : (counting : List AggregatorLife) (steps : List Step) (tally : Tally) (at : Option Addr) → g.aggregator ≡ at
      → ((me : Addr) → g.aggregator ≡ Some me → AreAggregatorLives me g.members counting)
      → ((me : Addr) → g.aggregator ≡ Some me → of_aggregators steps ≡ steps_of_lives me g.members counting)
      → (g.aggregator ≡ None → of_aggregators steps ≡ []) → AllMayAggregate g tally steps
  counts-by counting steps tally (Some me) e are same none =
      others-may g tally steps (subst (λ (l : List Step). AllMayAggregate g tally l) (sym (same me e)) (lives-may g me counting (are me e) tally))
  counts-by counting steps tally None e are same none =
      others-may g tally steps (subst (λ (l : List Step). AllMayAggregate g tally l) (sym (none e)) tt)

-- Groups --

pub loops_are_runs : LoopsAreRuns
loops_are_runs g lives counting steps is loops =
    let s = begun g in
    let n = length g.members in
    let sized : Sized g s = record { each = length-replicate n (stopped []) } in
    let place : (v : ℕ) → v < n → place_at s v ≡ stopped [] = λ v inside. get_or-replicate n v (stopped []) (stopped []) inside in
    let does : (v : ℕ) → v < n → Does (setup_of g v) (place_at s v) (acts_at v steps) (place_of_lives (setup_of g v) (stopped []) (lives v)) (sent_in_lives (setup_of g v) (lives v)) =
    λ v inside.
    subst (λ (p : Replica). Does (setup_of g v) p (acts_at v steps) (place_of_lives (setup_of g v) (stopped []) (lives v)) (sent_in_lives (setup_of g v) (lives v)))
    (sym (place v inside))
    (subst (λ (l : List Act). Does (setup_of g v) (stopped []) l (place_of_lives (setup_of g v) (stopped []) (lives v)) (sent_in_lives (setup_of g v) (lives v)))
    (sym (loops.merged v inside))
    (lives-do (setup_of g v) [] (lives v) (loops.lived v inside))) in
    let may = follows g s steps sized (λ v inside. let one = does v inside in one.may)
    (counts-by g counting steps s.tally g.aggregator refl loops.counted loops.aggregated loops.unaggregated) loops.come in
    let has = merges_are_runs g steps is (record { may = may }) in
    let shown = has.seen in
    record {
      events = has.events;
      is = has.is;
      seen = shown;
      earlier = has.earlier;
      in_turn = has.in_turn;
      table = sym shown.table ∙ table-asked g s steps;
      places =
          λ v inside.
          let one = does v inside in
          ap (λ (l : List Replica). get_or l v (stopped [])) (sym shown.replicas) ∙ leaves g s steps v sized inside ∙ one.leaves;
      sent =
          λ v inside d there.
          let one = does v inside in
          shown.sent d (sends g s steps v sized inside d (subst (λ (l : List Datagram). In d l) (sym one.sends) there));
      aggregator_sent =
          λ me at d there.
          shown.sent d
          (counting-sends g s steps d
          (subst (λ (l : List Datagram). In d l) (sym (lives-send me g.members counting) ∙ ap sends_of_steps (sym (loops.aggregated me at)) ∙ others-send steps) there));
    }

pub loops_serve_as_one : LoopsServeAsOne
loops_serve_as_one g lives counting steps is loops =
    let has = loops_are_runs g lives counting steps is loops in
    let one = groups_serve_as_one g has.events is has.is in
    record {
      has = has;
      as_one = one;
      grows =
          record {
            in_turn =
                λ before more after first second.
                let now = has.earlier before (more ++ after) first in
                let next = has.earlier (before ++ more) after second in
                let between = has.in_turn before more after first second in
                subst (λ (l : List GroupEvent). ListGrows (run g now.earlier) (run g l)) (sym between.split)
                (the_list_grows g now.earlier between.later is (subst (IsRun g) between.split (run-earlier g next.earlier next.later has.events has.is next.split)));
            at_last =
                λ before after whole.
                let now = has.earlier before after whole in
                subst (λ (l : List GroupEvent). ListGrows (run g now.earlier) (run g l)) now.split
                (the_list_grows g now.earlier now.later is (subst (IsRun g) (sym now.split) has.is));
          };
      replies =
          λ v inside d there reads.
          let part = one.parts d (has.sent v inside d there) reads in record { part = part; right = one.replies part.reply part.there };
      order =
          λ before after d whole there reads.
          let at = has.earlier before after whole in
          let s = loops_after g before in
          let come = come-later g (begun g) before after (subst (λ (l : List Step). AllCome g (begun g) l) (sym whole) loops.come) in
          subst (λ (l : List GroupEvent). ComesBefore g (run g l) after d) at.split
          (comes-before g at.earlier at.later s after d is (subst (IsRun g) (sym at.split) has.is) at.seen (asked-new g s after come) there reads);
    }

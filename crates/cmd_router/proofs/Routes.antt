-- How a router's run ends, by how its loop ended.
use Rattle.std.proofs.Common.{◌≡◌, ◌⊎◌, inl, inr, ℕ, List, [], length, Option, None, refl, sym, ◌∙◌, ap, subst, arith}
use Rattle.std.specs.Prelude.{count_by}
use Rattle.std.specs.Io.KnownBytes.{Appends, Keeps}
use Rattle.r2_base.specs.declared.datagram.Datagram.{Datagram}
use Rattle.r2_base.specs.declared.event.Event.{Event}
use Rattle.r2_link.specs.Faults.{Rose, calm}
use Rattle.r2_link.specs.Streams.{AppendsPrefix}
use Rattle.r2_jbsq.specs.declared.router_setup.RouterSetup.{RouterSetup}
use Rattle.r2_jbsq.specs.Answer.{history_after}
use Rattle.r2_jbsq.specs.History.{is_accept, is_answer, is_forward}
use Rattle.r2_jbsq.specs.State.{RouterState, StandsFor, begin}
use Rattle.r2_jbsq.proofs.Runs.{begin-stands}
use Rattle.cmd_status.specs.Causes.{IsCaused}
use Rattle.cmd_status.specs.declared.status.Status.{Status}
use Rattle.cmd_status.specs.declared.status.Status.TheVariants.{Done, Memory, SinkFault, LinkFault, DiskFault, ClockFault, TurnsSpent}
use Rattle.cmd_loop.specs.declared.pace.Pace.{Pace}
use Rattle.cmd_loop.specs.Ends.{Ends}
use Rattle.cmd_loop.specs.Happenings.{events_of}
use Rattle.cmd_loop.specs.Loop.{IsServed, Rule}
use Rattle.cmd_loop.specs.Plain.{Unstored}
use Rattle.cmd_loop.proofs.Weaker.{Gives, serves-calm}
use Rattle.cmd_router.specs.Routed.{Becomes, RouterSends, sent_after}
use Rattle.cmd_router.specs.Totals.{totals_line, totals_text}
use Rattle.cmd_router.specs.Twins.{RunsOnTwin}
use Rattle.cmd_router.specs.Routes.{IsWholeRun, Routes, RoutesAndTells, RoutesOnTwin, TellsPrefix, TellsTotals}
use Rattle.cmd_router.proofs.Routed.{counted-all}
use Rattle.cmd_router.proofs.Twins.{on-twin-kept, on-twin-weaker}

-- what a new router sent, and its line of totals
abbrev pub Counted : RouterSetup → List ℕ → List Event → List Datagram → Type 0
Counted setup line events sends = RouterSends setup events sends × (line ≡ totals_text setup events)

-- a new router's turns are those of the empty history
new-stands : (setup : RouterSetup) (r : RouterState) → r ≡ begin setup → StandsFor r []
new-stands setup r begun = subst (λ (x : RouterState). StandsFor x []) (sym begun) (begin-stands setup)

pub new-sends : (setup : RouterSetup) (old new : RouterState) (n m : ℕ) (events : List Event) (sends : List Datagram)
    → old ≡ begin setup → Becomes old n events sends new m → RouterSends setup events sends
new-sends setup old new n m events sends begun becomes =
    becomes.sends [] (new-stands setup old begun) ∙ ap (λ (r : RouterState). sent_after r.setup [] events) begun

pub new-counted : (setup : RouterSetup) (old new : RouterState) (n m : ℕ) (events : List Event) (sends : List Datagram)
    → old ≡ begin setup → n ≡ 0 → Becomes old n events sends new m
    → Counted setup (totals_line m new.accepted new.forwarded new.answered) events sends
new-counted setup old new n m events sends begun zero becomes =
    let stands = new-stands setup old begun in
    let after = becomes.stands [] stands in
    let same : old.setup ≡ setup = ap (λ (r : RouterState). r.setup) begun in
    let turns : m ≡ length events = omega (arith, becomes.turns, zero, counted-all n events) in (
      becomes.sends [] stands ∙ ap (λ (s : RouterSetup). sent_after s [] events) same,
      ap (λ (k : ℕ). totals_line k new.accepted new.forwarded new.answered) turns
          ∙ ap (λ (k : ℕ). totals_line (length events) k new.forwarded new.answered) (after.accepted ∙ ap (λ (s : RouterSetup). count_by is_accept (history_after s [] events)) same)
          ∙ ap (λ (k : ℕ). totals_line (length events) (count_by is_accept (history_after setup [] events)) k new.answered) (after.forwarded ∙ ap (λ (s : RouterSetup). count_by is_forward (history_after s [] events)) same)
          ∙ ap (λ (k : ℕ). totals_line (length events) (count_by is_accept (history_after setup [] events)) (count_by is_forward (history_after setup [] events)) k)
          (after.answered ∙ ap (λ (s : RouterSetup). count_by is_answer (history_after s [] events)) same),
    )

-- the totals were told, or a prefix of them
whole-told : (setup : RouterSetup) (line : List ℕ) (w w' : Option (List ℕ)) → Appends w w' line → (events : List Event) (sends : List Datagram)
    → Counted setup line events sends → TellsTotals setup w w' events sends
whole-told setup line w w' gave events sends counted = (counted.0, subst (λ (l : List ℕ). Appends w w' l) counted.1 gave)

prefix-told : (setup : RouterSetup) (line : List ℕ) (w w' : Option (List ℕ)) → AppendsPrefix w w' line → (events : List Event) (sends : List Datagram)
    → Counted setup line events sends → TellsPrefix setup w w' events sends
prefix-told setup line w w' gave events sends counted = (counted.0, subst (λ (l : List ℕ). AppendsPrefix w w' l) counted.1 gave)

-- a rule on the events that follows from another, where nothing is stored
pub unstored-gives : (S S' : List Event → List Datagram → Type 0) → ((events : List Event) (sends : List Datagram) → S events sends → S' events sends)
    → Gives (Unstored S) (Unstored S')
unstored-gives S S' on happened stored sends right = (right.0, on (events_of happened) sends right.1)

-- a router's loop by a weaker rule
routes-weaker : (W W' : List Event → List Datagram → Type 0) → ((events : List Event) (sends : List Datagram) → W events sends → W' events sends)
    → (setup : RouterSetup) (pace : Pace) (a b : Ends) (status : Status) → RoutesOnTwin W setup pace a b status → RoutesOnTwin W' setup pace a b status
routes-weaker W W' whole setup pace a b status runs =
    on-twin-weaker (Unstored W) (Unstored W') (Unstored W) (Unstored W') (Unstored (RouterSends setup)) (Unstored (RouterSends setup))
    (unstored-gives W W' whole) (unstored-gives W W' whole) (λ happened stored sends right. right) pace a b status runs

-- what was told of a loop that ended so
abbrev pub Told : List ℕ → Option (List ℕ) → Option (List ℕ) → Status → Status → Type 0
Told line w w' ended result =
    ((result ≡ ended) × Appends w w' line) ⊎ ((result ≡ SinkFault) × AppendsPrefix w w' line)

module _ (setup : RouterSetup) (pace : Pace) (line : List ℕ) (a b : Ends) where
  -- the totals, or a prefix of them, after either end
  told-routes : (ended result : Status) → IsWholeRun ended → RoutesAndTells (Counted setup line) setup pace a b ended → Told line a.written b.written ended result
      → ((result ≡ ended) × RoutesAndTells (TellsTotals setup a.written b.written) setup pace a b ended) ⊎ ((result ≡ SinkFault) × Routes setup pace a b SinkFault)
  told-routes ended result whole runs (inl told) =
      inl (told.0, routes-weaker (Counted setup line) (TellsTotals setup a.written b.written) (whole-told setup line a.written b.written told.1) setup pace a (record b { written = a.written }) ended runs)
  told-routes ended result whole runs (inr cut) =
      inr (cut.0, (ended, whole, routes-weaker (Counted setup line) (TellsPrefix setup a.written b.written) (prefix-told setup line a.written b.written cut.1) setup pace a (record b { written = a.written }) ended runs))

  told-done : (result : Status) → ((result ≡ Done) × Routes setup pace a b Done) ⊎ ((result ≡ SinkFault) × Routes setup pace a b SinkFault) → Routes setup pace a b result
  told-done result (inl told) = subst (Routes setup pace a b) (sym told.0) told.1
  told-done result (inr cut) = subst (Routes setup pace a b) (sym cut.0) cut.1

  told-spent : (result : Status) → ((result ≡ TurnsSpent) × Routes setup pace a b TurnsSpent) ⊎ ((result ≡ SinkFault) × Routes setup pace a b SinkFault) → Routes setup pace a b result
  told-spent result (inl told) = subst (Routes setup pace a b) (sym told.0) told.1
  told-spent result (inr cut) = subst (Routes setup pace a b) (sym cut.0) cut.1

  -- a loop that something ended early
  untold : (ended : Status) → RoutesAndTells (Counted setup line) setup pace a b ended → Keeps a.written b.written → RoutesOnTwin (RouterSends setup) setup pace a b ended
  untold ended runs kept =
      on-twin-kept (Unstored (RouterSends setup)) (Unstored (RouterSends setup)) (Unstored (RouterSends setup)) pace a (record b { written = a.written }) b.written ended kept
      (routes-weaker (Counted setup line) (RouterSends setup) (λ events sends counted. counted.0) setup pace a (record b { written = a.written }) ended runs)

  pub routes-of : (ended result : Status) → RoutesAndTells (Counted setup line) setup pace a b ended
      → ((IsWholeRun ended → ⊥) → (result ≡ ended) × Keeps a.written b.written) → (IsWholeRun ended → Told line a.written b.written ended result)
      → (ended ≡ DiskFault → ⊥) → Routes setup pace a b result
  routes-of Done result runs kept told no_disk = told-done result (told-routes Done result tt runs (told tt))
  routes-of TurnsSpent result runs kept told no_disk = told-spent result (told-routes TurnsSpent result tt runs (told tt))
  routes-of LinkFault result runs kept told no_disk =
      let early = kept (λ x. x) in subst (Routes setup pace a b) (sym early.0) (inr (untold LinkFault runs early.1))
  routes-of Memory result runs kept told no_disk =
      let early = kept (λ x. x) in subst (Routes setup pace a b) (sym early.0) (inr (untold Memory runs early.1))
  routes-of ClockFault result runs kept told no_disk =
      let early = kept (λ x. x) in subst (Routes setup pace a b) (sym early.0) (untold ClockFault runs early.1)
  routes-of DiskFault result runs kept told no_disk = absurd (no_disk refl)
  routes-of _ result runs kept told no_disk = absurd runs.served.ended

-- without a fault a run comes to its end, or memory runs out
pub ends-well : (D W S : Rule) (pace : Pace) (a b : Ends) (l l' c c' : ℕ) (sink : Type 0) (ended result : Status) → RunsOnTwin D W S pace a b ended
    → IsCaused (record calm { link = l; clock = c }) (record calm { link = l'; clock = c' }) ended → (result ≡ ended) ⊎ ((result ≡ SinkFault) × sink)
    → (Rose l l' → ⊥) → (Rose c c' → ⊥) → (sink → ⊥) → IsServed result
ends-well D W S pace a b l l' c c' sink ended result runs caused (inl same) no_link no_clock no_sink =
    subst IsServed (sym same) (serves-calm D W S pace (record a { link = record a.link { left = runs.first; lanes = None } })
    (record b { link = record b.link { left = runs.last; lanes = None } }) l l' c c' ended runs.served caused no_link no_clock)
ends-well D W S pace a b l l' c c' sink ended result runs caused (inr cut) no_link no_clock no_sink = absurd (no_sink cut.1)

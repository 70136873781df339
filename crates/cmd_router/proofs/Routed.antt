-- A router's turns, one more at a time.
use Rattle.std.proofs.Common.{◌≡◌, ℕ, ◌+◌, List, [], ◌∷◌, ◌++◌, length, refl, sym, ap, ◌∙◌, subst, append_assoc, append-nil, arith}
use Rattle.r2_base.specs.declared.datagram.Datagram.{Datagram}
use Rattle.r2_base.specs.declared.event.Event.{Event}
use Rattle.r2_jbsq.specs.declared.router_setup.RouterSetup.{RouterSetup}
use Rattle.r2_jbsq.specs.Answer.{answer, history_after, marks}
use Rattle.r2_jbsq.specs.History.{Mark}
use Rattle.r2_jbsq.specs.State.{RouterState, StandsFor}
use Rattle.cmd_router.specs.Routed.{Becomes, counted, sent_after}

-- the history after one event more
history-more : (setup : RouterSetup) (history : List Mark) (events : List Event) (event : Event)
    → history_after setup history (events ++ event ∷ []) ≡ history_after setup history events ++ marks setup (history_after setup history events) event
unfolding history_after
history-more setup history [] event = refl
history-more setup history (first ∷ events) event = history-more setup (history ++ marks setup history first) events event

-- what is sent for one event more
sent-more : (setup : RouterSetup) (history : List Mark) (events : List Event) (event : Event)
    → sent_after setup history (events ++ event ∷ []) ≡ sent_after setup history events ++ answer setup (history_after setup history events) event
unfolding history_after sent_after
sent-more setup history [] event = append-nil (answer setup history event)
sent-more setup history (first ∷ events) event =
    ap (λ (l : List Datagram). answer setup history first ++ l) (sent-more setup (history ++ marks setup history first) events event)
    ∙ sym (append_assoc (answer setup history first) (sent_after setup (history ++ marks setup history first) events)
    (answer setup (history_after setup (history ++ marks setup history first) events) event))

-- the count after one event more, and after all of them
counted-more : (n : ℕ) (events : List Event) (event : Event) → counted n (events ++ event ∷ []) ≡ counted n events + 1
unfolding counted
counted-more n [] event = refl
counted-more n (first ∷ events) event = counted-more (n + 1) events event

pub counted-all : (n : ℕ) (events : List Event) → counted n events ≡ n + length events
unfolding counted
counted-all n [] = omega arith
counted-all n (event ∷ more) = omega (arith, counted-all (n + 1) more)

-- a turn more
pub becomes-more : (first old new : RouterState) (n m k : ℕ) (events : List Event) (event : Event) (sent sends : List Datagram)
    → Becomes first n events sent old m
    → ((history : List Mark) → StandsFor old history → sends ≡ answer old.setup history event)
    → ((history : List Mark) → StandsFor old history → StandsFor new (history ++ marks old.setup history event))
    → new.setup ≡ old.setup → k ≡ m + 1
    → Becomes first n (events ++ event ∷ []) (sent ++ sends) new k
becomes-more first old new n m k events event sent sends before gives stands same one = record {
  stands = λ history stood.
      let after = history_after first.setup history events in
      subst (λ (h : List Mark). StandsFor new h) (sym (history-more first.setup history events event))
      (subst (λ (s : RouterSetup). StandsFor new (after ++ marks s after event)) before.setup (stands after (before.stands history stood)));
  sends = λ history stood.
      let after = history_after first.setup history events in
      ap (λ (l : List Datagram). l ++ sends) (before.sends history stood)
      ∙ ap (λ (l : List Datagram). sent_after first.setup history events ++ l)
      (gives after (before.stands history stood) ∙ ap (λ (s : RouterSetup). answer s after event) before.setup)
      ∙ sym (sent-more first.setup history events event);
  setup = same ∙ before.setup;
  turns = one ∙ ap (λ (c : ℕ). c + 1) before.turns ∙ sym (counted-more n events event);
}

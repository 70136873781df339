-- What a router sends, and becomes.
use Rattle.std.specs.Prelude.{◌≡◌, ℕ, ◌+◌, List, [], ◌∷◌, ◌++◌, refl}
use Rattle.r2_base.specs.declared.datagram.Datagram.{Datagram}
use Rattle.r2_base.specs.declared.event.Event.{Event}
use Rattle.r2_jbsq.specs.declared.router_setup.RouterSetup.{RouterSetup}
use Rattle.r2_jbsq.specs.Answer.{answer, history_after, marks}
use Rattle.r2_jbsq.specs.History.{Mark}
use Rattle.r2_jbsq.specs.State.{RouterState, StandsFor}

-- the datagrams that are sent for these events, one after another, after a history
unfoldable pub sent_after : RouterSetup → List Mark → List Event → List Datagram
sent_after setup history [] = []
sent_after setup history (event ∷ more) = answer setup history event ++ sent_after setup (history ++ marks setup history event) more

-- a new router sends these datagrams at these events
abbrev pub RouterSends : RouterSetup → List Event → List Datagram → Type 0
RouterSends setup events sends = sends ≡ sent_after setup [] events

-- a count that goes up by one at each event
unfoldable pub counted : ℕ → List Event → ℕ
counted n [] = n
counted n (event ∷ more) = counted (n + 1) more

-- over these events a router came to be another one and gave these datagrams, and the count of its turns went from the first number
-- to the second: whatever history it stood for, it stands for that with the marks of the events
pub record Becomes (old : RouterState) (from : ℕ) (events : List Event) (given : List Datagram) (new : RouterState) (to : ℕ) : Type 0 where
  pub stands : (history : List Mark) → StandsFor old history → StandsFor new (history_after old.setup history events)
  pub sends : (history : List Mark) → StandsFor old history → given ≡ sent_after old.setup history events
  pub setup : new.setup ≡ old.setup
  pub turns : to ≡ counted from events

-- before any event it is as it is, and gave nothing
pub becomes_none : (a : RouterState) (turns : ℕ) → Becomes a turns [] [] a turns
unfolding history_after sent_after counted
becomes_none a turns = record { stands = λ history stands. stands; sends = λ history stands. refl; setup = refl; turns = refl }

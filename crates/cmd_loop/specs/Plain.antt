-- A party that stores nothing and leaves nothing to be finished.
use Rattle.std.specs.Prelude.{◌≡◌, List, [], ◌∷◌, ◌++◌, refl}
use Rattle.std.proofs.Common.{ap, sym, ◌∙◌, subst, append-nil}
use Rattle.r2_base.specs.declared.datagram.Datagram.{Datagram}
use Rattle.r2_base.specs.declared.event.Event.{Event}
use Rattle.hc_log.specs.declared.record.Record.{Record}
use Rattle.cmd_loop.specs.Happenings.{Happening, Came, Closing, events_of}

-- turns at some events more: where a party came to be what it was over some events, it is now what it is over these and the further ones
abbrev pub PlainTurns : {P : Type 0} → (P → List Event → List Datagram → P → Type 0) → P → P → List Event → List Datagram → Type 0
PlainTurns {P} B old new more sends = (first : P) (events : List Event) (sent : List Datagram) → B first events sent old → B first (events ++ more) (sent ++ sends) new

-- it turns at the events that come, and at nothing else, and stores nothing
abbrev pub StoresNothing : {P : Type 0} → (P → List Event → List Datagram → P → Type 0) → P → List Happening → List Record → List Datagram → P → Type 0
StoresNothing B old happened stored sends new = (stored ≡ []) × B old (events_of happened) sends new

-- and there was nothing to be finished
abbrev pub FinishesNothing : {P : Type 0} → (P → List Event → List Datagram → P → Type 0) → P → List Happening → List Record → List Datagram → List Datagram → P → Type 0
FinishesNothing B old happened stored sends replies new = (replies ≡ []) × StoresNothing B old happened stored sends new

-- a rule on the events that come, by which nothing is stored
abbrev pub Unstored : (List Event → List Datagram → Type 0) → List Happening → List Record → List Datagram → Type 0
Unstored S happened stored sends = (stored ≡ []) × S (events_of happened) sends

-- the events of what happened, and then of what happened more
pub events_of_more : (happened more : List Happening) → events_of (happened ++ more) ≡ events_of happened ++ events_of more
events_of_more [] more = refl
events_of_more (Came event ∷ happened) more = ap (λ (es : List Event). event ∷ es) (events_of_more happened more)
events_of_more (Closing ∷ happened) more = events_of_more happened more

-- a turn after the end of the link is one in which nothing comes and nothing is sent
pub plain_closes : {P : Type 0} (B : P → List Event → List Datagram → P → Type 0) (old : P) (before : List Happening) (records : List Record) (sent replies : List Datagram) (new : P)
    → FinishesNothing B old before records sent replies new → StoresNothing B old (before ++ Closing ∷ []) records (sent ++ replies) new
plain_closes B old before records sent replies new finishes = (
  finishes.1.0,
  subst (λ (ds : List Datagram). B old (events_of (before ++ Closing ∷ [])) ds new) (sym (ap (λ (ds : List Datagram). sent ++ ds) finishes.0 ∙ append-nil sent))
      (subst (λ (es : List Event). B old es sent new) (sym (events_of_more before (Closing ∷ []) ∙ append-nil (events_of before))) finishes.1.1),
)

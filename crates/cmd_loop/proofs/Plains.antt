-- Parties that store nothing, in a loop.
use Rattle.std.proofs.Common.{List, [], ◌∷◌, ◌++◌, sym, ◌∙◌, subst, append-nil}
use Rattle.r2_base.specs.declared.datagram.Datagram.{Datagram}
use Rattle.r2_base.specs.declared.event.Event.{Event}
use Rattle.hc_log.specs.declared.record.Record.{Record}
use Rattle.cmd_loop.specs.Happenings.{Happening, Came, events_of}
use Rattle.cmd_loop.specs.Plain.{FinishesNothing, PlainTurns, StoresNothing, events_of_more}

-- a turn is the reaction to its event
pub plain-reacts : {P : Type 0} (B : P → List Event → List Datagram → P → Type 0) (old new : P) (event : Event) (sends : List Datagram) → PlainTurns B old new (event ∷ []) sends
    → (replies : List Datagram) (first : P) (before : List Happening) (records : List Record) (sent : List Datagram)
    → FinishesNothing B first before records sent replies old → StoresNothing B first (before ++ Came event ∷ []) (records ++ []) (sent ++ (replies ++ sends)) new
plain-reacts B old new event sends turns replies first before records sent finished = (
  append-nil records ∙ finished.1.0,
  subst (λ (ds : List Datagram). B first (events_of (before ++ Came event ∷ [])) (sent ++ (ds ++ sends)) new) (sym finished.0)
      (subst (λ (es : List Event). B first es (sent ++ sends) new) (sym (events_of_more before (Came event ∷ []))) (turns first (events_of before) sent finished.1.1)),
)

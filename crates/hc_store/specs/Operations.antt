-- A log of any kind as the service sees it.
use Rattle.std.specs.Prelude.{ℕ, List, map}
use Rattle.r2_base.specs.declared.entry.Kind.{Kind}
use Rattle.hc_store.specs.Replies.{Operation}

-- an entry by the kind that it has and the body of its request
abbrev pub operation_by : {X : Type 0} → (X → Kind) → (X → List ℕ) → X → Operation
operation_by kind body x = record { kind = kind x; body = body x }

-- the entries of a log, in their order
abbrev pub operations_of : {X : Type 0} → (X → Kind) → (X → List ℕ) → List X → List Operation
operations_of kind body log = map (operation_by kind body) log

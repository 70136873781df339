-- What a service keeps after the entries of a log, and after one entry more.
use Rattle.std.proofs.Common.{◌≡◌, ℕ, ◌+◌, List, [], ◌∷◌, ◌++◌, take, slice_get, Some, refl, ap, ◌∙◌}
use Rattle.std.specs.FinMap as finite
use Rattle.std.proofs.lemmas.List.{map-append}
use Rattle.hc_store.specs.Service.{Contents}
use Rattle.hc_store.specs.Replies.{Operation, after_entry, after_all}
use Rattle.hc_log.specs.declared.stored.Stored.{Stored}
use Rattle.hc_service.specs.Entries.{operation_of, operations, contents_after}
use Rattle.hc_service.proofs.Counts.{front-next}

-- entries after others are served after them
pub after_all-append : (contents : Contents) (first second : List Operation) → after_all contents (first ++ second) ≡ after_all (after_all contents first) second
unfolding after_all
after_all-append contents [] second = refl
after_all-append contents (operation ∷ first) second = after_all-append (after_entry contents operation.kind operation.body) first second

pub after_all-one : (contents : Contents) (operation : Operation) → after_all contents (operation ∷ []) ≡ after_entry contents operation.kind operation.body
unfolding after_all
after_all-one contents operation = refl

pub operations-append : (front back : List Stored) → operations (front ++ back) ≡ operations front ++ operations back
unfolding operations
operations-append front back = map-append operation_of front back

pub operations-more : (log : List Stored) (stored : Stored) → operations (log ++ stored ∷ []) ≡ operations log ++ operation_of stored ∷ []
unfolding operations
operations-more log stored = map-append operation_of log (stored ∷ [])

-- what is kept after more entries
pub contents_after-append : (front back : List Stored) → contents_after (front ++ back) ≡ after_all (contents_after front) (operations back)
contents_after-append front back = ap (after_all finite.empty) (operations-append front back) ∙ after_all-append finite.empty (operations front) (operations back)

-- what is kept after one entry more
pub contents_after-next : (log : List Stored) (i : ℕ) (stored : Stored) → slice_get log i ≡ Some stored
    → contents_after (take (i + 1) log) ≡ after_entry (contents_after (take i log)) stored.entry.kind stored.body
contents_after-next log i stored there =
    ap contents_after (front-next log i stored there)
    ∙ ap (after_all finite.empty) (operations-more (take i log) stored)
    ∙ after_all-append finite.empty (operations (take i log)) (operation_of stored ∷ [])
    ∙ after_all-one (contents_after (take i log)) (operation_of stored)

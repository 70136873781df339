-- Replies stay unchanged, whatever entries come after.
use Rattle.std.proofs.Common.{◌≡◌, ℕ, zero, suc, ◌<◌, List, [], ◌∷◌, ◌++◌, length, take, refl, ap, ◌∙◌, arith}
use Rattle.std.specs.Prelude.{slice_get, option_and_then}
use Rattle.std.specs.FinMap as map
use Rattle.std.proofs.lemmas.List.{take-append-le}
use Rattle.hc_store.specs.Replies.{Operation, after_all, entry_reply, reply_at}
use Rattle.hc_store.specs.Laws.{RepliesStand}

slice_get-front : (xs ys : List Operation) (n : ℕ) → n < length xs → slice_get (xs ++ ys) n ≡ slice_get xs n
slice_get-front [] ys n h = absurd (omega arith)
slice_get-front (x ∷ xs) ys zero h = refl
slice_get-front (x ∷ xs) ys (suc n) h = slice_get-front xs ys n (omega arith)

pub replies_stand : RepliesStand
unfolding reply_at
replies_stand log more zero within = refl
replies_stand log more (suc before) within =
    ap (option_and_then (λ operation. entry_reply (after_all map.empty (take before (log ++ more))) (suc before) operation.kind operation.body))
    (slice_get-front log more before (omega arith))
    ∙ ap (λ (front : List Operation). option_and_then (λ operation. entry_reply (after_all map.empty front) (suc before) operation.kind operation.body) (slice_get log before))
    (take-append-le before log more (omega arith))

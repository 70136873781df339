-- Seats for passes that have made no turn may be run.
use Rattle.std.proofs.Common.{◌≡◌, ◌≤◌, ◌++◌, ℕ, List, [], ◌∷◌, All, append-nil, drop, drop_of_length-le, length, map, take, take_all, ap, ◌∙◌, sym, subst, arith}
use Rattle.std.proofs.lemmas.List.Elements.{All-cons, All-head, All-nil, All-tail}
use Rattle.r2_base.specs.Limits.{most_turns}
use Rattle.r2_desk.specs.States.{PassState}
use Rattle.cmd_loop.specs.declared.pace.Pace.{Pace}
use Rattle.cmd_router.specs.Seats.{IsReady}

-- a pass that has made no turn
abbrev pub IsFresh : PassState → Type 0
IsFresh p = p.made.turns ≡ 0

module _ {X : Type 0} (of : X → PassState) (paced : X → Pace) (pace : Pace) (some : 1 ≤ pace.tick_ms) (most : pace.turns ≤ most_turns) where
  ready : (x : X) → IsFresh (of x) → paced x ≡ pace → IsReady ((of x).made.turns ≤ 0) (paced x)
  ready x fresh same = subst (λ (q : Pace). IsReady ((of x).made.turns ≤ 0) q) (sym same) (record { new = omega (arith, fresh); tick = some; turns = most })

  pub all-ready : (xs : List X) → All IsFresh (map of xs) → All (λ (x : X). paced x ≡ pace) xs → All (λ (x : X). IsReady ((of x).made.turns ≤ 0) (paced x)) xs
  all-ready [] fresh same = All-nil (λ (x : X). IsReady ((of x).made.turns ≤ 0) (paced x))
  all-ready (x ∷ xs) fresh same =
      All-cons (λ (u : X). IsReady ((of u).made.turns ≤ 0) (paced u)) x xs (ready x (All-head IsFresh (of x) (map of xs) fresh) (All-head (λ (u : X). paced u ≡ pace) x xs same))
      (all-ready xs (All-tail IsFresh (of x) (map of xs) fresh) (All-tail (λ (u : X). paced u ≡ pace) x xs same))

-- a vector whose items were all written anew
pub mended : {X : Type 0} (n : ℕ) (ys xs : List X) → length ys ≡ length xs → n ≡ length xs → take n (ys ++ drop (length ys) xs) ≡ ys
mended n ys xs same len =
    let none : drop (length ys) xs ≡ [] = drop_of_length-le xs (omega (arith, same)) in
    ap (λ l. take n (ys ++ l)) none ∙ ap (take n) (append-nil ys) ∙ take_all n ys (omega (arith, same, len))

-- What a buffer holds, and what waits in it.
use Rattle.std.proofs.Common.{◌≡◌, ◌+◌, ◌-◌, ◌≤◌, ℕ, List, ◌++◌, length, take, drop, ap, ◌∙◌, append_assoc}
use Rattle.std.proofs.lemmas.List.{take-take, take-append-le, take_rest}
use Rattle.std.proofs.Math.Seq.{take-append-add, take-append_seam}

-- the first bytes of a piece, after those that were there before room was made for it
pub after_old : (v old zeros into post extra : List ℕ) (len : ℕ) (n count : ℕ) → v ≡ old ++ zeros → len ≡ length old → len + count ≤ n → count ≤ length into
    → take (len + count) (take n ((take len v ++ (into ++ post)) ++ extra)) ≡ old ++ take count into
after_old v old zeros into post extra len n count wide is inside within =
    take-take (len + count) n ((take len v ++ (into ++ post)) ++ extra) inside
    ∙ ap (λ (w : List ℕ). take (len + count) ((take len w ++ (into ++ post)) ++ extra)) wide
    ∙ ap (λ (m : ℕ). take (m + count) ((take m (old ++ zeros) ++ (into ++ post)) ++ extra)) is
    ∙ ap (λ (prefix : List ℕ). take (length old + count) ((prefix ++ (into ++ post)) ++ extra)) (take-append_seam old zeros)
    ∙ ap (λ (all : List ℕ). take (length old + count) all) (append_assoc old (into ++ post) extra ∙ ap (λ (l : List ℕ). old ++ l) (append_assoc into post extra))
    ∙ take-append-add old (into ++ (post ++ extra)) count
    ∙ ap (λ (l : List ℕ). old ++ l) (take-append-le count into (post ++ extra) within)

-- what waits in a buffer is all from its start on
pub waiting : (whole items pending : List ℕ) (start : ℕ) → whole ≡ items → drop start items ≡ pending → take (length whole - start) (drop start whole) ≡ pending
waiting whole items pending start same is = take_rest whole start ∙ ap (λ (l : List ℕ). drop start l) same ∙ is

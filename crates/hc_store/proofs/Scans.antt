-- The pairs of a reply to a scan, one after another.
use Rattle.std.proofs.Common.{◌≡◌, ℕ, zero, suc, ◌+◌, ◌-◌, ◌<◌, ◌≤◌, Bool, true, false, List, [], ◌∷◌, ◌++◌, length, take, refl, sym, ap, subst, ◌∙◌, arith, length-append, append_assoc, append-nil, if◌then◌else◌}
use Rattle.std.specs.Prelude.{nat_le}
use Rattle.std.specs.List.{flat_map}
use Rattle.std.proofs.lemmas.Bool.{leb-true, leb-false, le-leb, lt-leb}
use Rattle.r2_base.proofs.NumberBytes.{length-u16_bytes}
use Rattle.hc_store.specs.Service.{most_scanned, pair_bytes, fitting}

-- a pair has its key, its value and two lengths of two bytes
pub length-pair_bytes : (key value : List ℕ) → length (pair_bytes (key, value)) ≡ 4 + length key + length value
unfolding pair_bytes
length-pair_bytes key value =
    simp length-append (omega (arith, length-u16_bytes (length key), length-u16_bytes (length value)))

-- the pairs that follow what was written, and the whole of it
pub record IsAhead (out : List ℕ) (left : ℕ) (pairs : List (List ℕ × List ℕ)) (whole : List ℕ) : Type 0 where
  pub room : length out ≤ most_scanned
  pub joined : out ++ flat_map pair_bytes (fitting (most_scanned - length out) (take left pairs)) ≡ whole

-- before the first pair
pub ahead-at-first : (out : List ℕ) (left : ℕ) (pairs : List (List ℕ × List ℕ)) → out ≡ []
    → IsAhead out left pairs (flat_map pair_bytes (fitting most_scanned (take left pairs)))
ahead-at-first out left pairs none = subst (λ (o : List ℕ). IsAhead o left pairs (flat_map pair_bytes (fitting most_scanned (take left pairs)))) (sym none) (record { room = omega arith; joined = refl })

-- the limit is reached
pub whole-at-limit : {out : List ℕ} {left : ℕ} {pairs : List (List ℕ × List ℕ)} {whole : List ℕ} → IsAhead out left pairs whole → left ≡ 0 → out ≡ whole
unfolding fitting
whole-at-limit {out} {left} {pairs} ahead zero_left =
    sym (append-nil out) ∙ ap (λ n. out ++ flat_map pair_bytes (fitting (most_scanned - length out) (take n pairs))) (sym zero_left) ∙ ahead.joined

pub take-nil : (n : ℕ) → take {A = List ℕ × List ℕ} n [] ≡ []
take-nil zero = refl
take-nil (suc n) = refl

-- no pair is left
pub whole-at-end : {out : List ℕ} {left : ℕ} {whole : List ℕ} → IsAhead out left [] whole → out ≡ whole
unfolding fitting
whole-at-end {out} {left} ahead =
    sym (append-nil out) ∙ ap (λ ps. out ++ flat_map pair_bytes (fitting (most_scanned - length out) ps)) (sym (take-nil left)) ∙ ahead.joined

fits_same : (n p room : ℕ) → n ≤ room → nat_le p (room - n) ≡ nat_le (n + p) room
fits_same n p room h = by (nat_le (n + p) room) refl
  where
    by : (b : Bool) → nat_le (n + p) room ≡ b → nat_le p (room - n) ≡ b
    by true e = le-leb p (room - n) (omega (arith, leb-true (n + p) room e))
    by false e = lt-leb p (room - n) (omega (arith, leb-false (n + p) room e))

-- the next pair is too long
pub whole-when-full : {out : List ℕ} {left : ℕ} {pair : List ℕ × List ℕ} {rest : List (List ℕ × List ℕ)} {whole : List ℕ} → IsAhead out left (pair ∷ rest) whole
    → 0 < left → nat_le (length out + length (pair_bytes pair)) most_scanned ≡ false → out ≡ whole
unfolding fitting
whole-when-full {left = zero} ahead some full = absurd (omega arith)
whole-when-full {out} {left = suc after} {pair} {rest} ahead some full =
    let test = fits_same (length out) (length (pair_bytes pair)) most_scanned ahead.room ∙ full in
    let none : fitting (most_scanned - length out) (pair ∷ take after rest) ≡ [] =
    ap (λ b. if b then pair ∷ fitting (most_scanned - length out - length (pair_bytes pair)) (take after rest) else []) test in
    sym (append-nil out) ∙ ap (λ ps. out ++ flat_map pair_bytes ps) (sym none) ∙ ahead.joined

-- the next pair is written
pub ahead-more : {out next : List ℕ} {left after : ℕ} {pair : List ℕ × List ℕ} {rest : List (List ℕ × List ℕ)} {whole : List ℕ} → IsAhead out left (pair ∷ rest) whole
    → left ≡ suc after → nat_le (length out + length (pair_bytes pair)) most_scanned ≡ true → next ≡ out ++ pair_bytes pair → IsAhead next after rest whole
unfolding fitting
ahead-more {out} {next} {left} {after} {pair} {rest} {whole} ahead is_left fits is =
    let test = fits_same (length out) (length (pair_bytes pair)) most_scanned ahead.room ∙ fits in
    let taken : fitting (most_scanned - length out) (take left (pair ∷ rest)) ≡ pair ∷ fitting (most_scanned - length out - length (pair_bytes pair)) (take after rest) =
    ap (λ n. fitting (most_scanned - length out) (take n (pair ∷ rest))) is_left
    ∙ ap (λ b. if b then pair ∷ fitting (most_scanned - length out - length (pair_bytes pair)) (take after rest) else []) test in
    let size : length next ≡ length out + length (pair_bytes pair) = ap length is ∙ length-append out (pair_bytes pair) in
    let room : most_scanned - length next ≡ most_scanned - length out - length (pair_bytes pair) = omega arith in
    record {
      room = omega (arith, leb-true _ _ fits);
      joined =
          ap (λ (o : List ℕ). o ++ flat_map pair_bytes (fitting (most_scanned - length next) (take after rest))) is
          ∙ ap (λ r. (out ++ pair_bytes pair) ++ flat_map pair_bytes (fitting r (take after rest))) room
          ∙ append_assoc out (pair_bytes pair) _
          ∙ ap (λ ps. out ++ flat_map pair_bytes ps) (sym taken)
          ∙ ahead.joined;
    }

-- A text is split at the first such byte, and nowhere else.
use Rattle.std.proofs.Common.{◌≡◌, ◌≢◌, ℕ, ◌+◌, ◌-◌, ◌<◌, ◌≤◌, List, [], ◌∷◌, ◌++◌, length, get_or, take, drop, arith, inl, inr, sym, ap, ◌∙◌, append_assoc, length-append, length-drop, length-take-le}
use Rattle.std.proofs.Math.Seq.{get_or-append_seam}
use Rattle.std.proofs.lemmas.Bool.{cases_lt}
use Rattle.std.proofs.lemmas.Grind.{get_or_default_zero}
use Rattle.std.proofs.lemmas.List.{get_or_append_left, get_or-take, take-append-drop, drop_more, take-append-le, take_all, drop_at}
use Rattle.r2_base.specs.Text.{IsSplit}

-- no byte before i is the byte that is looked for
abbrev pub NoneBefore : ℕ → ℕ → List ℕ → Type 0
NoneBefore byte i text = (k : ℕ) → k < i → get_or text k 0 ≢ byte

-- what a slice from n on holds
pub from-on : (n : ℕ) (text : List ℕ) → take (length text - n) (drop n text) ≡ drop n text
from-on n text = take_all (length text - n) (drop n text) (omega (arith, length-drop n text))

pub split-found : (byte i : ℕ) (text : List ℕ) → NoneBefore byte i text → i < length text → get_or text i 0 ≡ byte
    → IsSplit byte text (take i text) (drop (i + 1) text)
split-found byte i text before inside here =
    let shorter : length (take i text) ≡ i = length-take-le i text (omega arith) in
    record {
      joined = sym (take-append-drop i text) ∙ ap (λ t. take i text ++ t) (drop_more text i 0 inside ∙ ap (λ b. b ∷ drop (i + 1) text) here);
      first = λ k d in_front.
          let below : k < i = omega arith in
          let inside_text : k < length text = omega arith in
          rw (get_or-take i text k d below, get_or_default_zero text k d inside_text) (before k below);
    }

-- the byte at which a text is split comes right after its prefix
at_seam : (byte : ℕ) (text front rest : List ℕ) → IsSplit byte text front rest → (get_or text (length front) 0 ≡ byte) × (length front < length text)
at_seam byte text front rest split =
    (rw split.joined (get_or-append_seam front byte rest 0), omega (arith, ap length split.joined, length-append front (byte ∷ rest)))

-- each byte of the prefix is another
in_front : (byte i : ℕ) (text front rest : List ℕ) → IsSplit byte text front rest → i < length front → get_or text i 0 ≢ byte
in_front byte i text front rest split below =
    rw (split.joined, get_or_append_left front (byte ∷ rest) 0 i below) (split.first i 0 below)

behind : (front : List ℕ) (byte : ℕ) (rest : List ℕ) (i : ℕ) → length front ≡ i → drop (i + 1) (front ++ byte ∷ rest) ≡ rest
behind front byte rest i same =
    let split : front ++ byte ∷ rest ≡ (front ++ byte ∷ []) ++ rest = sym (append_assoc front (byte ∷ []) rest) in
    rw split (drop_at (front ++ byte ∷ []) rest (i + 1) (length-append front (byte ∷ []) ∙ omega arith))

pub split-only : (byte i : ℕ) (text front rest : List ℕ) → NoneBefore byte i text → get_or text i 0 ≡ byte → IsSplit byte text front rest
    → (take i text ≡ front) × (drop (i + 1) text ≡ rest)
split-only byte i text front rest before here split =
    let seam = at_seam byte text front rest split in
    let not_behind : length front ≤ i = elim (cases_lt i (length front)) [
      | inl below ↦ absurd (in_front byte i text front rest split below here)
      | inr above ↦ above
    ] in
    let same : length front ≡ i = elim (cases_lt (length front) i) [
      | inl below ↦ absurd (before (length front) below seam.0)
      | inr above ↦ omega arith
    ] in (
      ap (take i) split.joined ∙ take-append-le i front (byte ∷ rest) (omega arith) ∙ take_all i front (omega arith),
      ap (drop (i + 1)) split.joined ∙ behind front byte rest i same,
    )

pub split-none : (byte : ℕ) (text front rest : List ℕ) → NoneBefore byte (length text) text → IsSplit byte text front rest → ⊥
split-none byte text front rest before split =
    let seam = at_seam byte text front rest split in
    before (length front) seam.1 seam.0

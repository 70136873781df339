-- What bytes can begin with, and what excludes what.
use Rattle.std.proofs.Common.{◌≢◌, ◌+◌, ◌<◌, inl, inr, ℕ, List, [], ◌∷◌, ◌++◌, All, length, take, drop, refl, sym, ap, subst, arith, take-append-drop, length-append}
use Rattle.std.proofs.lemmas.List.{take-take, take_all, length-take-le}
use Rattle.std.proofs.lemmas.List.Elements.{All-take, All-tail}
use Rattle.cmd_lines.specs.Texts.{IsText}
use Rattle.cmd_lines.specs.Reader.{HasLine, HasLongLine, HasKnownLine}
use Rattle.cmd_lines.specs.FirstLines.{IsLineLen}

abbrev NoEnd : List ℕ → Type 0
NoEnd bytes = All (λ b. b ≢ 10) bytes

-- so many bytes without an end are a line that is too long
pub long_of : (longest : ℕ) (bytes : List ℕ) (n : ℕ) → All (λ b. b ≢ 10) (take n bytes) → longest < n → longest < length bytes → HasLongLine longest bytes
long_of longest bytes n none long more = record {
  bad = take (longest + 1) bytes;
  rest = drop (longest + 1) bytes;
  one_line = subst NoEnd (take-take (longest + 1) n bytes (omega arith)) (All-take (λ b. b ≢ 10) (longest + 1) (take n bytes) none);
  long = length-take-le (longest + 1) bytes (omega arith);
  split = sym (take-append-drop (longest + 1) bytes);
}

-- the same of all the bytes
pub long_of_all : (longest : ℕ) (bytes : List ℕ) → All (λ b. b ≢ 10) bytes → longest < length bytes → HasLongLine longest bytes
long_of_all longest bytes none more =
    long_of longest bytes (length bytes) (subst NoEnd (sym (take_all (length bytes) bytes (omega arith))) none) more more

-- an end among the bytes is one
pub has_end : (xs ys : List ℕ) → All (λ b. b ≢ 10) (xs ++ 10 ∷ ys) → ⊥
has_end [] ys none = none 0 0 (omega arith) refl
has_end (x ∷ xs) ys none = has_end xs ys (All-tail (λ b. b ≢ 10) x (xs ++ 10 ∷ ys) none)

-- the beginning of a line doesn't begin with a whole one
pub line_is_no_part : (longest : ℕ) (bytes : List ℕ) → HasLine longest bytes → IsText longest bytes → ⊥
line_is_no_part longest bytes h part = has_end h.line h.rest (subst NoEnd h.split part.one_line)

pub long_is_no_part : (longest : ℕ) (bytes : List ℕ) → HasLongLine longest bytes → IsText longest bytes → ⊥
long_is_no_part longest bytes h part =
    absurd (omega (arith, ap length h.split, length-append h.bad h.rest, h.long, part.short))

pub known_is_no_part : (longest : ℕ) (bytes : List ℕ) → HasKnownLine longest bytes → IsText longest bytes → ⊥
known_is_no_part longest bytes h part = elim h [ inl line ↦ line_is_no_part longest bytes line part | inr long ↦ long_is_no_part longest bytes long part ]

-- where the first line's length is known, the bytes begin with a line
pub line_of_len : (longest : ℕ) (bytes : List ℕ) (len : ℕ) → IsLineLen longest bytes len → HasLine longest bytes
line_of_len longest bytes len h = record { line = take len bytes; rest = drop (len + 1) bytes; text = h.text; split = h.split }

pub line_len_is_no_part : (longest : ℕ) (bytes : List ℕ) (len : ℕ) → IsLineLen longest bytes len → IsText longest bytes → ⊥
line_len_is_no_part longest bytes len h part = line_is_no_part longest bytes (line_of_len longest bytes len h) part

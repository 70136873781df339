-- What a file is after a change, and what a crash makes of one, by the bytes before the change.
use Rattle.std.proofs.Common.{◌≡◌, ℕ, ◌+◌, ◌<◌, ◌≤◌, List, [], ◌∷◌, ◌++◌, length, get_or, take, drop, refl, sym, ap, ◌∙◌, arith, length-take, take-append-drop}
use Rattle.std.proofs.lemmas.List.{append-nil, drop_all, drop_more, take_all, take-append-le, take-take}
use Rattle.hc_disk.specs.Disk.{Wrote, Cut, IsTorn, changed}

-- the first bytes, up to the place of a write, are as they were
pub take-changed : (n at reach : ℕ) (bytes file : List ℕ) → n ≤ at → at ≤ length file → take n (changed file (Wrote at reach bytes)) ≡ take n file
take-changed n at reach bytes file below within =
    take-append-le n (take at file) (bytes ++ drop (at + length bytes) file) (omega (arith, length-take at file)) ∙ take-take n at file below

-- and up to the length to which the file was cut
pub take-cut : (n len kept : ℕ) (file : List ℕ) → n ≤ kept → take n (changed file (Cut len kept)) ≡ take n file
take-cut n len kept file below = take-take n kept file below

-- a piece that is written at the end
pub changed-end : (at reach : ℕ) (bytes file : List ℕ) → length file ≡ at → changed file (Wrote at reach bytes) ≡ file ++ bytes
changed-end at reach bytes file is =
    ap (λ (l : List ℕ). l ++ (bytes ++ drop (at + length bytes) file)) (take_all at file (omega (arith, is)))
    ∙ ap (λ (l : List ℕ). file ++ (bytes ++ l)) (drop_all (at + length bytes) file (omega (arith, is)))
    ∙ ap (λ (l : List ℕ). file ++ l) (append-nil bytes)

-- what a crash makes of one keeps the file before it
pub torn-end : (at reach : ℕ) (old left : List ℕ) → length old ≡ at → IsTorn at reach old left → left ≡ old ++ drop at left
torn-end at reach old left is torn =
    sym (take-append-drop at left) ∙ ap (λ (l : List ℕ). l ++ drop at left) (torn.before ∙ take_all at old (omega (arith, is)))

-- a file by the byte at a place
pub split_at_byte : (at : ℕ) (file : List ℕ) → at < length file → file ≡ take at file ++ get_or file at 0 ∷ drop (at + 1) file
split_at_byte at file within =
    sym (take-append-drop at file) ∙ ap (λ (l : List ℕ). take at file ++ l) (drop_more file at 0 within)

-- one byte is written over
pub changed-byte : (at reach byte : ℕ) (file : List ℕ) → changed file (Wrote at reach (byte ∷ [])) ≡ take at file ++ byte ∷ drop (at + 1) file
changed-byte at reach byte file = refl

-- a crash may leave any byte there, and no other one is touched
pub torn-byte : (at : ℕ) (old left : List ℕ) → at < length old → IsTorn at 1 old left → left ≡ take at old ++ get_or left at 0 ∷ drop (at + 1) old
torn-byte at old left within torn =
    split_at_byte at left (omega (arith, torn.no_shorter))
    ∙ ap (λ (l : List ℕ). l ++ get_or left at 0 ∷ drop (at + 1) left) torn.before
    ∙ ap (λ (l : List ℕ). take at old ++ get_or left at 0 ∷ l) torn.after

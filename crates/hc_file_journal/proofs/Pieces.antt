-- The bytes of a file, read piece by piece.
use Rattle.std.proofs.Common.{◌≡◌, ℕ, ◌+◌, ◌<◌, ◌≤◌, List, [], ◌++◌, length, take, drop, Option, Some, None, IfSome, inl, inr, refl, sym, ap, ◌∙◌, arith, length-append, length-take}
use Rattle.std.proofs.lemmas.Bool.{cases_lt}
use Rattle.std.proofs.lemmas.List.{take_all}
use Rattle.std.proofs.Math.Seq.{take-add}
use Rattle.hc_disk.specs.Disk.{Moments, now_content}
use Rattle.hc_disk.specs.Calls.{Reads}
use Rattle.hc_file_journal.specs.Recovery.{AreFirst}

more_first : (file out piece : List ℕ) (n : ℕ) → AreFirst out file → n ≤ length piece → take n piece ≡ take n (drop (length out) file) → AreFirst (out ++ take n piece) file
more_first file out piece n first within same =
    let size : length (out ++ take n piece) ≡ length out + n = omega (arith, length-append out (take n piece), length-take n piece) in
    ap (λ (l : List ℕ). out ++ l) same
    ∙ ap (λ (l : List ℕ). l ++ take n (drop (length out) file)) first
    ∙ sym (take-add (length out) n file)
    ∙ ap (λ (k : ℕ). take k file) (sym size)

pub read_more : (a : Option Moments) (out piece : List ℕ) (n : ℕ) → n ≤ length piece → IfSome a (λ t. AreFirst out (now_content t)) → IfSome a (λ t. Reads (now_content t) (length out) n piece)
    → IfSome a (λ t. AreFirst (out ++ take n piece) (now_content t))
read_more None out piece n within first read = tt
read_more (Some t) out piece n within first read = more_first (now_content t) out piece n first within read.bytes

-- a piece that has room reads something before the end
pub read_some : (a : Option Moments) (out piece : List ℕ) (n : ℕ) → 0 < length piece → IfSome a (λ t. Reads (now_content t) (length out) n piece) → IfSome a (λ t. length out < length (now_content t) → 0 < n)
read_some None out piece n room read = tt
read_some (Some t) out piece n room read = read.some room

pub first_none : (a : Option Moments) → IfSome a (λ t. AreFirst [] (now_content t))
first_none None = tt
first_none (Some t) = refl

-- all that there is
pub first_all : (a : Option Moments) (out : List ℕ) (size : ℕ) → IfSome a (λ t. size ≡ length (now_content t)) → IfSome a (λ t. AreFirst out (now_content t)) → size ≤ length out → IfSome a (λ t. out ≡ now_content t)
first_all None out size is first enough = tt
first_all (Some t) out size is first enough = first ∙ take_all (length out) (now_content t) (omega (arith, is, enough))

-- nothing more was read, so that was all
pub first_end : (a : Option Moments) (out : List ℕ) (n : ℕ) → IfSome a (λ t. length out < length (now_content t) → 0 < n) → IfSome a (λ t. AreFirst out (now_content t)) → n ≡ 0 → IfSome a (λ t. out ≡ now_content t)
first_end None out n some first none = tt
first_end (Some t) out n some first none = all (now_content t) out n some first none
  where
    all : (file out : List ℕ) (n : ℕ) → (length out < length file → 0 < n) → AreFirst out file → n ≡ 0 → out ≡ file
    all file out n some first none = elim (cases_lt (length out) (length file)) [
      | inl short ↦ absurd (omega (arith, some short, none))
      | inr enough ↦ first ∙ take_all (length out) file (omega (arith, enough))
    ]

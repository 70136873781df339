-- Bytes that are read one by one.
use Rattle.std.proofs.Common.{◌≡◌, ℕ, ◌+◌, ◌-◌, ◌<◌, ◌≤◌, min, List, length, take, drop, get_or, refl, sym, ◌∙◌, arith, inl, inr, length-take, length-drop}
use Rattle.std.proofs.lemmas.List.{ext_get_or, get_or-drop, get_or-take}
use Rattle.hc_disk.specs.Calls.{Reads}

pub filled : (count at : ℕ) (into file : List ℕ) → count ≤ length into → at + count ≤ length file → ((k : ℕ) → k < count → get_or into k 0 ≡ get_or file (at + k) 0)
    → take count into ≡ take count (drop at file)
filled count at into file room long each =
    ext_get_or 0 (take count into) (take count (drop at file)) (omega (arith, length-take count into, length-take count (drop at file), length-drop at file, room, long))
    (λ k below. let before : k < count = omega (arith, below, length-take count into) in
    get_or-take count into k 0 before ∙ each k before ∙ sym (get_or-take count (drop at file) k 0 before ∙ get_or-drop at file k 0))

pub reads_none : (file into : List ℕ) (at size : ℕ) → size ≡ length file → size ≤ at → Reads file at 0 into
reads_none file into at size is past =
    record { bytes = refl; inside = inr refl; some = λ room before. absurd (omega (arith, is, past, before)) }

pub reads_some : (file into : List ℕ) (at count size room : ℕ) → size ≡ length file → at < size → count ≡ min (size - at) room → length into ≡ room → take count into ≡ take count (drop at file)
    → Reads file at count into
reads_some file into at count size room is before many long bytes = record {
  bytes = bytes;
  inside = inl (omega (arith, is, before, many));
  some = λ has there. omega (arith, is, before, many, long, has);
}

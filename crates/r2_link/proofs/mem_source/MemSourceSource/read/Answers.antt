use Rattle.std.proofs.Common.{◌≡◌, ℕ, List, [], ◌+◌, ◌<◌, ◌++◌, length, take, drop, min, sym, ap, ◌∙◌, arith}
use Rattle.std.proofs.lemmas.Grind.{common_steps}
use Rattle.std.proofs.lemmas.List.{take-append-drop, drop-drop, length-drop, nil_from_length}
use Rattle.r2_link.proofs.mem_source.MemSourceSource.read.Goals as goal

-- the n bytes at the beginning of what is left went over, and none only where none was left
moved : (bs rest into new : List ℕ) (at n : ℕ) → rest ≡ drop at bs → n ≡ min (length into) (length rest) → take n new ≡ take n rest → length new ≡ length into
    → (drop at bs ≡ take n new ++ drop (at + n) bs) × (n ≡ 0 → 0 < length new → drop (at + n) bs ≡ [])
moved bs rest into new at n is count copied len = (
  sym is ∙ sym (take-append-drop n rest) ∙ ap (λ l. l ++ drop n rest) (sym copied) ∙ ap (λ l. take n new ++ l) (ap (drop n) is ∙ drop-drop n at bs),
  λ none some. nil_from_length (drop (at + n) bs) (omega (arith, length-drop (at + n) bs, length-drop at bs, ap length is)),
)

pub returns-clause-bytes : goal.returns-clause-bytes
returns-clause-bytes c =
    let both = moved c.self.inside.bytes _ c.args.into.now _ c.self.inside.at _ (grind (arith, common_steps)) c.copy_prefix-count.ensures.count c.copy_prefix-count.ensures.copied (grind (arith, common_steps)) in
    (sym (ap (λ s. s.left) c.self.view_is) ∙ both.0, both.1)

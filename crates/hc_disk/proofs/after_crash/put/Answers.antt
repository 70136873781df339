use Rattle.std.proofs.Common.{◌∙◌, ◌++◌, ◌-◌, List, ℕ, length, take, drop, ap, arith, refl}
use Rattle.hc_disk.proofs.Crashed.{put_is}
use Rattle.hc_disk.proofs.after_crash.put.Goals as goal

pub returns : goal.returns
returns c =
    c.in_ok-extend_from_slice-2.ensures.items
    ∙ ap (λ (l : List ℕ). l ++ c.as_slice.result.now) (c.in_ok-extend_from_slice.ensures.items ∙ ap (λ (l : List ℕ). l ++ c.args.piece.now) c.truncate.ensures.items)
    ∙ put_is c.args.at (length c.args.piece.now) c.min-end.result c.args.file.now.items c.args.piece.now c.as_slice.result.now refl
    (omega (arith, c.min-end.ensures, c.saturating_add.ensures, c.len.ensures)) (omega (arith, c.len.ensures, c.len.type_inv))
    (c.as_slice.ensures.value ∙ c.in_ok-after.ensures.items_if_clones_equal (λ x y same. same) ∙ ap (λ (l : List ℕ). take (length l - c.min-end.result) (drop c.min-end.result l)) c.deref.ensures.value)

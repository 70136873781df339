use Rattle.std.proofs.Common.{false, ◌∙◌}
use Rattle.std.specs.List.{range_with_len}
use Rattle.std.proofs.lemmas.List.FromFn.{length-range_with_len}
use Rattle.std.proofs.lemmas.Simd.{splat_is_map}
use Rattle.r2_base.specs.Limits.{id_limit}
use Rattle.hc_world.specs.Notes.{answered_in}
use Rattle.hc_world.proofs.group.unanswered.Goals as goal

pub returns : goal.returns
unfolding answered_in
returns c = c.in_ok-vec.ensures.items_if_clones_equal (λ y e. e) ∙ splat_is_map (range_with_len 0 id_limit) id_limit false (length-range_with_len 0 id_limit)

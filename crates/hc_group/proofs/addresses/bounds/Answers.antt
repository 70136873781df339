use Rattle.std.proofs.Common.{rules, arith, [], ◌∷◌, refl, sym, subst, ◌∙◌}
use Rattle.hc_replier.specs.Bounds.{AreBounds}
use Rattle.hc_group.proofs.addresses.bounds.Goals as goal

many : AreBounds (64 ∷ 64 ∷ 64 ∷ [])
many = record { few = omega arith; each = search rules; some = (0, 64, omega arith, refl, omega arith) }

pub returns-clause-bounds : goal.returns-clause-bounds
returns-clause-bounds c = subst AreBounds (sym (c.from_vec.ensures ∙ c.in_ok-from_slice.ensures.items)) many

use Rattle.std.proofs.Common.{◌+◌, ◌⊎◌, Contains, subst, refl}
use Rattle.r2_link.specs.Memory.{IsTooSmall}
use Rattle.r2_link.proofs.mem_link.MemLinkLink.bind.Goals as goal

pub returns-then-is_refused-clause-exact : goal.returns-then-is_refused-clause-exact
returns-then-is_refused-clause-exact c = (
  λ _. subst (λ s. Contains s.fails (s.calls + 1) ⊎ IsTooSmall s.room 0) c.self.view_is
      (subst (λ l. Contains l (c.self.inside.calls + 1) ⊎ IsTooSmall c.self.inside.room 0) c.as_slice.ensures (c.is_refused-is_refused.ensures.0 c.if-is_refused.true)),
  λ _. refl,
)

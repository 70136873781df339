use Rattle.std.proofs.Common.{◌+◌, Contains, subst, refl}
use Rattle.r2_link.proofs.mem_link.MemLinkLink.receive.Goals as goal

pub returns-then-is_to_fail-clause-exact : goal.returns-then-is_to_fail-clause-exact
returns-then-is_to_fail-clause-exact c = (
  λ _. subst (λ s. Contains s.fails (s.calls + 1)) c.self.view_is
      (subst (λ l. Contains l (c.self.inside.calls + 1)) c.as_slice.ensures (c.is_named-is_to_fail.ensures.0 c.if-is_to_fail.true)),
  λ _. refl,
)

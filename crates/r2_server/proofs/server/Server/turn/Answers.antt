use Rattle.std.proofs.Common.{sym, subst, ◌∙◌}
use Rattle.r2_server.specs.Sound.{IsSoundUnlessSpent}
use Rattle.r2_server.proofs.Sound.{one_turn, turned_sound}
use Rattle.r2_server.proofs.server.Server.turn.Goals as goal

pub invariant_of-self-2 : goal.invariant_of-self-2
invariant_of-self-2 g c = rw c.in_ok-sends.ensures.state (turned_sound _ _ (subst IsSoundUnlessSpent (sym c.in-Some.ensures.value) c.self.invariant))

pub returns-clause-counted : goal.returns-clause-counted
returns-clause-counted g c =
    λ n h. rw c.in_ok-sends.ensures.state (one_turn _ _ _ n (c.in-Some.ensures.value ∙ c.self.view_is) h)

use Rattle.std.proofs.Common.{◌≡◌, subst}
use Rattle.r2_jbsq.specs.Answer.{decision_at, sends_of}
use Rattle.r2_jbsq.specs.Packets.{HoldsRequests}
use Rattle.r2_jbsq.specs.State.{RouterState}
use Rattle.r2_jbsq.proofs.Steps.{sends-answer, step-leaves}
use Rattle.r2_jbsq.proofs.Turns.{decision-grows, turn-counts, turn-few}
use Rattle.r2_jbsq.proofs.router.Router.turn.Goals as goal

pub returns-clause-sends : goal.returns-clause-sends
returns-clause-sends c =
    rw (← c.self.view_is) (λ history k. sends-answer _ history c.args.event.now c.in_ok-sends.sends c.in_ok-decision.decision c.in_ok-decision.ensures.is c.in_ok-sends.ensures.sends k)

pub returns-clause-stands : goal.returns-clause-stands
returns-clause-stands c =
    let is = subst (λ (r : RouterState). c.in_ok-decision.decision ≡ decision_at r.setup r.standing c.args.event.now) c.self.view_is c.in_ok-decision.ensures.is in
    λ history k. step-leaves _ _ history c.args.event.now c.in_ok-decision.decision is c.in_ok-carry_out.ensures.state k

pub returns-clause-grows : goal.returns-clause-grows
returns-clause-grows c = decision-grows _ _ c.in_ok-decision.decision c.in_ok-carry_out.ensures.state

pub returns-clause-packets : goal.returns-clause-packets
returns-clause-packets c =
    let d = c.in_ok-decision.decision in
    let sends = c.in_ok-sends.sends in
    let is = subst (λ (r : RouterState). d ≡ decision_at r.setup r.standing c.args.event.now) c.self.view_is c.in_ok-decision.ensures.is in
    let given = subst (λ (r : RouterState). sends ≡ sends_of r.setup r.standing d) c.self.view_is c.in_ok-sends.ensures.sends in
    let requests = subst (λ (r : RouterState). HoldsRequests r.standing) c.self.view_is c.self.invariant.requests in
    turn-counts _ _ c.args.event.now sends d is c.in_ok-carry_out.ensures.state given requests c.in_ok-decision.ensures.brings

pub returns-clause-few : goal.returns-clause-few
returns-clause-few c = turn-few _ _ c.in_ok-sends.sends c.in_ok-decision.decision c.in_ok-sends.ensures.sends c.self.invariant.servers

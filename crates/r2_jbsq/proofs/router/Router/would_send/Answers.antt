use Rattle.std.proofs.Common.{◌≡◌, List}
use Rattle.std.proofs.lemmas.Result.{IfOk-weaker}
use Rattle.r2_base.specs.declared.datagram.Datagram.{Datagram}
use Rattle.r2_jbsq.specs.Answer.{answer, sends_of}
use Rattle.r2_jbsq.specs.History.{Mark}
use Rattle.r2_jbsq.specs.State.{RouterState, StandsFor}
use Rattle.r2_jbsq.proofs.Steps.{sends-answer}
use Rattle.r2_jbsq.proofs.router.Router.would_send.Goals as goal

pub returns-clause-stands : goal.returns-clause-stands
returns-clause-stands c =
    let r : RouterState =
    record {
      setup = c.self.inside.setup;
      standing = c.self.inside.requests;
      accepted = c.self.inside.accepted;
      forwarded = c.self.inside.forwarded;
      answered = c.self.inside.answered;
      turns = c.self.inside.turns;
    } in
    rw (← c.self.view_is)
    (IfOk-weaker c.sends_of.result
    (λ (sends : List Datagram). sends ≡ sends_of r.setup r.standing c.in_ok-decision.decision)
    (λ (sends : List Datagram). (history : List Mark) → StandsFor r history → sends ≡ answer r.setup history c.args.event.now)
    (λ sends same. λ history k. sends-answer r history c.args.event.now sends c.in_ok-decision.decision c.in_ok-decision.ensures.is same k)
    c.sends_of.ensures.sends)

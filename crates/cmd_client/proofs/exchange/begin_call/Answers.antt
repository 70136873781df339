use Rattle.std.proofs.Common.{◌≡◌, List, inl, inr, ap, Err, sym, ◌∙◌, subst, []}
use Rattle.r2_base.specs.declared.datagram.Datagram.{Datagram}
use Rattle.r2_link.specs.Links.{LinkPasses}
use Rattle.r2_client.specs.Sendings.{sending}
use Rattle.r2_client.specs.Session.{new_call, refusal}
use Rattle.r2_client.specs.State.{SessionState}
use Rattle.cmd_client.specs.Talk.{IsOpen}
use Rattle.cmd_client.proofs.Begins.{began-opened, cuts-asks, not-refused, refused, went-asks}
use Rattle.cmd_client.proofs.Passing.{talks-none, talks-sends}
use Rattle.cmd_client.proofs.exchange.begin_call.Goals as goal

pub returns-in-Err-Memory-clause-stops : goal.returns-in-Err-Memory-clause-stops
returns-in-Err-Memory-clause-stops g c = λ ticker o room. inl (talks-none (record o { link = g.L.Link.told c.args.link.now }))

pub returns-in-Err-IdsUsed-clause-stops : goal.returns-in-Err-IdsUsed-clause-stops
returns-in-Err-IdsUsed-clause-stops g c = λ ticker o room. (
  refused (refusal c.args.session.now c.args.body.now) c.begin.result (c.in-Err-IdsUsed.is ∙ ap Err c.in-Err-IdsUsed.field-0-is) c.begin.ensures.cause,
  talks-none (record o { link = g.L.Link.told c.args.link.now }),
)

pub returns-in-Ok-send_all-clause-went : goal.returns-in-Ok-send_all-clause-went
returns-in-Ok-send_all-clause-went g c = λ ticker o.
    let s = c.args.session.now in
    let p = g.L.Link.told c.args.link.now in
    let q = g.L.Link.told c.send_all.new.link in
    let may = not-refused (refusal s c.args.body.now) c.begin.result c.in-Ok.sends c.in-Ok.is c.begin.ensures.cause in
    let all : c.as_slice.result.now ≡ sending s.me s.targets (new_call s c.args.policy c.args.body.now) = c.as_slice.ensures ∙ c.in-Ok.ensures.sends in
    let sent = subst (λ (ds : List Datagram). LinkPasses p q [] ds) all c.in-Ok-send_all.ensures.whole in
    went-asks s c.begin.new.self ticker c.args.policy c.args.body.now (record o { link = p }) (record o { link = q }) may c.in-Ok.ensures.session
    (talks-sends o p q (sending s.me s.targets (new_call s c.args.policy c.args.body.now)) sent)

pub returns-in-Ok-send_all-clause-opened : goal.returns-in-Ok-send_all-clause-opened
returns-in-Ok-send_all-clause-opened g c =
    subst (λ (s : SessionState). IsOpen s.open_call) (sym c.in-Ok.ensures.session) (began-opened c.args.session.now c.args.policy c.args.body.now)

pub returns-clause-stops : goal.returns-clause-stops
returns-clause-stops g c = λ ticker o room.
    let s = c.args.session.now in
    let p = g.L.Link.told c.args.link.now in
    let q = g.L.Link.told c.send_all.new.link in
    let may = not-refused (refusal s c.args.body.now) c.begin.result c.in-Ok.sends c.in-Ok.is c.begin.ensures.cause in
    let all : c.as_slice.result.now ≡ sending s.me s.targets (new_call s c.args.policy c.args.body.now) = c.as_slice.ensures ∙ c.in-Ok.ensures.sends in
    let part = c.in-Err.ensures.part in
    inr (cuts-asks s ticker c.args.policy c.args.body.now (record o { link = p }) (record o { link = q }) part.sent part.unsent room may (sym all ∙ part.split) (talks-sends o p q part.sent part.passed))

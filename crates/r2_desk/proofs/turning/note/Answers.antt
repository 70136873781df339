-- The step that is put last has what would be sent, and that is what is sent.
use Rattle.std.proofs.Common.{◌≡◌, ◌+◌, ◌++◌, ◌∷◌, [], List, rules, subst, sym, ◌∙◌}
use Rattle.r2_desk.specs.declared.step.Step.{Step}
use Rattle.r2_desk.specs.Trails.{IsTrailOf}
use Rattle.r2_desk.specs.Turns.{step}
use Rattle.r2_desk.proofs.Trails.{turn_within}
use Rattle.r2_desk.proofs.turning.note.Goals as goal

pub returns-clause-kept : goal.returns-clause-kept
returns-clause-kept c = λ k.
    let sends = c.in_ok-sends.sends in
    let same : c.in_ok-would_send.field-0 ≡ sends = c.in_ok-would_send.ensures.exact ∙ sym c.in_ok-sends.ensures.turn.exact.sends in
    let all : c.push_reserved.new.self.items ≡ c.args.trail.now.items ++ step c.args.pass (c.args.turns + 1) c.args.event.now sends ∷ [] = search rules in
    subst (λ (steps : List Step). IsTrailOf c.plain.new.router (c.args.turns + 1) c.args.most steps) (sym all)
    (turn_within _ _ c.args.turns c.args.most c.args.pass c.args.trail.now.items c.args.event.now sends c.in_ok-sends.ensures.turn c.requires.within k)

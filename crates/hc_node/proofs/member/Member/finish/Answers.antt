use Rattle.std.proofs.Common.{◌∙◌, ap}
use Rattle.hc_member.specs.Finish.{applied, finished}
use Rattle.hc_node.proofs.Finishing.{due-replies, finished-is, finished-sends, is-due, queue-after}
use Rattle.hc_node.proofs.member.Member.finish.Goals as goal

pub apply-requires-clause-sound : goal.apply-requires-clause-sound
apply-requires-clause-sound g c κs within =
    rw c.set_due.ensures (is-due c.args.setup.now c.args.self.now c.requires.setup c.requires.sound).sound

pub apply-requires-clause-replies : goal.apply-requires-clause-replies
apply-requires-clause-replies g c κs within =
    rw c.set_due.ensures (due-replies c.args.setup.now c.args.self.now c.requires.setup c.requires.sound)

pub report_own-requires-clause-queue : goal.report_own-requires-clause-queue
report_own-requires-clause-queue g c κs within =
    λ role.
    queue-after c.args.setup.now c.args.self.now c.apply.new.self c.requires.setup c.requires.sound
    (c.in_ok-apply.ensures.state ∙ ap (applied c.args.setup.now) c.set_due.ensures) role

pub returns-clause-state : goal.returns-clause-state
returns-clause-state g c =
    finished-is c.args.setup.now c.args.self.now c.apply.new.self c.report_own.new.self c.requires.setup c.requires.sound
    (c.in_ok-apply.ensures.state ∙ ap (applied c.args.setup.now) c.set_due.ensures) c.report_own.ensures

pub returns-clause-sends : goal.returns-clause-sends
returns-clause-sends g c =
    finished-sends c.args.setup.now c.args.self.now c.set_due.new.self c.args.sends.now.items c.apply.new.sends.items c.set_due.ensures c.in_ok-apply.ensures.sends

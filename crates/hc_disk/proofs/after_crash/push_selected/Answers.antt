use Rattle.std.proofs.Common.{refl}
use Rattle.hc_disk.proofs.Crashed.{all_selected}
use Rattle.hc_disk.proofs.after_crash.push_selected.Goals as goal

pub steps-preserved : goal.steps-preserved
steps-preserved c = (
  c.in_ok-push_step.ensures.left,
  λ name h. c.in_ok-push_step.ensures.more name (c.steps.invariant.1 name h),
  all_selected c.args.pieces.now c.args.steps.now c.steps.files.items c.push_step.new.files.items c.steps.step-index _ _ c.steps-test.true refl c.in_ok-push_step.ensures.more
      c.in_ok-push_step.ensures.all c.steps.invariant.2,
)

use Rattle.std.proofs.Common.{ap}
use Rattle.hc_disk.specs.declared.steps.Step.TheVariants as step
use Rattle.hc_disk.specs.MemDisk.{Selected}
use Rattle.hc_disk.proofs.MoreSteps.{calls_kept, inside_kept, run_inside, run_is}
use Rattle.hc_disk.proofs.steps.keep_select.Goals as goal

pub returns-clause-calls : goal.returns-clause-calls
returns-clause-calls c = calls_kept c.args.steps.now.items c.keep_step.new.steps.items (step.Select c.keep_bytes-run.result) c.args.pieces.now.items c.args.name.now c.keep_bytes-run.new.pieces.items c.keep_bytes-run.ensures.pieces c.keep_step.ensures.steps c.requires.inside (Selected c.args.name.now) (ap Selected (run_is c.args.pieces.now.items c.args.name.now c.keep_bytes-run.result c.keep_bytes-run.ensures.run))

pub returns-clause-inside : goal.returns-clause-inside
returns-clause-inside c = inside_kept c.args.steps.now.items c.keep_step.new.steps.items (step.Select c.keep_bytes-run.result) c.args.pieces.now.items c.args.name.now c.keep_bytes-run.new.pieces.items c.keep_bytes-run.ensures.pieces c.keep_step.ensures.steps c.requires.inside (run_inside c.args.pieces.now.items c.args.name.now c.keep_bytes-run.result c.keep_bytes-run.ensures.run)

use Rattle.std.proofs.Common.{◌∙◌, List, ap, refl}
use Rattle.std.proofs.lemmas.List.{take_all}
use Rattle.hc_disk.specs.declared.steps.Step.{Step}
use Rattle.hc_disk.specs.Replay.{moments_at}
use Rattle.hc_disk.proofs.GoneOver.{name_goes}
use Rattle.hc_disk.proofs.replay.selected_name.Goals as goal

pub steps-preserved : goal.steps-preserved
steps-preserved c = λ files. name_goes files c.args.pieces.now c.args.steps.now c.steps.step-index _ _ c.steps-test.true refl c.steps.name.now c.next_name-name.result.now c.next_name-name.ensures (c.steps.invariant files)

pub returns : goal.returns
returns c = λ files.
    c.steps.invariant files ∙ ap (λ (l : List Step). (moments_at files c.args.pieces.now l).now.selected) (take_all c.steps.step-index c.args.steps.now c.steps-test.false)

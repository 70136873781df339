use Rattle.std.proofs.Common.{◌∙◌, List, length, ap, refl, sym}
use Rattle.std.proofs.lemmas.List.{take_all}
use Rattle.hc_disk.specs.declared.steps.Step.{Step}
use Rattle.hc_disk.specs.Replay.{content_at}
use Rattle.hc_disk.proofs.GoneOver.{content-file_of, ends_here, name_goes, size_goes}
use Rattle.hc_disk.proofs.replay.file_length.Goals as goal

pub steps-init : goal.steps-init
steps-init c = (refl, ap length (c.stored_bytes.ensures ∙ sym (content-file_of c.args.first.now c.args.wanted.now)))

pub next_size-size-requires : goal.next_size-size-requires
next_size-size-requires c = ends_here c.args.first.now c.args.pieces.now c.args.steps.now c.steps.step-index _ _ c.steps-test.true refl c.requires.sound c.requires.inside

pub steps-preserved : goal.steps-preserved
steps-preserved c = (
  name_goes c.args.first.now c.args.pieces.now c.args.steps.now c.steps.step-index _ _ c.steps-test.true refl c.steps.name.now c.next_name-name.result.now c.next_name-name.ensures c.steps.invariant.0,
  size_goes c.args.first.now c.args.pieces.now c.args.steps.now c.steps.step-index _ _ c.steps-test.true refl c.requires.sound c.requires.inside c.args.wanted.now c.steps.name.now c.eq.result c.steps.invariant.0 c.eq.ensures c.steps.size c.next_size-size.result c.next_size-size.ensures c.steps.invariant.1,
)

pub returns : goal.returns
returns c =
    c.steps.invariant.1 ∙ ap (λ (l : List Step). length (content_at c.args.first.now c.args.pieces.now l c.args.wanted.now)) (take_all c.steps.step-index c.args.steps.now c.steps-test.false)

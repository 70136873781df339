use Rattle.std.proofs.Common.{◌∙◌, List, ap, refl, sym}
use Rattle.std.proofs.lemmas.List.{take_all}
use Rattle.hc_disk.specs.declared.steps.Step.{Step}
use Rattle.hc_disk.specs.Crash.{left_by}
use Rattle.hc_disk.specs.Replay.{moments_at}
use Rattle.hc_disk.proofs.Crashed.{content_goes, left-file_of, left_goes}
use Rattle.hc_disk.proofs.GoneOver.{content-file_of, name_goes}
use Rattle.hc_disk.proofs.after_crash.bytes_left.Goals as goal

pub steps-init : goal.steps-init
steps-init c = (
  refl,
  c.in_ok-content.ensures.items_if_clones_equal (λ x y same. same) ∙ c.stored_bytes-bytes.ensures ∙ sym (content-file_of c.args.first.now c.args.wanted.now),
  c.in_ok-left.ensures.items_if_clones_equal (λ x y same. same) ∙ c.stored_bytes-bytes.ensures ∙ sym (left-file_of c.args.pick c.args.first.now c.args.wanted.now),
)

pub steps-preserved : goal.steps-preserved
steps-preserved c = (
  name_goes c.args.first.now c.args.pieces.now c.args.steps.now c.steps.step-index _ _ c.steps-test.true refl c.steps.name.now c.next_name-name.result.now c.next_name-name.ensures c.steps.invariant.0,
  content_goes c.args.first.now c.args.pieces.now c.args.steps.now c.steps.step-index _ _ c.steps-test.true refl c.args.wanted.now c.steps.name.now c.eq.result c.steps.invariant.0 c.eq.ensures c.steps.content.items c.change.new.content.items c.in_ok-change.ensures.content c.steps.invariant.1,
  left_goes c.args.first.now c.args.pieces.now c.args.steps.now c.steps.step-index _ _ c.steps-test.true refl c.args.wanted.now c.steps.name.now c.eq.result c.steps.invariant.0 c.eq.ensures c.args.pick c.steps.content.items c.steps.left.items c.change.new.left.items c.in_ok-change.ensures.left c.steps.invariant.1 c.steps.invariant.2,
)

pub returns : goal.returns
returns c =
    c.from_vec.ensures
    ∙ c.steps.invariant.2
    ∙ ap (λ (l : List Step). left_by c.args.pick ((moments_at c.args.first.now c.args.pieces.now l).now.files c.args.wanted.now)) (take_all c.steps.step-index c.args.steps.now c.steps-test.false)

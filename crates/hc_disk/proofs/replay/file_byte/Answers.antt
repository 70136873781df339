use Rattle.std.proofs.Common.{◌∙◌, ◌<◌, List, ℕ, get_or, length, ap, refl, subst, sym}
use Rattle.std.proofs.lemmas.List.{take_all}
use Rattle.hc_disk.specs.declared.steps.Step.{Step}
use Rattle.hc_disk.specs.Replay.{content_at}
use Rattle.hc_disk.proofs.GoneOver.{content-file_of, byte_goes, ends_here, name_goes}
use Rattle.hc_disk.proofs.replay.file_byte.Goals as goal

pub steps-init : goal.steps-init
steps-init c = (refl, λ there. ap (λ (l : List ℕ). get_or l c.args.place 0) (content-file_of c.args.first.now c.args.wanted.now ∙ sym c.stored_bytes.ensures) ∙ sym c.first_byte-byte.ensures)

pub next_byte-byte-requires : goal.next_byte-byte-requires
next_byte-byte-requires c = ends_here c.args.first.now c.args.pieces.now c.args.steps.now c.steps.step-index _ _ c.steps-test.true refl c.requires.sound c.requires.inside

pub steps-preserved : goal.steps-preserved
steps-preserved c = (
  name_goes c.args.first.now c.args.pieces.now c.args.steps.now c.steps.step-index _ _ c.steps-test.true refl c.steps.name.now c.next_name-name.result.now c.next_name-name.ensures c.steps.invariant.0,
  byte_goes c.args.first.now c.args.pieces.now c.args.steps.now c.steps.step-index _ _ c.steps-test.true refl c.requires.sound c.requires.inside c.args.wanted.now c.steps.name.now c.eq.result c.steps.invariant.0 c.eq.ensures c.args.place c.steps.byte c.next_byte-byte.result c.next_byte-byte.ensures c.steps.invariant.1,
)

pub returns : goal.returns
returns c =
    let all = take_all c.steps.step-index c.args.steps.now c.steps-test.false in
    sym (c.steps.invariant.1 (subst (λ (l : List Step). c.args.place < length (content_at c.args.first.now c.args.pieces.now l c.args.wanted.now)) (sym all) c.requires.place))
    ∙ ap (λ (l : List Step). get_or (content_at c.args.first.now c.args.pieces.now l c.args.wanted.now) c.args.place 0) all

use Rattle.std.proofs.Common.{◌∙◌, List, ℕ, length, take, drop, ap, arith}
use Rattle.hc_disk.specs.Disk.{now_content}
use Rattle.hc_disk.specs.Replay.{content_at, moments_at}
use Rattle.hc_disk.proofs.Reading.{reads_none, reads_some}
use Rattle.hc_disk.proofs.replay.read_file.Goals as goal

pub returns-then-size-at-clause-many : goal.returns-then-size-at-clause-many
returns-then-size-at-clause-many c = omega (arith, (c.file_length-size.ensures ∙ ap (λ (n : List ℕ). length (content_at c.args.first.now c.args.pieces.now c.args.steps.now n)) (c.selected_name-name.ensures c.args.first.now)), c.if-size-at.true)

pub returns-then-size-at-clause-bytes : goal.returns-then-size-at-clause-bytes
returns-then-size-at-clause-bytes c = reads_none (now_content (moments_at c.args.first.now c.args.pieces.now c.args.steps.now)) c.args.into.now c.args.at c.file_length-size.result (c.file_length-size.ensures ∙ ap (λ (n : List ℕ). length (content_at c.args.first.now c.args.pieces.now c.args.steps.now n)) (c.selected_name-name.ensures c.args.first.now)) c.if-size-at.true

pub returns-clause-many : goal.returns-clause-many
returns-clause-many c = omega (arith, (c.file_length-size.ensures ∙ ap (λ (n : List ℕ). length (content_at c.args.first.now c.args.pieces.now c.args.steps.now n)) (c.selected_name-name.ensures c.args.first.now)), c.min-count.ensures, c.if-size-at.false)

pub returns-clause-bytes : goal.returns-clause-bytes
returns-clause-bytes c =
    reads_some (now_content (moments_at c.args.first.now c.args.pieces.now c.args.steps.now)) c.fill.new.into c.args.at c.min-count.result c.file_length-size.result (length c.args.into.now) (c.file_length-size.ensures ∙ ap (λ (n : List ℕ). length (content_at c.args.first.now c.args.pieces.now c.args.steps.now n)) (c.selected_name-name.ensures c.args.first.now)) c.if-size-at.false c.min-count.ensures c.fill.ensures.long
    (c.fill.ensures.bytes ∙ ap (λ (n : List ℕ). take c.min-count.result (drop c.args.at (content_at c.args.first.now c.args.pieces.now c.args.steps.now n))) (c.selected_name-name.ensures c.args.first.now))

use Rattle.std.proofs.Common.{◌∙◌, List, ℕ, length, ap}
use Rattle.hc_disk.specs.Replay.{content_at}
use Rattle.hc_disk.proofs.replay.selected_length.Goals as goal

pub returns : goal.returns
returns c = c.file_length.ensures ∙ ap (λ (n : List ℕ). length (content_at c.args.first.now c.args.pieces.now c.args.steps.now n)) (c.selected_name-name.ensures c.args.first.now)

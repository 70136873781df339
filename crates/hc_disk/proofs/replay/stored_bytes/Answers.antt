use Rattle.std.proofs.Common.{◌∙◌, List, ℕ, bytes_eq, sym, ap}
use Rattle.hc_disk.proofs.GoneOver.{file_of-other}
use Rattle.hc_disk.proofs.replay.stored_bytes.Goals as goal

pub files-preserved : goal.files-preserved
files-preserved c =
    c.files.invariant
    ∙ file_of-other c.args.first.now c.files.file-index c.file-item.result c.args.wanted.now c.files-test.true c.file-item.is
    (ap (λ (l : List ℕ). bytes_eq l c.args.wanted.now) (sym c.as_slice.ensures) ∙ sym c.eq.ensures ∙ c.if-eq.false)

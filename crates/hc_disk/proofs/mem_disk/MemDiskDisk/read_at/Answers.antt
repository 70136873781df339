use Rattle.std.proofs.Common.{refl, subst}
use Rattle.hc_disk.specs.Disk.{Moments, now_content}
use Rattle.hc_disk.specs.Calls.{Reads}
use Rattle.hc_disk.proofs.GoneOver.{told_is}
use Rattle.hc_disk.proofs.mem_disk.MemDiskDisk.read_at.Goals as goal

pub returns-clause-bytes : goal.returns-clause-bytes
returns-clause-bytes c =
    subst (λ (t : Moments). Reads (now_content t) c.args.at c.read_file.result c.read_file.new.into)
    (told_is _ c.args.self.now c.as_slice-first.result.now c.as_slice-pieces.result.now c.self.inside.pieces.items c.as_slice-steps.result.now c.self.inside.steps.items c.self.view_is
    c.as_slice-first.ensures c.as_slice-pieces.ensures.value c.as_slice-steps.ensures.value refl) c.read_file.ensures.bytes

use Rattle.hc_disk.specs.MemDisk.{Put}
use Rattle.hc_disk.proofs.GoneOver.{told_kept}
use Rattle.hc_disk.proofs.mem_disk.MemDiskDisk.write_at.Goals as goal

pub returns-clause-told : goal.returns-clause-told
returns-clause-told c = told_kept _ c.args.self.now _ (Put c.args.at c.args.piece.now) c.self.view_is c.keep_write.ensures.calls

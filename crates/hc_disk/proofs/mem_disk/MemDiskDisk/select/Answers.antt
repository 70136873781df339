use Rattle.std.proofs.Common.{map}
use Rattle.hc_disk.specs.MemDisk.{Selected, call_of}
use Rattle.hc_disk.proofs.GoneOver.{told_kept}
use Rattle.hc_disk.proofs.mem_disk.MemDiskDisk.select.Goals as goal

pub returns-clause-told : goal.returns-clause-told
returns-clause-told c = told_kept _ c.args.self.now (map (call_of c.keep_select.new.pieces.items) c.keep_select.new.steps.items) (Selected c.args.name.now) c.self.view_is (cc (c.keep_select.ensures.calls, c.as_bytes-name.ensures.value))

-- What was read are the file's first bytes, and nothing changed on the disk.
use Rattle.std.proofs.Common.{◌≡◌, ◌-◌, ◌≤◌, length, IfSome}
use Rattle.hc_disk.specs.Disk.{now_content}
use Rattle.hc_file_journal.specs.Recovery.{AreFirst}
use Rattle.hc_file_journal.proofs.file_reading.read_all.Given as goal

abbrev pub invariant-pieces : goal.invariant-pieces
invariant-pieces g l =
    IfSome (g.D.Disk.told l.fn.disk) (λ t. AreFirst l.out.items (now_content t))
    × (g.D.Disk.told l.disk ≡ g.D.Disk.told l.fn.disk)
    × (g.D.Disk.faults l.fn.disk ≤ g.D.Disk.faults l.disk)
    × (g.D.Disk.identity l.disk ≡ g.D.Disk.identity l.fn.disk)

abbrev pub decreases-pieces : goal.decreases-pieces
decreases-pieces g l = l.size - length l.out.items

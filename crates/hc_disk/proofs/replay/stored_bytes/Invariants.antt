-- None of the files so far has the name.
use Rattle.std.proofs.Common.{◌≡◌, drop}
use Rattle.hc_disk.specs.MemDisk.{file_of}
use Rattle.hc_disk.proofs.replay.stored_bytes.Given as goal

abbrev pub invariant-files : goal.invariant-files
invariant-files l = file_of l.first l.wanted ≡ file_of (drop l.file-index l.first) l.wanted

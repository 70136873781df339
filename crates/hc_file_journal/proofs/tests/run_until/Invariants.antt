-- The state is that to which the acknowledged records lead.
use Rattle.std.proofs.Common.{◌≡◌}
use Rattle.hc_disk.specs.MemDisk.{moments_of}
use Rattle.hc_log.specs.Durable.{replay}
use Rattle.hc_file_journal.specs.FileJournal.{kept_records}
use Rattle.hc_file_journal.proofs.tests.run_until.Given as goal

abbrev pub invariant-records : goal.invariant-records
invariant-records l = l.durable.state ≡ replay (kept_records l.journal.end (moments_of l.journal.disk.first l.journal.disk.done))

-- The records before what is left are read.
use Rattle.std.proofs.Common.{◌≡◌, ◌≤◌, length, true}
use Rattle.hc_file_journal.specs.RowReading.{IsRead}
use Rattle.hc_file_journal.proofs.row_reading.read_row.Given as goal

abbrev pub invariant-records : goal.invariant-records
invariant-records l = IsRead l.bytes l.rest l.durable.state × (l.durable.whole ≡ true) × (length l.rest ≤ length l.bytes)

abbrev pub decreases-records : goal.decreases-records
decreases-records l = length l.rest

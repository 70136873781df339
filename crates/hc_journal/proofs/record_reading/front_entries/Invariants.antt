use Rattle.std.proofs.Common.{◌≡◌, ◌-◌}
use Rattle.hc_journal.specs.RecordReading.{front_entries}
use Rattle.hc_journal.proofs.RecordLoop.{with_front}
use Rattle.hc_journal.proofs.record_reading.front_entries.Given as goal

-- what was read and what is still read are all that is read
abbrev pub invariant-entries : goal.invariant-entries
invariant-entries l = with_front l.entries.items (front_entries (l.count - l.counter) l.rest) ≡ front_entries l.count l.bytes

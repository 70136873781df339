use Rattle.std.proofs.Common.{◌≡◌, ◌-◌}
use Rattle.hc_message.specs.Fields.{after}
use Rattle.hc_message.specs.Reading.{front_entries}
use Rattle.hc_message.proofs.reading.check_entries.Given as goal

-- the bytes after what is still read are the bytes after all
abbrev pub invariant-entries : goal.invariant-entries
invariant-entries l =
    after (front_entries (l.count - l.counter) l.low l.most l.rest) ≡ after (front_entries l.count l.least l.most l.bytes)

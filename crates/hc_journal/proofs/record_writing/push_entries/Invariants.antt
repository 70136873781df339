use Rattle.std.proofs.Common.{◌≡◌, ◌++◌, All, take}
use Rattle.std.specs.List.{flat_map}
use Rattle.r2_base.specs.Names.{FitsRid}
use Rattle.hc_journal.specs.Record.{stored_bytes}
use Rattle.hc_journal.proofs.record_writing.push_entries.Given as goal

-- the bytes so far are those of the first entries, whose request ids fit
abbrev pub invariant-entries : goal.invariant-entries
invariant-entries l = record {
  written : l.out.items ≡ l.initial.out.items ++ flat_map stored_bytes (take l.stored-index l.entries);
  fits : All (λ s. FitsRid s.entry.rid) (take l.stored-index l.entries);
}

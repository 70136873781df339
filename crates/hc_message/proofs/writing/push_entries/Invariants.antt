use Rattle.std.proofs.Common.{◌≡◌, ◌++◌, All, take}
use Rattle.std.specs.List.{flat_map}
use Rattle.hc_message.specs.Entry.{narrow_entry_bytes}
use Rattle.r2_base.specs.Names.{FitsRid}
use Rattle.hc_message.proofs.writing.push_entries.Given as goal

-- the bytes so far are those of the first entries, whose request ids fit
abbrev pub invariant-entries : goal.invariant-entries
invariant-entries l = record {
  written : l.out.items ≡ l.initial.out.items ++ flat_map narrow_entry_bytes (take l.entry-index l.entries);
  fits : All (λ e. FitsRid e.rid) (take l.entry-index l.entries);
}

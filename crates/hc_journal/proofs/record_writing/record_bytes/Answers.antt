use Rattle.std.proofs.Common.{◌≡◌, ◌≤◌, ℕ, List, length, append_assoc, rules, subst, sym}
use Rattle.hc_journal.specs.Record.{record_bytes}
use Rattle.hc_journal.specs.RecordLaws.{most_record_bytes}
use Rattle.hc_journal.proofs.RecordLaws.{records_are_short, spelling_is_read}
use Rattle.hc_journal.proofs.record_writing.record_bytes.Goals as goal

pub returns-clause-read_back : goal.returns-clause-read_back
unfolding record_bytes
returns-clause-read_back c =
    let same : c.from_vec.result ≡ record_bytes c.args.r.now = search (rules, append_assoc) in
    spelling_is_read c.args.r.now c.from_vec.result (search rules) (record { in_range = c.requires; same = same })

pub returns-clause-short : goal.returns-clause-short
unfolding record_bytes
returns-clause-short c =
    let same : c.from_vec.result ≡ record_bytes c.args.r.now = search (rules, append_assoc) in
    subst (λ (bytes : List ℕ). length bytes ≤ most_record_bytes) (sym same) (records_are_short c.args.r.now c.requires)

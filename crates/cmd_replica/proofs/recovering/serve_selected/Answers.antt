use Rattle.std.proofs.Common.{option_map, refl, rules}
use Rattle.hc_file_journal.specs.FileJournal.{kept_records}
use Rattle.cmd_replica.proofs.recovering.serve_selected.Goals as goal

pub returns-in-Ok-clause-served : goal.returns-in-Ok-clause-served
returns-in-Ok-clause-served g c o =
    let before = c.in-Ok.journal in
    let after = c.serve_bound.new.journal in
    record {
      recovered = g.D.Disk.told before.disk.now;
      records = option_map (kept_records before.end) (g.D.Disk.told before.disk.now);
      from = c.in-Ok.from.state;
      was_recovered = record {
        since = c.in-Ok.ensures.any_moment;
        journal = c.in-Ok.ensures.told;
        end = before.end;
        same = refl;
        leaves = c.in-Ok.ensures.acknowledged;
      };
      last = option_map (kept_records after.end) (g.D.Disk.told after.disk.now);
      serves = c.serve_bound.ensures.ran o;
      kept = record { end = after.end; same = search rules };
      ended = after.ended;
      since = search rules;
    }

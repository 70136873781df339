use Rattle.std.proofs.Common.{◌≡◌, [], replicate}
use Rattle.r2_jbsq.proofs.rows.new_rows.Given as goal

abbrev pub invariant-rows : goal.invariant-rows
invariant-rows l = l.rows.items ≡ replicate l.counter []

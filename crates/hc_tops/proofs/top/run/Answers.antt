-- What the words mean is within the limits of the calls.
use Rattle.std.proofs.Common.{map}
use Rattle.std.specs.String.{string_bytes}
use Rattle.hc_tops.proofs.Meanings.{means_within}
use Rattle.hc_tops.proofs.top.run.Goals as goal

pub run_meant-status-requires-after_bounds : goal.run_meant-status-requires-after_bounds
run_meant-status-requires-after_bounds g c = λ κ bounds. means_within (map (λ w. string_bytes w) c.args.words.now) c.in-Ok.meant c.in-Ok.ensures.found

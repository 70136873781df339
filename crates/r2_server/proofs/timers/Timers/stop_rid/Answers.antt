use Rattle.std.proofs.Common.{rules}
use Rattle.std.proofs.lemmas.Fn.{filter_same}
use Rattle.r2_server.specs.Timers.{stopped}
use Rattle.r2_server.proofs.timers.Timers.stop_rid.Goals as goal

pub returns : goal.returns
unfolding stopped
returns c = rw (← c.self.view_is) (filter_same _ _ _ (λ x b f' k. search rules) _ _ c.retain.ensures.filtered)

use Rattle.std.proofs.Common.{rules}
use Rattle.std.proofs.lemmas.Fn.{filter_same}
use Rattle.r2_jbsq.specs.Standing.{without}
use Rattle.r2_jbsq.proofs.row.Row.close.Goals as goal

pub returns : goal.returns
unfolding without
returns c = rw (← c.self.view_is) (filter_same _ _ _ (λ x b f' k. search rules) _ _ c.retain.ensures.filtered)

use Rattle.std.proofs.Common.{◌∙◌, [], ap, refl}
use Rattle.hc_log.specs.Rows.{entries_of}
use Rattle.hc_log.proofs.Kept.{IsKept-none}
use Rattle.hc_log.proofs.Rows.{entries-none}
use Rattle.hc_log.proofs.log.Log.new.Goals as goal

pub invariant_of-result : goal.invariant_of-result
invariant_of-result c =
    rw (c.new.ensures.items, c.new-2.ensures.items, entries-none []) (IsKept-none c.new-3.result _ c.new-3.ensures.empty refl)

pub returns : goal.returns
returns c = ap (λ rows. entries_of c.new-2.result.items rows) c.new.ensures.items ∙ entries-none c.new-2.result.items

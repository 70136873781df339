use Rattle.hc_store.proofs.Maps.{len_of_tree}
use Rattle.hc_store.proofs.store.Store.len.Goals as goal

pub returns : goal.returns
returns c =
    let len = len_of_tree c.self.inside.pairs c.self.invariant.ordered in
    let view = c.self.view_is in
    let was = c.len.ensures.len in
    cc (len, view, was)

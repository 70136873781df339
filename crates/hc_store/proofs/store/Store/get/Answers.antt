use Rattle.hc_store.proofs.Maps.{get_is_lookup}
use Rattle.hc_store.proofs.store.Store.get.Goals as goal

pub returns : goal.returns
returns c =
    let found = get_is_lookup c.self.inside.pairs c.args.key.now in
    let view = c.self.view_is in
    let was = c.get.ensures.value in
    cc (found, view, was)

use Rattle.std.proofs.Common.{ap, ◌∙◌, take}
use Rattle.std.specs.List.{flat_map}
use Rattle.hc_store.specs.Service.{most_scanned, pair_bytes, fitting, pairs_from, scanned}
use Rattle.hc_store.proofs.Maps.{pairs_of_range}
use Rattle.hc_store.proofs.store.Store.scan.Goals as goal

pub returns : goal.returns
unfolding scanned
returns c =
    let between = c.range-pairs.ensures.between tt in
    let pairs = pairs_of_range c.self.inside.pairs c.args.key.now c.self.invariant.ordered in
    let view = ap (λ m. pairs_from m c.args.key.now) c.self.view_is in
    let written = c.in_ok-push_pairs.ensures in
    c.from_vec.ensures ∙ written ∙ ap (λ ps. flat_map pair_bytes (fitting most_scanned (take c.args.limit ps))) (between ∙ pairs ∙ view)

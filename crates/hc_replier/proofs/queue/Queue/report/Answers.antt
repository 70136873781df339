use Rattle.std.proofs.Common.{ap, rules}
use Rattle.std.specs.Prelude.{nat_lt}
use Rattle.std.proofs.lemmas.Fn.{filter_same}
use Rattle.hc_replier.specs.Queues.{Row}
use Rattle.hc_replier.proofs.queue.Queue.report.Goals as goal

pub returns : goal.returns
returns c =
    let kept = filter_same _ (λ index. nat_lt c.args.applied index) _ (λ x b f' k. search rules) _ _ c.retain.ensures.filtered in
    rw (← c.self.view_is) (ap (λ given. record { bound = c.self.inside.bound; given = given }) kept)

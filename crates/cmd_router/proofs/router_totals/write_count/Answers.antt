use Rattle.std.proofs.Common.{decimal}
use Rattle.r2_link.proofs.Streams.{AppendsPrefix-then}
use Rattle.cmd_router.specs.Totals.{count_text}
use Rattle.cmd_router.proofs.router_totals.write_count.Goals as goal

pub returns-clause-prefix : goal.returns-clause-prefix
unfolding count_text
returns-clause-prefix g c = AppendsPrefix-then _ _ _ c.args.name.now (decimal c.args.n) c.write_decimal.ensures.prefix c.in_ok-write_all.ensures.whole

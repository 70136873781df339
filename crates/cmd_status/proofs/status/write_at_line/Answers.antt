use Rattle.std.proofs.Common.{codes, decimal}
use Rattle.cmd_status.proofs.Reports.{prefix_of_first, prefix_of_second, prefix_of_third}
use Rattle.cmd_status.proofs.status.write_at_line.Goals as goal

pub returns-in_err-write_all-clause-prefix : goal.returns-in_err-write_all-clause-prefix
returns-in_err-write_all-clause-prefix g c =
    prefix_of_first _ _ (codes "line ") (decimal c.args.line) c.args.said.now c.in_err-write_all.ensures.prefix

pub returns-in_err-write_decimal-clause-prefix : goal.returns-in_err-write_decimal-clause-prefix
returns-in_err-write_decimal-clause-prefix g c =
    prefix_of_second _ _ _ (codes "line ") (decimal c.args.line) c.args.said.now c.in_ok-write_all.ensures.whole c.in_err-write_decimal.ensures.prefix

pub returns-clause-prefix : goal.returns-clause-prefix
returns-clause-prefix g c =
    prefix_of_third _ _ _ _ (codes "line ") (decimal c.args.line) c.args.said.now c.in_ok-write_all.ensures.whole c.in_ok-write_decimal.ensures.whole c.write_all-2.ensures.prefix

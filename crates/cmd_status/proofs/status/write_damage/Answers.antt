use Rattle.std.proofs.Common.{codes, decimal}
use Rattle.std.proofs.lemmas.Result.{on_ok_weaker}
use Rattle.r2_link.proofs.Streams.{Appends-trans, AppendsPrefix-longer, AppendsPrefix-then}
use Rattle.cmd_status.proofs.status.write_damage.Goals as goal

pub returns-in_err-write_all-clause-prefix : goal.returns-in_err-write_all-clause-prefix
returns-in_err-write_all-clause-prefix g c =
    AppendsPrefix-longer _ _ (codes "journal damaged at ") (decimal c.args.at) c.in_err-write_all.ensures.prefix

pub returns-clause-prefix : goal.returns-clause-prefix
returns-clause-prefix g c =
    AppendsPrefix-then _ _ _ (codes "journal damaged at ") (decimal c.args.at) c.write_decimal.ensures.prefix c.in_ok-write_all.ensures.whole

pub returns-clause-whole : goal.returns-clause-whole
returns-clause-whole g c =
    on_ok_weaker c.write_decimal.result
    (λ second. Appends-trans _ _ _ (codes "journal damaged at ") (decimal c.args.at) c.in_ok-write_all.ensures.whole second)
    c.write_decimal.ensures.whole

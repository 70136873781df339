use Rattle.std.proofs.Common.{◌∷◌, [], codes}
use Rattle.cmd_status.specs.Texts.{cause_text}
use Rattle.cmd_status.proofs.Reports.{prefix_of_first, prefix_of_second, prefix_of_third, all_three, on_ok}
use Rattle.cmd_status.proofs.status.write_error_line.Goals as goal

pub returns-in_err-write_all-clause-prefix : goal.returns-in_err-write_all-clause-prefix
returns-in_err-write_all-clause-prefix g c =
    prefix_of_first _ _ (codes "r2p2_suite: ") (cause_text c.args.status) (10 ∷ []) c.in_err-write_all.ensures.prefix

pub returns-in_err-write_cause-clause-prefix : goal.returns-in_err-write_cause-clause-prefix
returns-in_err-write_cause-clause-prefix g c =
    prefix_of_second _ _ _ (codes "r2p2_suite: ") (cause_text c.args.status) (10 ∷ []) c.in_ok-write_all.ensures.whole c.in_err-write_cause.ensures.prefix

pub returns-clause-prefix : goal.returns-clause-prefix
returns-clause-prefix g c =
    prefix_of_third _ _ _ _ (codes "r2p2_suite: ") (cause_text c.args.status) (10 ∷ []) c.in_ok-write_all.ensures.whole c.in_ok-write_cause.ensures.whole c.write_all-2.ensures.prefix

pub returns-clause-whole : goal.returns-clause-whole
returns-clause-whole g c = on_ok c.write_all-2.result _ _ (λ last. all_three _ _ _ _ (codes "r2p2_suite: ") (cause_text c.args.status) (10 ∷ []) c.in_ok-write_all.ensures.whole c.in_ok-write_cause.ensures.whole last) c.write_all-2.ensures.whole

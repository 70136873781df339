-- The line is five pieces, of which the first three are one.
use Rattle.std.proofs.Common.{◌∷◌, ◌++◌, [], codes}
use Rattle.cmd_status.proofs.Reports.{all_three, prefix_of_first, prefix_of_second, prefix_of_third, on_ok}
use Rattle.cmd_router.specs.Totals.{count_text, totals_line}
use Rattle.cmd_router.proofs.router_totals.write_totals.Goals as goal

pub returns-in_err-write_count-clause-prefix : goal.returns-in_err-write_count-clause-prefix
unfolding totals_line
returns-in_err-write_count-clause-prefix g c =
    let t = c.args.totals in
    let one = count_text (codes "turns ") t.turns in
    let two = count_text (codes " accepted ") t.accepted in
    let three = count_text (codes " forwarded ") t.forwarded in
    let four = count_text (codes " answered ") t.answered in
    prefix_of_first _ _ (one ++ two ++ three) four (10 ∷ []) (prefix_of_first _ _ one two three c.in_err-write_count.ensures.prefix)

pub returns-in_err-write_count-2-clause-prefix : goal.returns-in_err-write_count-2-clause-prefix
unfolding totals_line
returns-in_err-write_count-2-clause-prefix g c =
    let t = c.args.totals in
    let one = count_text (codes "turns ") t.turns in
    let two = count_text (codes " accepted ") t.accepted in
    let three = count_text (codes " forwarded ") t.forwarded in
    let four = count_text (codes " answered ") t.answered in
    prefix_of_first _ _ (one ++ two ++ three) four (10 ∷ []) (prefix_of_second _ _ _ one two three c.in_ok-write_count.ensures.whole c.in_err-write_count-2.ensures.prefix)

pub returns-in_err-write_count-3-clause-prefix : goal.returns-in_err-write_count-3-clause-prefix
unfolding totals_line
returns-in_err-write_count-3-clause-prefix g c =
    let t = c.args.totals in
    let one = count_text (codes "turns ") t.turns in
    let two = count_text (codes " accepted ") t.accepted in
    let three = count_text (codes " forwarded ") t.forwarded in
    let four = count_text (codes " answered ") t.answered in
    prefix_of_first _ _ (one ++ two ++ three) four (10 ∷ [])
    (prefix_of_third _ _ _ _ one two three c.in_ok-write_count.ensures.whole c.in_ok-write_count-2.ensures.whole c.in_err-write_count-3.ensures.prefix)

pub returns-in_err-write_count-4-clause-prefix : goal.returns-in_err-write_count-4-clause-prefix
unfolding totals_line
returns-in_err-write_count-4-clause-prefix g c =
    let t = c.args.totals in
    let one = count_text (codes "turns ") t.turns in
    let two = count_text (codes " accepted ") t.accepted in
    let three = count_text (codes " forwarded ") t.forwarded in
    let four = count_text (codes " answered ") t.answered in
    prefix_of_second _ _ _ (one ++ two ++ three) four (10 ∷ [])
    (all_three _ _ _ _ one two three c.in_ok-write_count.ensures.whole c.in_ok-write_count-2.ensures.whole c.in_ok-write_count-3.ensures.whole)
    c.in_err-write_count-4.ensures.prefix

pub returns-clause-prefix : goal.returns-clause-prefix
unfolding totals_line
returns-clause-prefix g c =
    let t = c.args.totals in
    let one = count_text (codes "turns ") t.turns in
    let two = count_text (codes " accepted ") t.accepted in
    let three = count_text (codes " forwarded ") t.forwarded in
    let four = count_text (codes " answered ") t.answered in
    prefix_of_third _ _ _ _ (one ++ two ++ three) four (10 ∷ [])
    (all_three _ _ _ _ one two three c.in_ok-write_count.ensures.whole c.in_ok-write_count-2.ensures.whole c.in_ok-write_count-3.ensures.whole)
    c.in_ok-write_count-4.ensures.whole c.write_all.ensures.prefix

pub returns-clause-whole : goal.returns-clause-whole
unfolding totals_line
returns-clause-whole g c =
    let t = c.args.totals in
    let one = count_text (codes "turns ") t.turns in
    let two = count_text (codes " accepted ") t.accepted in
    let three = count_text (codes " forwarded ") t.forwarded in
    let four = count_text (codes " answered ") t.answered in
    on_ok c.write_all.result _ _
    (λ last. all_three _ _ _ _ (one ++ two ++ three) four (10 ∷ [])
    (all_three _ _ _ _ one two three c.in_ok-write_count.ensures.whole c.in_ok-write_count-2.ensures.whole c.in_ok-write_count-3.ensures.whole)
    c.in_ok-write_count-4.ensures.whole last)
    c.write_all.ensures.whole

use Rattle.std.proofs.Common.{◌++◌, sym, ap, ◌∙◌, append-nil}
use Rattle.hc_order.proofs.Apart.{released-one, released-none}
use Rattle.hc_order.proofs.taking.put_back_one.Goals as goal

pub returns-in_ok-put_back : goal.returns-in_ok-put_back
returns-in_ok-put_back c =
    c.in_ok-put_back.ensures.ok ∙ ap (λ rs. c.args.pool.now ++ rs) (sym (released-one c.args.s (sym c.is_request.ensures ∙ c.if-is_request.true)))

pub returns-else-is_request : goal.returns-else-is_request
returns-else-is_request c =
    sym (append-nil c.args.pool.now) ∙ ap (λ rs. c.args.pool.now ++ rs) (sym (released-none c.args.s (sym c.is_request.ensures ∙ c.if-is_request.false)))

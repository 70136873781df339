use Rattle.std.proofs.lemmas.Result.{on_err_weaker}
use Rattle.cmd_loop.proofs.Sends.{prefix-then}
use Rattle.cmd_loop.proofs.turning.send_turn.Goals as goal

pub returns-clause-part : goal.returns-clause-part
returns-clause-part g c =
    on_err_weaker c.send_all-2.result
    (prefix-then (g.L.Link.told c.args.link.now) (g.L.Link.told c.send_all.new.link) (g.L.Link.told c.send_all-2.new.link) c.args.replies.now c.args.sends.now c.in_default.ensures.whole)
    c.send_all-2.ensures.part

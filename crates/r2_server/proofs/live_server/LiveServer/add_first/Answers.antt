use Rattle.std.proofs.Common.{sym, ◌∙◌}
use Rattle.r2_server.proofs.KeptReplies.{again-first}
use Rattle.r2_server.proofs.live_server.LiveServer.add_first.Goals as goal

pub returns-in-Some-clause-state : goal.returns-in-Some-clause-state
returns-in-Some-clause-state g c = again-first _ _ _ _ _ _ (sym c.in-Some.is ∙ c.in_ok-sends.ensures.sends)

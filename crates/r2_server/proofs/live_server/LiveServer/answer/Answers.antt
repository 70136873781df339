use Rattle.std.proofs.Common.{sym, ◌∙◌}
use Rattle.r2_server.proofs.KeptReplies.{again-server}
use Rattle.r2_server.proofs.live_server.LiveServer.answer.Goals as goal

pub returns-in-Some-clause-state : goal.returns-in-Some-clause-state
returns-in-Some-clause-state g c = again-server _ _ _ _ _ (sym c.in-Some.is ∙ c.in_ok-sends.ensures.sends)

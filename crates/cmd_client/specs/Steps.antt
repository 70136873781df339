-- What single calls of a client's run do, each by itself.
use Rattle.std.specs.Prelude.{◌≡◌, [], Option}
use Rattle.r2_link.specs.Links.{LinkPasses, LinkTold}
use Rattle.r2_client.specs.declared.call_end.CallEnd.{CallEnd}
use Rattle.r2_client.specs.Session.{Stepped}
use Rattle.r2_client.specs.State.{SessionState}
use Rattle.cmd_loop.specs.Sending.{SendsPrefix}
use Rattle.cmd_status.specs.declared.status.Status.{Status}
use Rattle.cmd_status.specs.declared.status.Status.TheVariants.{LinkFault, Memory}

-- a step of a session was made, and all that it sends was sent
pub record MakesStep (r : Stepped) (t : SessionState) (end : Option CallEnd) (old new : LinkTold) : Type 0 where
  pub session : t ≡ r.session
  pub ended : end ≡ r.step.end
  pub passed : LinkPasses old new [] r.step.sends

-- why a step wasn't made whole: the link failed, or memory ran out before anything was sent
abbrev pub StopsStep : Stepped → LinkTold → LinkTold → Status → Type 0
StopsStep r old new LinkFault = SendsPrefix old new r.step.sends
StopsStep r old new Memory = LinkPasses old new [] []
StopsStep r old new _ = ⊥

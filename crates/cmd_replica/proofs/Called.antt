-- What a half of a turn comes to that a closure makes.
use Rattle.std.proofs.Common.{Option, Result, Ok, sym, subst}
use Rattle.r2_base.specs.declared.event.Event.{Event}
use Rattle.r2_base.specs.declared.fault.NoMemory.{NoMemory}
use Rattle.hc_node.specs.Node.{IsLive, NodeState}
use Rattle.cmd_replica.specs.declared.halves.Half.{Half}
use Rattle.cmd_replica.specs.declared.halves.Left.{Left}
use Rattle.cmd_replica.specs.Party.{CallsFirst, CallsSecond, IsReady, MakesFirst, MakesSecond}
use denote.Ref.{Bor, MutBor}

-- a replica that is ready isn't spent
pub ready-live : (now : Option NodeState) (left : Left) → IsReady now left → IsLive now
ready-live now left ready = let at = ready.1 in subst IsLive (sym at.node) tt

module _ {N F : Type 0} (seen : N → Option NodeState) where
  pub first-called : (pre : F → MutBor N → Type 0) (post : F → MutBor N → Result Half NoMemory → MutBor N → Type 0) (f : F) (node after : MutBor N) (left : Left) (half : Half)
      → CallsFirst seen pre post f → IsReady (seen node.now) left → post f node (Ok half) after → MakesFirst (seen node.now) (seen after.now) half
  first-called pre post f node after left half calls ready called = (calls node (ready-live (seen node.now) left ready)).1 (Ok half) after called

  pub second-called : (pre : F → MutBor N → Bor Event → Type 0) (post : F → MutBor N → Bor Event → Result Half NoMemory → MutBor N → Type 0) (f : F) (node after : MutBor N)
      (event : Bor Event) (left : Left) (half : Half)
      → CallsSecond seen pre post f → IsReady (seen node.now) left → post f node event (Ok half) after → MakesSecond event.now (seen node.now) (seen after.now) half
  second-called pre post f node after event left half calls ready called = (calls node event (ready-live (seen node.now) left ready)).1 (Ok half) after called

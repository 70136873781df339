-- The call is open, and these steps were taken.
use Rattle.std.proofs.Common.{◌≡◌, ◌+◌, List, [], length, false}
use Rattle.r2_link.specs.Faults.{NoneFalls, calm}
use Rattle.cmd_loop.specs.Ends.{Ends}
use Rattle.cmd_client.specs.Talk.{IsOpen, Step, asked_in, items_of}
use Rattle.cmd_client.specs.Caller.{talk_of}
use Rattle.cmd_client.specs.Outside.{around}
use Rattle.cmd_client.specs.Stops.{Went}
use Rattle.cmd_client.proofs.caller.Caller.converse.Given as goal

abbrev pub invariant-rounds : goal.invariant-rounds
invariant-rounds g l = record {
  so_far : (o : Ends) → (steps : List Step) × Went (talk_of l.initial.self) (talk_of l.self)
      (around o (g.K.Sink.written l.initial.sink) (g.L.Link.told l.initial.link) (g.C.Clock.left l.initial.clock))
      (around o (g.K.Sink.written l.sink) (g.L.Link.told l.link) (g.C.Clock.left l.clock)) steps
      × (asked_in steps ≡ []) × (length (items_of steps) + l.self.room ≡ l.initial.self.room);
  opened : IsOpen l.self.session.open_call;
  policy : l.self.policy ≡ l.initial.self.policy;
  steady : NoneFalls (record calm { link = g.L.Link.faults l.initial.link; clock = g.C.Clock.faults l.initial.clock; sink = g.K.Sink.faults l.initial.sink })
      (record calm { link = g.L.Link.faults l.link; clock = g.C.Clock.faults l.clock; sink = g.K.Sink.faults l.sink });
}

abbrev pub decreases-rounds : goal.decreases-rounds
decreases-rounds g l = l.self.room

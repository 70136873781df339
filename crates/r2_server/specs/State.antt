-- What a plain server is at a moment.
use Rattle.std.specs.Prelude.{ℕ, List, [], Option}
use Rattle.r2_base.specs.declared.addr.Addr.{Addr}
use Rattle.r2_frag.specs.declared.kept.KeptReply.{KeptReply}
use Rattle.r2_frag.specs.declared.unfinished.Unfinished.{Unfinished}
use Rattle.hc_store.specs.State.{State, new_state}
use Rattle.r2_server.specs.declared.timers.Timer.{Timer}

-- its address and its router's, the replies that it keeps, the oldest at the head, the messages that aren't whole yet, the
-- one begun first at the head, the requests among them that age, in the same order, its service, and how many ticks and
-- turns it had
pub record ServerState : Type 0 where
  pub me : Addr
  pub router : Option Addr
  pub kept : List KeptReply
  pub unfinished : List Unfinished
  pub timers : List Timer
  pub service : State
  pub ticks : ℕ
  pub turns : ℕ

-- a server to which nothing came yet
abbrev pub begin : Addr → Option Addr → ServerState
begin me router =
    record { me = me; router = router; kept = []; unfinished = []; timers = []; service = new_state; ticks = 0; turns = 0 }

-- The record of a turn, after the records that led to the state before it.
use Rattle.std.proofs.Common.{◌≡◌, List, ◌++◌, Option, None, Some, sym, ap, subst, ◌∙◌, append-nil}
use Rattle.std.specs.Prelude.{IfSome}
use Rattle.hc_log.specs.declared.record.Record.{Record}
use Rattle.hc_log.specs.Durable.{State, after, replay, IsNext, IsHistory}
use Rattle.hc_log.specs.Ranges.{IsInRange}
use Rattle.hc_log.proofs.Replays.{replay_push, IsHistory-push}
use Rattle.hc_member.specs.Laws.{IsStored}
use Rattle.cmd_replay.specs.Replica.{stored_list}

-- what is stored can be printed
pub stored-in_range : (d e : State) (stored : Option Record) → IsStored d stored e → IfSome stored IsInRange
stored-in_range d e None is = tt
stored-in_range d e (Some r) is = (let next = is.next in next.in_range)

pub history-more : (records : List Record) (d e : State) (stored : Option Record) → IsStored d stored e → IsHistory records → replay records ≡ d
    → IsHistory (records ++ stored_list stored)
history-more records d e None is history state = subst IsHistory (sym (append-nil records)) history
history-more records d e (Some r) is history state =
    IsHistory-push records r history (subst (λ (x : State). IsNext x r) (sym state) is.next)

pub state-more : (records : List Record) (d e : State) (stored : Option Record) → IsStored d stored e → replay records ≡ d → replay (records ++ stored_list stored) ≡ e
state-more records d e None is state = ap replay (append-nil records) ∙ state ∙ sym is
state-more records d e (Some r) is state = replay_push records r ∙ ap (λ (x : State). after x r) state ∙ is.leads

-- A member and the records of its turns, line by line.
use Rattle.std.proofs.Common.{◌≡◌, List, [], ◌∷◌, ◌++◌, Option, None, Some, refl, sym, ap, subst, ◌∙◌, append-nil, append_assoc}
use Rattle.std.specs.Prelude.{All, IfSome}
use Rattle.std.proofs.lemmas.List.Elements.{All-head, All-tail}
use Rattle.r2_base.specs.declared.event.Event.{Event}
use Rattle.hc_log.specs.declared.record.Record.{Record}
use Rattle.hc_log.specs.Durable.{State, begun, replay, IsHistory}
use Rattle.hc_log.proofs.Replays.{replay_none, history_none, IsValid-begun}
use Rattle.hc_member.specs.declared.setup.Setup.{Setup}
use Rattle.hc_member.specs.Laws.{HasBytes}
use Rattle.hc_member.specs.Member.{Member, anew, beginning, durable_of, restarted}
use Rattle.hc_member.specs.Setup.{IsSetup}
use Rattle.hc_member.specs.Sound.{IsSound}
use Rattle.hc_member.specs.Turn.{turned}
use Rattle.hc_member.proofs.Begun.{sound-anew, sound-restarted}
use Rattle.hc_member.proofs.Turned.{turns_go_well}
use Rattle.cmd_script.specs.declared.line.Line.{Line}
use Rattle.cmd_script.specs.declared.line.Line.TheVariants.{Restart}
use Rattle.cmd_replay.specs.Laws.{HasLineBytes, RecordsLeadToTheMember}
use Rattle.cmd_replay.specs.Replica.{stored_list}
use Rattle.cmd_replay.specs.Script.{after, event_of, line_turn, records_of, turn_at}
use Rattle.cmd_replay.proofs.Records.{history-more, state-more}
use Rattle.cmd_replay.proofs.Replicas.{durable-anew}
use Rattle.cmd_replay.proofs.Runs.{after-append}

-- a member, and records that lead to it
record HasRecords (s : Setup) (m : Member) (records : List Record) : Type 0 where
  sound : IsSound s m
  history : IsHistory records
  state : replay records ≡ durable_of m

module _ (s : Setup) (group : IsSetup s) where
  recorded-at : (m : Member) (o : Option Event) (records : List Record) → IfSome o HasBytes → HasRecords s m records
      → HasRecords s (turn_at s m o).member (records ++ stored_list (turn_at s m o).stored)
  recorded-at m (Some event) records are h =
      let t = turned s m event in
      let well = turns_go_well s m event group h.sound are in
      record {
        sound = well.sound;
        history = history-more records (durable_of m) (durable_of t.member) t.stored well.stores h.history h.state;
        state = state-more records (durable_of m) (durable_of t.member) t.stored well.stores h.state;
      }
  recorded-at m None records are h =
      let same : HasRecords s (restarted m) records =
      record {
        sound = sound-restarted s m h.sound;
        history = h.history;
        state = h.state ∙ sym (durable-anew (durable_of m));
      } in
      subst (HasRecords s (restarted m)) (sym (append-nil records)) same

  recorded-after : (m : Member) (lines : List Line) (records : List Record) → All (HasLineBytes s) lines → HasRecords s m records
      → HasRecords s (after s m lines) (records ++ records_of s m lines)
  unfolding after records_of line_turn
  recorded-after m [] records are h = subst (HasRecords s m) (sym (append-nil records)) h
  recorded-after m (line ∷ lines) records are h =
      let t = line_turn s m line in
      subst (HasRecords s (after s t.member lines)) (append_assoc records (stored_list t.stored) (records_of s t.member lines))
      (recorded-after t.member lines (records ++ stored_list t.stored) (All-tail (HasLineBytes s) line lines are)
      (recorded-at m (event_of s line) records (All-head (HasLineBytes s) line lines are) h))

-- nothing was stored yet
recorded-begin : (s : Setup) → HasRecords s beginning []
recorded-begin s = record { sound = sound-anew s begun IsValid-begun; history = history_none; state = replay_none ∙ sym (durable-anew begun) }

after-restart : (s : Setup) (m : Member) → after s m (Restart ∷ []) ≡ restarted m
unfolding after line_turn
after-restart s m = refl

pub records_lead_to_the_member : RecordsLeadToTheMember
records_lead_to_the_member s lines group are =
    let whole = recorded-after s group beginning lines [] are (recorded-begin s) in
    record {
      sound = whole.sound;
      history = whole.history;
      state = whole.state;
      restart = after-append s beginning lines (Restart ∷ []) ∙ after-restart s (after s beginning lines) ∙ ap anew (sym whole.state);
    }

use Rattle.std.proofs.Common.{◌∙◌, sym, ap, take}
use Rattle.hc_log.specs.Durable.{State, replay, after, IsNext}
use Rattle.hc_log.proofs.Replays.{replay_none, replay_step, history_none, history_step}
use Rattle.hc_log.proofs.durable.Durable.replay.Goals as goal

pub records-init : goal.records-init
records-init c = record {
  state = c.begin-durable.ensures.state ∙ sym replay_none;
  whole = c.begin-durable.ensures.whole;
  history = history_none;
}

pub records-preserved : goal.records-preserved
records-preserved c =
    let records = c.args.records.now in
    let i = c.records.r-index in
    let r = c.r-item.result in
    let before = c.records.invariant in
    let next : IsNext (replay (take i records)) r = rw (← before.state) c.in_default.ensures.next in
    record {
      state = c.in_default.ensures.state ∙ ap (λ (d : State). after d r) before.state ∙ sym (replay_step records i r c.records-test.true c.r-item.is);
      whole = c.in_default.ensures.whole ∙ before.whole;
      history = history_step records i r c.records-test.true c.r-item.is before.history next;
    }

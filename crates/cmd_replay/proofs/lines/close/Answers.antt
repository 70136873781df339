-- A batch more is printed, and what is left to print is that much shorter.
use Rattle.std.proofs.Common.{arith, subst, sym, ◌∙◌}
use Rattle.std.specs.Io.KnownBytes.{Appends}
use Rattle.r2_link.specs.Streams.{AppendsPrefix}
use Rattle.hc_member.specs.declared.setup.Setup.{Setup}
use Rattle.hc_member.specs.Finish.{finished}
use Rattle.hc_member.specs.Sound.{IsSound}
use Rattle.cmd_replay.specs.Replica.{Runs, member_of}
use Rattle.cmd_replay.specs.Script.{batch_text}
use Rattle.cmd_replay.proofs.Closing.{closing-cut, closing-done, closing-first, closing-more, closing-smaller}
use Rattle.cmd_replay.proofs.Replicas.{runs-member, runs-own}
use Rattle.cmd_replay.proofs.lines.close.Goals as goal

pub batches-init : goal.batches-init
batches-init g c = record {
  runs = c.requires;
  closing = closing-first c.args.replica.now.setup (member_of c.args.replica.now) (g.K.Sink.written c.args.sink.now);
  steady = omega arith;
}

pub returns-in-Err-clause-prefix : goal.returns-in-Err-clause-prefix
returns-in-Err-clause-prefix g c =
    let s = c.args.replica.now.setup in
    let m = member_of c.batches.replica in
    let same = c.batches.invariant.runs.setup in
    let b = g.K.Sink.written c.batches.sink in
    let d = g.K.Sink.written c.take_batch.new.sink in
    closing-cut s (member_of c.args.replica.now) m (g.K.Sink.written c.args.sink.now) b d
    (subst (λ (x : Setup). IsSound x m) same c.is_settled.ensures.sound) (sym c.is_settled.ensures.told ∙ c.batches-test.true)
    c.batches.invariant.closing (subst (λ (x : Setup). AppendsPrefix b d (batch_text x m)) same c.in-Err.ensures.prefix)

pub batches-smaller : goal.batches-smaller
batches-smaller g c =
    let s = c.args.replica.now.setup in
    let m = member_of c.batches.replica in
    let same = c.batches.invariant.runs.setup in
    let runs = subst (λ (x : Setup). Runs x (finished x m).member c.take_batch.new.replica) same c.in_default.ensures.runs in
    closing-smaller s m (member_of c.take_batch.new.replica) (subst (λ (x : Setup). IsSound x m) same c.is_settled.ensures.sound)
    (sym c.is_settled.ensures.told ∙ c.batches-test.true) (runs-member s (finished s m).member c.take_batch.new.replica runs)

pub batches-preserved : goal.batches-preserved
batches-preserved g c =
    let s = c.args.replica.now.setup in
    let m = member_of c.batches.replica in
    let n = member_of c.take_batch.new.replica in
    let same = c.batches.invariant.runs.setup in
    let b = g.K.Sink.written c.batches.sink in
    let d = g.K.Sink.written c.take_batch.new.sink in
    let runs = subst (λ (x : Setup). Runs x (finished x m).member c.take_batch.new.replica) same c.in_default.ensures.runs in
    record {
      runs = runs-own s (finished s m).member c.take_batch.new.replica runs;
      closing =
          closing-more s (member_of c.args.replica.now) m n (g.K.Sink.written c.args.sink.now) b d
          (subst (λ (x : Setup). IsSound x m) same c.is_settled.ensures.sound) (sym c.is_settled.ensures.told ∙ c.batches-test.true)
          (runs-member s (finished s m).member c.take_batch.new.replica runs) c.batches.invariant.closing
          (subst (λ (x : Setup). Appends b d (batch_text x m)) same c.in_default.ensures.whole);
      steady = omega (arith, c.batches.invariant.steady, c.in_default.ensures.steady);
    }

pub returns-clause-whole : goal.returns-clause-whole
returns-clause-whole g c =
    closing-done c.args.replica.now.setup (member_of c.args.replica.now) (member_of c.batches.replica) (g.K.Sink.written c.args.sink.now) (g.K.Sink.written c.batches.sink)
    (sym c.is_settled.ensures.told ∙ c.batches-test.false) c.batches.invariant.closing

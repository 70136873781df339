-- A line more is read and run, or the script ends.
use Rattle.std.proofs.Common.{◌≡◌, ◌∙◌, ◌+◌, ◌++◌, ℕ, List, Option, Some, None, Result, Ok, sym, subst, ap, arith}
use Rattle.cmd_lines.specs.declared.line_fault.LineFault.{LineFault}
use Rattle.cmd_lines.specs.Limits.{most_line}
use Rattle.cmd_lines.specs.Reader.{ReaderState, ReadsLine}
use Rattle.cmd_lines.proofs.Places.{line-read}
use Rattle.cmd_script.specs.Line.{IsLine}
use Rattle.cmd_status.specs.declared.status.Status.{Status}
use Rattle.hc_member.specs.Member.{Member}
use Rattle.hc_member.specs.declared.setup.Setup.{Setup}
use Rattle.cmd_replay.specs.Replica.{Runs, member_of}
use Rattle.cmd_replay.specs.Script.{last_text}
use Rattle.cmd_replay.specs.Replay.{IsReplay}
use Rattle.cmd_replay.specs.Running.{ClosesScript, Ran, StopsText}
use Rattle.cmd_replay.proofs.Replays.{IsHere, closed, faults, here-first, here-then, text-stops}
use Rattle.cmd_replay.proofs.replaying.run_lines.Goals as goal

pub lines-init : goal.lines-init
lines-init g c =
    let s = c.args.replica.now.setup in
    let left = g.S.Source.left c.args.source.now in
    let a = g.K.Sink.written c.args.sink.now in
    let new = c.new-reader.ensures in
    let first = subst (λ (r : ReaderState). IsHere s _ left left r a a) (sym new) (here-first s left a) in
    record {
      here = subst (λ (m : Member). IsHere s m left left c.new-reader.result a a) (sym c.requires.begun) first;
      runs = c.requires.runs;
      lines = let e = ap (λ (r : ReaderState). r.lines) new in omega (arith, e);
      source_steady = omega arith;
      sink_steady = omega arith;
    }

pub returns-in-Ok-None-clause-ran : goal.returns-in-Ok-None-clause-ran
returns-in-Ok-None-clause-ran g c =
    let between = g.S.Source.left c.lines.source in
    let behind = g.S.Source.left c.next_line.new.source in
    let answer : c.next_line.result ≡ Ok None = c.in-Ok-None.is ∙ ap Ok c.in-Ok-None.field-0-is in
    closed c.args.replica.now.setup (member_of c.lines.replica) (g.S.Source.left c.args.source.now) between behind c.lines.reader c.next_line.new.self _ _ _ c.close_script.result c.lines.invariant.here
    (subst (λ (x : Result (Option (List ℕ)) LineFault). ReadsLine c.lines.reader c.next_line.new.self between behind x) answer c.next_line.ensures.reads)
    (c.next_line.ensures.knows_end c.lines.invariant.here.knows)
    (subst (λ (s : Setup). ClosesScript (g.K.Sink.written c.lines.sink) (g.K.Sink.written c.close_script.new.sink) (last_text s (member_of c.lines.replica)) c.close_script.result) c.lines.invariant.runs.setup c.close_script.ensures.closed)

pub returns-in-Err-clause-ran : goal.returns-in-Err-clause-ran
returns-in-Err-clause-ran g c =
    let between = g.S.Source.left c.lines.source in
    let behind = g.S.Source.left c.next_line.new.source in
    let a = g.K.Sink.written c.args.sink.now in
    let b = g.K.Sink.written c.lines.sink in
    subst (λ (x : Status). IsReplay c.args.replica.now.setup (g.S.Source.left c.args.source.now) behind a b x) (sym c.status.ensures)
    (faults c.args.replica.now.setup (member_of c.lines.replica) (g.S.Source.left c.args.source.now) between behind c.lines.reader c.next_line.new.self a b c.in-Err.fault (c.lines-in-Err.result + 1)
    c.lines.invariant.here (subst (λ (x : Result (Option (List ℕ)) LineFault). ReadsLine c.lines.reader c.next_line.new.self between behind x) c.in-Err.is c.next_line.ensures.reads)
    (c.next_line.ensures.knows_end c.lines.invariant.here.knows) c.next_line.ensures.stays_ended (ap (λ (n : ℕ). n + 1) c.lines-in-Err.ensures.count))

pub returns-in-Err-run_text-clause-ran : goal.returns-in-Err-run_text-clause-ran
returns-in-Err-run_text-clause-ran g c =
    let here = c.lines.invariant.here in
    let left = g.S.Source.left c.args.source.now in
    let between = g.S.Source.left c.lines.source in
    let behind = g.S.Source.left c.next_line.new.source in
    let text = c.in-Ok-Some.text in
    let b = g.K.Sink.written c.lines.sink in
    let d = g.K.Sink.written c.run_text.new.sink in
    let answer : c.next_line.result ≡ Ok (Some text) = c.in-Ok-Some.is ∙ ap Ok c.in-Ok-Some.field-0-is in
    let read = subst (λ (x : Result (Option (List ℕ)) LineFault). ReadsLine c.lines.reader c.next_line.new.self between behind x) answer c.next_line.ensures.reads in
    let place = line-read most_line IsLine left between behind c.lines.reader c.next_line.new.self here.taken here.lines text here.place read (c.next_line.ensures.knows_end here.knows) in
    text-stops c.args.replica.now.setup (member_of c.lines.replica) left behind here.lines (g.K.Sink.written c.args.sink.now) b d here.ran c.next_line.new.self (here.taken ++ read.taken) text
    c.lines-number.result c.in-Err-run_text.status place c.lines-number.ensures.count
    (subst (λ (s : Setup). StopsText s (member_of c.lines.replica) text c.lines-number.result b d c.in-Err-run_text.status) c.lines.invariant.runs.setup
    (subst (λ (l : List ℕ). StopsText c.lines.replica.setup (member_of c.lines.replica) l c.lines-number.result b d c.in-Err-run_text.status) c.as_slice.ensures c.in-Err-run_text.ensures.stops))

pub lines-preserved : goal.lines-preserved
lines-preserved g c =
    let here = c.lines.invariant.here in
    let s = c.args.replica.now.setup in
    let left = g.S.Source.left c.args.source.now in
    let between = g.S.Source.left c.lines.source in
    let behind = g.S.Source.left c.next_line.new.source in
    let text = c.in-Ok-Some.text in
    let b = g.K.Sink.written c.lines.sink in
    let d = g.K.Sink.written c.run_text.new.sink in
    let answer : c.next_line.result ≡ Ok (Some text) = c.in-Ok-Some.is ∙ ap Ok c.in-Ok-Some.field-0-is in
    let read = subst (λ (x : Result (Option (List ℕ)) LineFault). ReadsLine c.lines.reader c.next_line.new.self between behind x) answer c.next_line.ensures.reads in
    let knows = c.next_line.ensures.knows_end here.knows in
    let place = line-read most_line IsLine left between behind c.lines.reader c.next_line.new.self here.taken here.lines text here.place read knows in
    let ran = subst (λ (l : List ℕ). Ran c.lines.replica.setup (member_of c.lines.replica) (member_of c.run_text.new.replica) l b d) c.as_slice.ensures c.in_default.ensures.ran in
    let next = subst (λ (x : Setup). Ran x (member_of c.lines.replica) (member_of c.run_text.new.replica) text b d) c.lines.invariant.runs.setup ran in
    record {
      here = here-then s (member_of c.lines.replica) left behind here.lines (g.K.Sink.written c.args.sink.now) b d here.ran (member_of c.run_text.new.replica) c.next_line.new.self (here.taken ++ read.taken) text place knows next;
      runs = subst (λ (x : Setup). Runs x (member_of c.run_text.new.replica) c.run_text.new.replica) c.lines.invariant.runs.setup c.in_default.ensures.runs;
      lines = omega (arith, c.lines-number.ensures.count, c.lines-number.ensures.most);
      source_steady = omega (arith, c.lines.invariant.source_steady, c.next_line.ensures.steady);
      sink_steady = omega (arith, c.lines.invariant.sink_steady, c.run_text.ensures.steady);
    }

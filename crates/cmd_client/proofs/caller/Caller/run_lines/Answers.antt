use Rattle.std.proofs.Common.{◌≡◌, ℕ, ◌+◌, ◌++◌, List, length, Option, Some, None, Result, Ok, refl, sym, ◌∙◌, subst, ap, false, arith}
use Rattle.cmd_lines.specs.declared.line_fault.LineFault.{LineFault}
use Rattle.cmd_lines.specs.Limits.{most_line}
use Rattle.cmd_lines.specs.Reader.{ReaderState, ReadsLine}
use Rattle.cmd_lines.proofs.Places.{line-read, line-short}
use Rattle.cmd_loop.specs.Ends.{Ends}
use Rattle.cmd_status.specs.declared.status.Status.{Status}
use Rattle.hc_text.specs.declared.policy.Policy.{Policy}
use Rattle.cmd_client.specs.Calls.{RunsLines}
use Rattle.cmd_client.specs.Caller.{talk_of}
use Rattle.cmd_client.specs.Outside.{around}
use Rattle.cmd_client.specs.Lines.{MakesLine, StopsLine}
use Rattle.cmd_client.specs.Script.{AsksFor}
use Rattle.cmd_client.specs.Talk.{Talk}
use Rattle.cmd_loop.proofs.Passing.{silent}
use Rattle.cmd_client.proofs.Scripts.{IsHere, here-first, here-then, line-stops, run-done, run-fault}
use Rattle.cmd_client.proofs.caller.Caller.run_lines.Goals as goal

pub lines-init : goal.lines-init
lines-init g c =
    let t : Talk = talk_of c.args.self.now in
    let left = g.S.Source.left c.args.source.now in
    let new = c.new-reader.ensures in
    record {
      here = λ o.
          let a : Ends = (around o (g.K.Sink.written c.args.sink.now) (g.L.Link.told c.args.link.now) (g.C.Clock.left c.args.clock.now)) in
          subst (λ (r : ReaderState). IsHere c.args.self.now.policy c.args.self.now.room c.args.self.now.room left left r t t a a) (sym new) (here-first c.args.self.now.policy c.args.self.now.room left t a c.requires.none);
      lines = let e = ap (λ (r : ReaderState). r.lines) new in omega (arith, e);
      longest = ap (λ (r : ReaderState). r.longest) new;
      policy = refl;
      steady = record { source = omega arith; sink = omega arith; link = omega arith; clock = omega arith; disk = omega arith };
    }

pub run_line-requires-clause-none : goal.run_line-requires-clause-none
run_line-requires-clause-none g c = (c.lines.invariant.here silent).made.none

pub run_line-requires-clause-short : goal.run_line-requires-clause-short
run_line-requires-clause-short g c =
    let between = g.S.Source.left c.lines.source in
    let after = g.S.Source.left c.next_line.new.source in
    let line = c.in-Ok-Some.line in
    let answer : c.next_line.result ≡ Ok (Some line) = c.in-Ok-Some.is ∙ ap Ok c.in-Ok-Some.field-0-is in
    let short = line-short c.lines.reader c.next_line.new.self between after line (subst (λ (x : Result (Option (List ℕ)) LineFault). ReadsLine c.lines.reader c.next_line.new.self between after x) answer c.next_line.ensures.reads) in
    let same = ap (λ (l : List ℕ). length l) c.as_slice.ensures in
    omega (arith, short, same, c.lines.invariant.longest)

pub returns-in-Ok-None-clause-ran : goal.returns-in-Ok-None-clause-ran
returns-in-Ok-None-clause-ran g c = λ o.
    let here = c.lines.invariant.here o in
    let between = g.S.Source.left c.lines.source in
    let after = g.S.Source.left c.next_line.new.source in
    let answer : c.next_line.result ≡ Ok None = c.in-Ok-None.is ∙ ap Ok c.in-Ok-None.field-0-is in
    run-done c.args.self.now.policy c.args.self.now.room c.lines.self.room (g.S.Source.left c.args.source.now) between after c.lines.reader c.next_line.new.self
    (talk_of c.args.self.now) (talk_of c.lines.self) (around o (g.K.Sink.written c.args.sink.now) (g.L.Link.told c.args.link.now) (g.C.Clock.left c.args.clock.now)) (around o (g.K.Sink.written c.lines.sink) (g.L.Link.told c.lines.link) (g.C.Clock.left c.lines.clock)) here (refl, refl)
    (subst (λ (x : Result (Option (List ℕ)) LineFault). ReadsLine c.lines.reader c.next_line.new.self between after x) answer c.next_line.ensures.reads)
    (c.next_line.ensures.knows_end here.knows)

pub returns-in-Err-clause-ran : goal.returns-in-Err-clause-ran
returns-in-Err-clause-ran g c = λ o.
    let here = c.lines.invariant.here o in
    let left = g.S.Source.left c.args.source.now in
    let between = g.S.Source.left c.lines.source in
    let after = g.S.Source.left c.next_line.new.source in
    let t : Talk = talk_of c.args.self.now in
    let a : Ends = (around o (g.K.Sink.written c.args.sink.now) (g.L.Link.told c.args.link.now) (g.C.Clock.left c.args.clock.now)) in
    let b : Ends = (around o (g.K.Sink.written c.lines.sink) (g.L.Link.told c.lines.link) (g.C.Clock.left c.lines.clock)) in
    subst (λ (x : Status). RunsLines c.args.self.now.policy c.args.self.now.room left after t a b x) (sym c.status.ensures)
    (run-fault c.args.self.now.policy c.args.self.now.room c.lines.self.room left between after c.lines.reader c.next_line.new.self t (talk_of c.lines.self) a b c.in-Err.fault (c.lines-in-Err.result + 1)
    here (refl, refl) (subst (λ (x : Result (Option (List ℕ)) LineFault). ReadsLine c.lines.reader c.next_line.new.self between after x) c.in-Err.is c.next_line.ensures.reads)
    (c.next_line.ensures.knows_end here.knows) c.next_line.ensures.stays_ended (ap (λ (n : ℕ). n + 1) c.lines-in-Err.ensures.count))

pub returns-in-Err-run_line-clause-ran : goal.returns-in-Err-run_line-clause-ran
returns-in-Err-run_line-clause-ran g c = λ o.
    let here = c.lines.invariant.here o in
    let left = g.S.Source.left c.args.source.now in
    let between = g.S.Source.left c.lines.source in
    let after = g.S.Source.left c.next_line.new.source in
    let line = c.in-Ok-Some.line in
    let answer : c.next_line.result ≡ Ok (Some line) = c.in-Ok-Some.is ∙ ap Ok c.in-Ok-Some.field-0-is in
    let read = subst (λ (x : Result (Option (List ℕ)) LineFault). ReadsLine c.lines.reader c.next_line.new.self between after x) answer c.next_line.ensures.reads in
    let place = line-read most_line (AsksFor c.args.self.now.policy) left between after c.lines.reader c.next_line.new.self here.taken here.asked line here.place read (c.next_line.ensures.knows_end here.knows) in
    let u : Talk = talk_of c.lines.self in
    let b : Ends = (around o (g.K.Sink.written c.lines.sink) (g.L.Link.told c.lines.link) (g.C.Clock.left c.lines.clock)) in
    let d : Ends = (around o (g.K.Sink.written c.run_line.new.sink) (g.L.Link.told c.run_line.new.link) (g.C.Clock.left c.run_line.new.clock)) in
    let same = subst (λ (p : Policy). StopsLine p c.as_slice.result.now c.lines-number.result c.lines.self.room u b d c.in-Err-run_line.status) c.lines.invariant.policy (c.in-Err-run_line.ensures.stops o) in
    let stops = subst (λ (l : List ℕ). StopsLine c.args.self.now.policy l c.lines-number.result c.lines.self.room u b d c.in-Err-run_line.status) c.as_slice.ensures same in
    line-stops c.args.self.now.policy c.args.self.now.room c.lines.self.room left after c.next_line.new.self (here.taken ++ read.taken) here.asked line (talk_of c.args.self.now) u (around o (g.K.Sink.written c.args.sink.now) (g.L.Link.told c.args.link.now) (g.C.Clock.left c.args.clock.now)) b d
    here.made (refl, refl) place c.lines-number.result c.in-Err-run_line.status c.requires.fresh c.lines-number.ensures.count stops

pub lines-preserved : goal.lines-preserved
lines-preserved g c =
    let left = g.S.Source.left c.args.source.now in
    let between = g.S.Source.left c.lines.source in
    let after = g.S.Source.left c.next_line.new.source in
    let line = c.in-Ok-Some.line in
    let answer : c.next_line.result ≡ Ok (Some line) = c.in-Ok-Some.is ∙ ap Ok c.in-Ok-Some.field-0-is in
    let read = subst (λ (x : Result (Option (List ℕ)) LineFault). ReadsLine c.lines.reader c.next_line.new.self between after x) answer c.next_line.ensures.reads in
    let u : Talk = talk_of c.lines.self in
    let v : Talk = talk_of c.run_line.new.self in
    record {
      here = λ o.
          let here = c.lines.invariant.here o in
          let knows = c.next_line.ensures.knows_end here.knows in
          let place = line-read most_line (AsksFor c.args.self.now.policy) left between after c.lines.reader c.next_line.new.self here.taken here.asked line here.place read knows in
          let b : Ends = (around o (g.K.Sink.written c.lines.sink) (g.L.Link.told c.lines.link) (g.C.Clock.left c.lines.clock)) in
          let d : Ends = (around o (g.K.Sink.written c.run_line.new.sink) (g.L.Link.told c.run_line.new.link) (g.C.Clock.left c.run_line.new.clock)) in
          let same = subst (λ (p : Policy). MakesLine p c.as_slice.result.now c.lines.self.room c.run_line.new.self.room u v b d) c.lines.invariant.policy (c.in_default.ensures.made o) in
          let made = subst (λ (l : List ℕ). MakesLine c.args.self.now.policy l c.lines.self.room c.run_line.new.self.room u v b d) c.as_slice.ensures same in
          here-then c.args.self.now.policy c.args.self.now.room c.lines.self.room c.run_line.new.self.room left after c.next_line.new.self (here.taken ++ read.taken) here.asked line
          (talk_of c.args.self.now) u v (around o (g.K.Sink.written c.args.sink.now) (g.L.Link.told c.args.link.now) (g.C.Clock.left c.args.clock.now)) b d here.made place knows made;
      lines = omega (arith, c.lines-number.ensures.count, c.lines-number.ensures.most);
      longest = read.limit ∙ c.lines.invariant.longest;
      policy = c.in_default.ensures.policy ∙ c.lines.invariant.policy;
      steady = record {
        source = omega (arith, c.lines.invariant.steady.source, c.next_line.ensures.steady);
        sink = omega (arith, c.lines.invariant.steady.sink, c.run_line.ensures.steady.sink);
        link = omega (arith, c.lines.invariant.steady.link, c.run_line.ensures.steady.link);
        clock = omega (arith, c.lines.invariant.steady.clock, c.run_line.ensures.steady.clock);
        disk = omega arith;
      };
    }

-- A restart prints nothing; each other line prints its turn.
use Rattle.std.proofs.Common.{◌≡◌, None, Some, sym, ap, subst, ◌∙◌}
use Rattle.std.specs.Prelude.{Result, Ok, Err, OnErr}
use Rattle.std.specs.Io.KnownBytes.{Appends}
use Rattle.r2_link.specs.Streams.{AppendsPrefix}
use Rattle.r2_link.proofs.Streams.{Appends-nil}
use Rattle.cmd_status.proofs.Reports.{on_ok}
use Rattle.hc_member.specs.Member.{Member}
use Rattle.hc_member.specs.Turn.{Reacted}
use Rattle.cmd_replay.specs.Replica.{Runs, member_of}
use Rattle.cmd_replay.specs.Script.{event_of}
use Rattle.cmd_replay.proofs.Runs.{line_turn-at, line_text-at, line_text-none}
use Rattle.cmd_replay.proofs.lines.run_line.Goals as goal

on_err : {X E : Type 0} (r : Result X E) (A B : Type 0) → (A → B) → OnErr r A → OnErr r B
on_err (Ok x) A B f a = tt
on_err (Err e) A B f a = f a

pub returns-in-Ok-clause-runs : goal.returns-in-Ok-clause-runs
returns-in-Ok-clause-runs g c =
    let s = c.args.replica.now.setup in
    let m = member_of c.args.replica.now in
    let is : event_of s c.args.line ≡ None = sym c.event_of.ensures ∙ c.in_default.is in
    let at = sym (ap (λ (t : Reacted). t.member) (line_turn-at s m c.args.line None is)) in
    subst (λ (n : Member). Runs s n c.restart.new.self) at c.in-Ok.ensures

pub returns-in-Ok-clause-whole : goal.returns-in-Ok-clause-whole
returns-in-Ok-clause-whole g c =
    let s = c.args.replica.now.setup in
    let is : event_of s c.args.line ≡ None = sym c.event_of.ensures ∙ c.in_default.is in
    let w = g.K.Sink.written c.args.sink.now in
    subst (Appends w w) (sym (line_text-none s (member_of c.args.replica.now) c.args.line is)) (Appends-nil w)

pub returns-clause-runs : goal.returns-clause-runs
returns-clause-runs g c =
    let s = c.args.replica.now.setup in
    let m = member_of c.args.replica.now in
    let at = sym (ap (λ (t : Reacted). t.member) (line_turn-at s m c.args.line (Some c.in-Some.event) (sym c.in-Some.ensures))) in
    on_ok c.take_turn.result _ _ (λ runs. subst (λ (n : Member). Runs s n c.take_turn.new.replica) at runs) c.take_turn.ensures.runs

pub returns-clause-whole : goal.returns-clause-whole
returns-clause-whole g c =
    let text = line_text-at c.args.replica.now.setup (member_of c.args.replica.now) c.args.line c.in-Some.event (sym c.in-Some.ensures) in
    on_ok c.take_turn.result _ _ (λ gave. subst (Appends (g.K.Sink.written c.args.sink.now) (g.K.Sink.written c.take_turn.new.sink)) text gave) c.take_turn.ensures.whole

pub returns-clause-prefix : goal.returns-clause-prefix
returns-clause-prefix g c =
    let text = line_text-at c.args.replica.now.setup (member_of c.args.replica.now) c.args.line c.in-Some.event (sym c.in-Some.ensures) in
    on_err c.take_turn.result _ _ (λ gave. subst (AppendsPrefix (g.K.Sink.written c.args.sink.now) (g.K.Sink.written c.take_turn.new.sink)) text gave) c.take_turn.ensures.prefix

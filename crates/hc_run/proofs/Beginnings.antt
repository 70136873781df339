-- A state of the protocol that begins shows a group that begins.
use Rattle.std.proofs.Common.{◌≡◌, ℕ, [], length, refl, sym, arith}
use Rattle.std.specs.Prelude.{All}
use Rattle.std.proofs.lemmas.List.{get_or-replicate, length-replicate}
use Rattle.std.proofs.lemmas.List.Elements.{All-nil}
use Rattle.hc_log.specs.Durable.{begun, replay}
use Rattle.hc_log.proofs.Replays.{IsValid-replay, history_none}
use Rattle.hc_member.specs.Member.{anew}
use Rattle.hc_member.proofs.Begun.{sound-anew}
use Rattle.hc_aggregate.proofs.Tallies.{tally_begun}
use Rattle.hc_rules.specs.Parts.{member_of}
use Rattle.hc_rules.proofs.Answers.{begins_answered}
use Rattle.hc_rules.proofs.Steps.{begins}
use Rattle.hc_run.specs.Group.{Group, setup_of}
use Rattle.hc_run.specs.State.{started, stopped}
use Rattle.hc_run.specs.Backed.{IsBackedDatagram}
use Rattle.hc_run.specs.Held.{IsAsked, IsStoredOf}
use Rattle.hc_run.specs.Shows.{IsShown, ShowsReplica}
use Rattle.hc_run.specs.StepLaws.{BeginningIsShown, bounds_of, protocol_of}
use Rattle.hc_run.specs.Tied.{IsTied}
use Rattle.hc_run.proofs.Aggregating.{zeros}
use Rattle.hc_run.proofs.Journals.{durable-anew}
use Rattle.hc_run.proofs.Stops.{holds-anew}

-- nothing was stored
nothing-stored : replay [] ≡ begun
unfolding replay
nothing-stored = refl

-- each member's place
place-begun : (g : Group) (v : ℕ) → ShowsReplica (setup_of g v) (protocol_of g) (started [])
unfolding anew
place-begun g v =
    let w = protocol_of g in
    let setup = setup_of g v in
    let none : All (IsStoredOf w.table) (replay []).log = rw nothing-stored (All-nil (IsStoredOf w.table)) in
    let tied : IsTied (member_of w v) (anew (replay [])) = rw nothing-stored
    (record {
      up = refl;
      term = refl;
      vote = refl;
      log = refl;
      role = refl;
      matched = refl;
      commit = refl;
      applied = refl;
      counted = λ e c. absurd cc;
      start = λ e. absurd cc;
      reached = λ e p. absurd cc;
    }) in
    let shown : IsShown setup w (anew (replay [])) =
    record {
      group = record { size = refl; bound = λ p. refl };
      tied = tied;
      sound = sound-anew setup (replay []) (IsValid-replay [] history_none);
      holds = holds-anew w v (replay []) none;
    } in
    record { history = history_none; bodies = none; member = (shown, durable-anew (replay [])) }

pub beginning_is_shown : BeginningIsShown
beginning_is_shown g is =
    let w = protocol_of g in
    let size = length g.members in
    record {
      kept = begins size (bounds_of g);
      answered = begins_answered size (bounds_of g);
      group = record { size = refl; bound = λ p. refl };
      each = length-replicate size (started []);
      members = λ v inside. rw (get_or-replicate size v (started []) (stopped []) inside) (place-begun g v);
      aggregator = record { term = refl; leader = refl; start = refl; reached = λ p. sym (zeros size p) };
      tally = tally_begun size 0 0 0 (omega arith) (λ h. absurd (omega (arith, h)));
      table = refl;
      asked = All-nil IsAsked;
      passed = refl;
      reports = refl;
      replied = λ r there. there;
      datagrams = All-nil (IsBackedDatagram g.members w);
    }

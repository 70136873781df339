-- Each run is a list of the protocol's rules, what was applied in it is one list, and by that the group serves as one thread.
use Rattle.std.proofs.Common.{◌≡◌, List, [], ◌∷◌, ◌++◌, length, refl, sym, subst}
use Rattle.std.proofs.lemmas.List.Elements.{All-nil}
use Rattle.hc_rules.specs.Log.{In}
use Rattle.hc_rules.specs.Message.{Reply}
use Rattle.hc_rules.specs.Protocol.{ProtocolState}
use Rattle.hc_rules.specs.Runs.{after_rules}
use Rattle.hc_rules.proofs.Answers.{given_within_bounds}
use Rattle.hc_run.specs.Held.{IsWhole}
use Rattle.hc_run.specs.Group.{Group, IsGroup}
use Rattle.hc_run.specs.State.{GroupState, Passed, beginning}
use Rattle.hc_run.specs.Events.{GroupEvent}
use Rattle.hc_run.specs.AsOne.{GroupsServeAsOne, IsReplyOf, TheListGrows}
use Rattle.hc_run.specs.OneList.{AppliedIsOneList, ListGrows, applied_list}
use Rattle.hc_run.specs.Runs.{ArePossible, IsRun, after_events, run}
use Rattle.hc_run.specs.ServesOn.{GroupsServeOn}
use Rattle.hc_run.specs.Shows.{Shows}
use Rattle.hc_run.specs.Steps.{step}
use Rattle.hc_run.specs.StepLaws.{HasRules, LeadsTo, RunsAreRules, bounds_of, protocol_of}
use Rattle.hc_run.proofs.AllSteps.{steps_are_rules}
use Rattle.hc_run.proofs.AsOne.{after-replies, bounded, in-order, reply-is, serves}
use Rattle.hc_run.proofs.Beginnings.{beginning_is_shown}
use Rattle.hc_run.proofs.Gaps.{HasNoGaps, rules-gaps}
use Rattle.hc_run.proofs.Growing.{HasAll, events-add, list-grows}
use Rattle.hc_run.proofs.OneList.{one-list}
use Rattle.hc_run.proofs.ReplyParts.{reply-parts}
use Rattle.hc_run.proofs.ReplyFacts.{RepliesWerePassed, rules-passed}
use Rattle.hc_run.proofs.Stretches.{leads-at-once, leads-then}
use Rattle.hc_run.proofs.WholeBodies.{AreWhole, step-whole}

-- events that follow one another lead on by rules
pub events-lead : (g : Group) (w : ProtocolState) (s : GroupState) (events : List GroupEvent) → IsGroup g → Shows g w s → ArePossible g s events
    → LeadsTo g w (after_events g s events)
events-lead g w s [] is shows may = leads-at-once g w s shows
events-lead g w s (e ∷ more) is shows may =
    leads-then g w (step g s e) (after_events g (step g s e) more) (steps_are_rules g w s e is shows may.0)
    (λ v shown. events-lead g v (step g s e) more is shown may.1)

pub runs_are_rules : RunsAreRules
runs_are_rules g events is runs =
    let leads = events-lead g (protocol_of g) (beginning g) events is (beginning_is_shown g is) runs.possible in
    record { rules = leads.rules; are = record { allowed = leads.allowed }; shown = leads.shown }

-- events after others lead on from where those led
pub events-follow : (g : Group) (s : GroupState) (events more : List GroupEvent) → after_events g s (events ++ more) ≡ after_events g (after_events g s events) more
events-follow g s [] more = refl
events-follow g s (e ∷ events) more = events-follow g (step g s e) events more

pub possible-parts : (g : Group) (s : GroupState) (events more : List GroupEvent) → ArePossible g s (events ++ more)
    → ArePossible g s events × ArePossible g (after_events g s events) more
possible-parts g s [] more may = (tt, may)
possible-parts g s (e ∷ events) more may = let rest = possible-parts g (step g s e) events more may.1 in ((may.0, rest.0), rest.1)

-- What was applied --

-- after events what was applied has the bodies of the table
events-whole : (g : Group) (w : ProtocolState) (s : GroupState) (events : List GroupEvent) → IsGroup g → Shows g w s → ArePossible g s events → AreWhole s
    → AreWhole (after_events g s events)
events-whole g w s [] is shows may whole = whole
events-whole g w s (e ∷ more) is shows may whole =
    let leads = steps_are_rules g w s e is shows may.0 in
    events-whole g (after_rules w leads.rules) (step g s e) more is leads.shown may.1 (step-whole g w s shows whole e)

-- what is known after a run, of whatever state of the protocol shows it
record RunFacts (g : Group) (events : List GroupEvent) (has : HasRules g events) : Type 0 where
  whole : AreWhole (run g events)
  none : HasNoGaps (after_rules (protocol_of g) has.rules)
  were : RepliesWerePassed (after_rules (protocol_of g) has.rules)

run-facts : (g : Group) (events : List GroupEvent) (has : HasRules g events) → IsGroup g → IsRun g events → RunFacts g events has
run-facts g events has is runs =
    let w = protocol_of g in
    let first = beginning_is_shown g is in
    let are = has.are in
    let none : HasNoGaps w = λ x there. absurd there in
    let were : RepliesWerePassed w = λ r there. absurd there in
    record {
      whole = events-whole g w (beginning g) events is first runs.possible (All-nil (λ (x : Passed). IsWhole [] x.stored));
      none = rules-gaps w has.rules first.kept none are.allowed;
      were = rules-passed w has.rules first.kept first.answered were are.allowed;
    }

-- it is one list, on which any state of the protocol that shows the run agrees
pub applied_is_one_list : AppliedIsOneList
applied_is_one_list g events is runs has =
    let facts = run-facts g events has is runs in
    one-list g (after_rules (protocol_of g) has.rules) (run g events) has.shown facts.whole facts.none

-- by which the group serves
pub groups_serve_as_one : GroupsServeAsOne
groups_serve_as_one g events is runs =
    let has = runs_are_rules g events is runs in
    let facts = run-facts g events has is runs in
    let w = after_rules (protocol_of g) has.rules in
    let s = run g events in
    let shows = has.shown in
    let one = applied_is_one_list g events is runs has in
    let replies : (r : Reply) → In r s.replied → IsReplyOf (applied_list s) r = λ r there. reply-is g w s is shows facts.whole facts.none facts.were one.bodies r (shows.replied r there) in
    let given = given_within_bounds (length g.members) (bounds_of g) has.rules has.are in
    record {
      entries = one.each;
      only = one.only;
      bodies = one.bodies;
      once = one.once;
      replies = replies;
      parts = reply-parts g is events runs.possible;
      order = in-order g w s is shows facts.whole facts.none replies;
      entries_in_order = after-replies g w s is shows facts.whole facts.none;
      services = serves g w s is shows facts.whole facts.none;
      bounds = λ v m up. bounded g w s is shows facts.whole facts.none v m up (given.of_log v);
    }

-- and which only grows
pub the_list_grows : TheListGrows
the_list_grows g events more is runs =
    let parts = possible-parts g (beginning g) events more runs.possible in
    let before : IsRun g events = record { possible = parts.0 } in
    let s = run g events in
    let follow : run g (events ++ more) ≡ after_events g s more = events-follow g (beginning g) events more in
    let has = runs_are_rules g events is before in
    let later = runs_are_rules g (events ++ more) is runs in
    list-grows s (run g (events ++ more)) _ _ (applied_is_one_list g events is before has) (applied_is_one_list g (events ++ more) is runs later)
    (subst (λ (t : GroupState). HasAll s t) (sym follow) (events-add g s more))

-- so it serves on
pub groups_serve_on : GroupsServeOn
groups_serve_on g events is runs =
    record {
      serves = groups_serve_as_one g events is runs;
      agreed = record { rules = runs_are_rules g events is runs; prefix = λ has. (applied_is_one_list g events is runs has).prefix };
      grows = λ earlier later whole.
          subst (λ (l : List GroupEvent). ListGrows (run g earlier) (run g l)) whole (the_list_grows g earlier later is (subst (IsRun g) (sym whole) runs));
    }

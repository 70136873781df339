-- Stretches of rules, one after another, from a state of the protocol that shows a group to one that shows it too.
use Rattle.std.proofs.Common.{◌≡◌, ℕ, List, [], ◌++◌, sym, subst}
use Rattle.hc_rules.specs.Protocol.{ProtocolState}
use Rattle.hc_rules.specs.Rules.{Rule}
use Rattle.hc_rules.specs.Runs.{AllAllowed, after_rules}
use Rattle.hc_rules.proofs.RuleLists.{allowed_in_parts, steps_follow}
use Rattle.hc_run.specs.Group.{Group}
use Rattle.hc_run.specs.State.{GroupState}
use Rattle.hc_run.specs.Shows.{Shows}
use Rattle.hc_run.specs.StepLaws.{LeadsTo}

-- the counts of events and of crashes don't matter
pub shows-counted : (g : Group) (w : ProtocolState) (s : GroupState) (events crashes : ℕ) → Shows g w s → Shows g w (record s { events = events; crashes = crashes })
shows-counted g w s events crashes shows =
    record {
      kept = shows.kept;
      answered = shows.answered;
      group = shows.group;
      each = shows.each;
      members = shows.members;
      aggregator = shows.aggregator;
      tally = shows.tally;
      table = shows.table;
      asked = shows.asked;
      passed = shows.passed;
      reports = shows.reports;
      replied = shows.replied;
      datagrams = shows.datagrams;
    }

pub leads-counted : (g : Group) (w : ProtocolState) (s : GroupState) (events crashes : ℕ) → LeadsTo g w s → LeadsTo g w (record s { events = events; crashes = crashes })
leads-counted g w s events crashes leads =
    record { rules = leads.rules; allowed = leads.allowed; shown = shows-counted g (after_rules w leads.rules) s events crashes leads.shown }

-- no rules
pub leads-at-once : (g : Group) (w : ProtocolState) (s : GroupState) → Shows g w s → LeadsTo g w s
leads-at-once g w s shows = record { rules = []; allowed = tt; shown = shows }

-- rules, and then those that lead on from where they led
pub leads-after : (g : Group) (w : ProtocolState) (s : GroupState) (first : List Rule) → AllAllowed w first → LeadsTo g (after_rules w first) s → LeadsTo g w s
leads-after g w s first allowed rest =
    let follow : after_rules w (first ++ rest.rules) ≡ after_rules (after_rules w first) rest.rules = steps_follow w first rest.rules in
    record {
      rules = first ++ rest.rules;
      allowed = allowed_in_parts w first rest.rules allowed rest.allowed;
      shown = subst (λ (x : ProtocolState). Shows g x s) (sym follow) rest.shown;
    }

-- one stretch after another
pub leads-then : (g : Group) (w : ProtocolState) (s t : GroupState) → LeadsTo g w s → ((v : ProtocolState) → Shows g v s → LeadsTo g v t) → LeadsTo g w t
leads-then g w s t one more = leads-after g w t one.rules one.allowed (more (after_rules w one.rules) one.shown)

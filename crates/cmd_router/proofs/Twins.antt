-- A loop on a twin, as the link tells it that takes the twin back.
use Rattle.std.proofs.Common.{ℕ, List, [], Option, Some, None, ◌∙◌}
use Rattle.std.specs.Io.KnownBytes.{Keeps}
use Rattle.r2_link.specs.Links.{LinkTold, Rejoins, Splits}
use Rattle.r2_link.specs.Told.{IsKept, LosesFirst}
use Rattle.r2_link.proofs.Streams.{Appends-kept}
use Rattle.r2_link.proofs.Told.{IsKept-trans}
use Rattle.cmd_status.specs.declared.status.Status.{Status}
use Rattle.cmd_loop.specs.declared.pace.Pace.{Pace}
use Rattle.cmd_loop.specs.Ends.{Ends}
use Rattle.cmd_loop.specs.Loop.{Rule, Serves}
use Rattle.cmd_loop.proofs.Weaker.{Gives, serves-over, serves-rejoined, serves-weaker}
use Rattle.cmd_router.specs.Twins.{RunsOnTwin}

-- a first lane that is lost, and then all is kept
loses-kept : {A : Type 0} (a b c : Option (List A)) → LosesFirst a b → IsKept b c → LosesFirst a c
loses-kept None b c p q = tt
loses-kept (Some x) None c p q = absurd p
loses-kept (Some x) (Some y) None p q = absurd q
loses-kept (Some x) (Some y) (Some z) p q = q ∙ p

-- the twin is taken back after its loop
pub runs-on-twin : (D W S : Rule) (pace : Pace) (a b : Ends) (old split new : LinkTold) (status : Status)
    → Splits old split a.link → Rejoins split new b.link → Serves D W S pace a b status
    → RunsOnTwin D W S pace (record a { link = old }) (record b { link = new }) status
runs-on-twin D W S pace a b old split new status splits rejoins serves = record {
  first = a.link.left;
  last = b.link.left;
  lane = splits.lane;
  lanes = loses-kept old.lanes split.lanes new.lanes splits.lanes rejoins.lanes;
  left = IsKept-trans old.left split.left new.left splits.left rejoins.left;
  served = serves-rejoined D W S pace a b old split new status splits rejoins serves;
}

-- a loop on a twin by weaker rules
pub on-twin-weaker : (D D' W W' S S' : Rule) → Gives D D' → Gives W W' → Gives S S'
    → (pace : Pace) (a b : Ends) (status : Status) → RunsOnTwin D W S pace a b status → RunsOnTwin D' W' S' pace a b status
on-twin-weaker D D' W W' S S' done whole on pace a b status runs = record {
  first = runs.first;
  last = runs.last;
  lane = runs.lane;
  lanes = runs.lanes;
  left = runs.left;
  served = serves-weaker D D' W W' S S' done whole on pace (record a { link = record a.link { left = runs.first; lanes = None } })
      (record b { link = record b.link { left = runs.last; lanes = None } }) status runs.served;
}

-- a loop on a twin, and then what was written is kept
pub on-twin-kept : (D W S : Rule) (pace : Pace) (a b : Ends) (written : Option (List ℕ)) (status : Status)
    → Keeps b.written written → RunsOnTwin D W S pace a b status → RunsOnTwin D W S pace a (record b { written = written }) status
on-twin-kept D W S pace a b written status kept runs =
    let first : Ends = record a { link = record a.link { left = runs.first; lanes = None } } in
    let last : Ends = record b { link = record b.link { left = runs.last; lanes = None } } in record {
      first = runs.first;
      last = runs.last;
      lane = runs.lane;
      lanes = runs.lanes;
      left = runs.left;
      served = serves-over (λ stored. Unit {0}) tt D W S (λ happened stored sends right. tt) (λ happened stored sends right. tt) (λ happened stored sends right. tt)
          pace first last first (record last { written = written })
          (record {
            passes = λ items moments stored sends any passed. record {
              source = passed.source;
              sink = Appends-kept a.written b.written written [] passed.sink kept;
              link = passed.link;
              clock = passed.clock;
              journal = passed.journal;
            };
            dry = λ ran. ran;
          }) status runs.served;
    }

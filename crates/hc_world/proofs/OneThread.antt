-- A group serves as one thread in each run that its world shows, and at each moment of a run.
use Rattle.std.proofs.Common.{◌≡◌, List, ◌++◌, Some, sym, ap, subst, ◌∙◌}
use Rattle.hc_run.specs.Group.{Group, IsGroup}
use Rattle.hc_run.specs.Runs.{IsRun}
use Rattle.hc_run.specs.ServesOn.{ServesOn}
use Rattle.hc_run.specs.State.{GroupState, beginning}
use Rattle.hc_run.proofs.WholeRuns.{groups_serve_on, possible-parts}
use Rattle.hc_world.specs.declared.event.WorldEvent.{WorldEvent}
use Rattle.hc_world.specs.declared.live.Live.{Live}
use Rattle.hc_world.specs.Events.{events_of}
use Rattle.hc_world.specs.Laws.{GroupsServeThroughout}
use Rattle.hc_world.specs.Live.{IsWorld, group_of, seen_of}
use Rattle.hc_world.specs.Runs.{ShowsRun, run_of}
use Rattle.hc_world.specs.Seen.{Seen, seen}
use Rattle.hc_world.proofs.Shown.{events-append, sent_all}

seen-group : (g : Group) (s : GroupState) (l : Live) → Some (seen_of l) ≡ Some (seen g s) → group_of l ≡ g
unfolding seen_of seen
seen-group g s l same = by _ _ same
  where
    by : (a b : Seen) → Some a ≡ Some b → a.group ≡ b.group
    by a b e = ap (λ (w : Seen). w.group) (inner a b e)
      where
        inner : (a b : Seen) → Some a ≡ Some b → a ≡ b
        inner a b e = cc

-- its group is one that there may be
pub shows-group : (g : Group) (events : List WorldEvent) (l : Live) → IsWorld l → ShowsRun g events (Some (seen_of l)) → IsGroup g
shows-group g events l is shows = subst IsGroup (seen-group g (run_of g events) l shows.seen) is.group

pub serves-on : (g : Group) (events : List WorldEvent) (l : Live) → IsWorld l → ShowsRun g events (Some (seen_of l)) → ServesOn g (events_of 0 events)
serves-on g events l is shows = groups_serve_on g (events_of 0 events) (shows-group g events l is shows) shows.possible

-- what a run begins with is a run
begins-run : (g : Group) (events earlier later : List WorldEvent) → earlier ++ later ≡ events → IsRun g (events_of 0 events) → IsRun g (events_of 0 earlier)
begins-run g events earlier later parts runs =
    let whole = subst (IsRun g) (ap (events_of 0) (sym parts) ∙ events-append 0 earlier later) runs in
    record { possible = (possible-parts g (beginning g) (events_of 0 earlier) (events_of (sent_all 0 earlier) later) whole.possible).0 }

-- so a group serves on at each moment of a run
pub groups_serve_throughout : GroupsServeThroughout
groups_serve_throughout g events is runs earlier later parts = groups_serve_on g (events_of 0 earlier) is (begins-run g events earlier later parts runs)

-- Processes of a member, one after another, are lives of it.
use Rattle.std.proofs.Common.{◌≡◌, ◌⊎◌, inl, inr, ℕ, ◌≤◌, length, List, [], ◌∷◌, ◌++◌, All, Option, Some, None, IfSome, refl, sym, ap, ◌∙◌, subst, append_assoc, append-nil, arith}
use Rattle.std.proofs.lemmas.List.Elements.{All-cons, All-nil}
use Rattle.r2_base.specs.declared.event.Event.{Event}
use Rattle.hc_disk.specs.Disk.{File, Held, MayLeave, Moments, content, later, with_selected}
use Rattle.hc_disk.specs.Runs.{LeavesOnly}
use Rattle.hc_log.specs.declared.record.Record.{Record}
use Rattle.hc_log.specs.Durable.{State}
use Rattle.hc_member.specs.declared.setup.Setup.{Setup}
use Rattle.hc_file_journal.specs.File.{IsDamaged, IsJournal}
use Rattle.hc_file_journal.specs.FileJournal.{IsSameJournal, StaysJournal, TellsJournal}
use Rattle.hc_file_journal.specs.FileLaws.{IsSince}
use Rattle.hc_file_journal.specs.declared.recover_fault.RecoverFault.{RecoverFault}
use Rattle.hc_file_journal.specs.declared.recover_fault.RecoverFault.TheVariants as fault
use Rattle.hc_file_journal.proofs.Rows.{not_damaged, one_journal}
use Rattle.hc_run.specs.Group.{setup_of}
use Rattle.hc_run.specs.State.{Replica, stopped}
use Rattle.cmd_status.specs.declared.status.Status.{Status}
use Rattle.cmd_status.specs.declared.status.Status.TheVariants as status
use Rattle.cmd_loop.specs.declared.pace.Pace.{Pace}
use Rattle.cmd_loop.specs.Ends.{Ends}
use Rattle.cmd_loop.specs.Events.{events}
use Rattle.cmd_replica.specs.Command.{IsRefused, IsUnrecovered, RunsReplica, Selects, ServesFrom, ServesSelected, StaysRecoverable}
use Rattle.cmd_group.specs.Members.{turn_sends}
use Rattle.cmd_group.specs.Lives.{AreLives, Ending, Open, Stopped, Broken, Closed, IsEnd, IsLife, IsOver, Life, MayEnd, place_of, place_of_lives, served_in, stored_in}
use Rattle.cmd_group.specs.Crashes.{IsLeftAtEnd, IsLeftBy, LeavesLives, LosesItsOwn, MayBeCut}
use Rattle.cmd_group.specs.Processes.{AreLivesOf, AreOfLife, AreOver, AreProcesses, FilesAreFound, FitsCut, HasServedLife, HaveLives, IsAtEnd, IsLifeOf, KeepFiles, LosesOnlyUnsynced, NeverServed, Process, ProcessesAreLives, ProcessesServeAsOne, RunLosesItsOwn, RunsUnserved, StaysSomeJournal, TheRecoveredIsTheLeft, WasCutEarly, left_by, left_by_all, no_file, over_at}
use Rattle.cmd_group.proofs.Loops.{loops_serve_as_one}
use Rattle.cmd_group.proofs.DiskMoments.{GoesOn, fits-since, goes-nowhere, goes-on, goes-then, now-since, since-either, since-has, since-more}
use Rattle.cmd_group.proofs.Crashes.{by-cases, crashes_leave_lives, keeps-last, recovers-on, serves-on}

-- Disks --

pub keep_files : KeepFiles
keep_files = record {
  in_crash = λ f left may. record { read = may; left = λ l same. subst (MayLeave f) (sym same) may };
  in_place = λ f read. record { read = read; left = λ left may. may };
}

-- Lists of lives --

over-any : (ending : Ending) (more : List Life) → IsEnd ending → IsOver ending more
over-any Open more is = absurd is
over-any Stopped more is = tt
over-any (Broken e sent) more is = tt
over-any (Closed times sent) more is = tt

module _ (s : Setup) where
  place-push : (place : Replica) (lives : List Life) (life : Life) → place_of_lives s place (lives ++ life ∷ []) ≡ place_of s life
  place-push place [] life = refl
  place-push place (x ∷ lives) life = place-push (place_of s x) lives life

  journal-alone : (place : Replica) (lives : List Life) → (place_of_lives s (stopped place.journal) lives).journal ≡ (place_of_lives s place lives).journal
  journal-alone place [] = refl
  journal-alone place (x ∷ lives) = refl

  lives-push : (journal : List Record) (lives : List Life) (life : Life) → AreLives s journal lives → AreOver lives → life.records ≡ (place_of_lives s (stopped journal) lives).journal → IsLife s life
      → IsEnd life.ending → AreLives s journal (lives ++ life ∷ [])
  lives-push journal [] life are over begins is end = (begins, is, over-any life.ending [] end, tt)
  lives-push journal (x ∷ lives) life are over begins is end = (
    are.0,
    are.1,
    over-any x.ending (lives ++ life ∷ []) over.0,
    lives-push (place_of s x).journal lives life are.3 over.1 (begins ∙ sym (journal-alone (place_of s x) lives)) is end,
  )

over-push : (lives : List Life) (life : Life) → AreOver lives → IsEnd life.ending → AreOver (lives ++ life ∷ [])
over-push [] life over end = (end, tt)
over-push (x ∷ lives) life over end = (over.0, over-push lives life over.1 end)

-- Cut lives --

module _ (s : Setup) where
  record MayStand (life : Life) : Type 0 where
    is : IsLife s life
    end : IsEnd life.ending

  stands-so : (life : Life) (ending : Ending) → life.ending ≡ ending → MayEnd s (served_in s life).member ending → IsEnd ending → MayStand life
  stands-so life ending same may end = record { is = subst (MayEnd s (served_in s life).member) (sym same) may; end = subst IsEnd (sym same) end }

  stands-cut : (cut : Life) (e : Event) → (cut.ending ≡ Stopped) ⊎ (cut.ending ≡ Broken e []) → MayStand cut
  stands-cut cut e (inl same) = stands-so cut Stopped same tt tt
  stands-cut cut e (inr same) = stands-so cut (Broken e []) same (record { unsent = turn_sends s (served_in s cut).member e; split = refl }) tt

  -- a life or one that was cut off
  record StandsFrom (whole life : Life) : Type 0 where
    stands : MayStand life
    begins : life.records ≡ whole.records

  of-cut : (es : List Event) (whole life : Life) → MayStand whole → MayBeCut s es whole life → StandsFrom whole life
  of-cut es whole life stands (inl same) = record { stands = subst MayStand (sym same) stands; begins = ap (λ (l : Life). l.records) same }
  of-cut es whole life stands (inr cut) =
      let at = cut.1.1 in record { stands = stands-cut life at.event at.ending; begins = cut.0 }

  of-end : (es : List Event) (whole life : Life) → MayStand whole → IsAtEnd s es whole life → StandsFrom whole life
  of-end es whole life stands (inl same) = of-cut es whole life stands (inl same)
  of-end es whole life stands (inr lost) = of-cut es whole life stands (inr (lost.0, (lost.1.0, lost.1.1.1)))

-- The beginning of a process --

module _ (name : List ℕ) (before : Moments) where
  -- its disk once the file is selected
  abbrev chosen : Moments
  chosen = later before (with_selected name before.now)

  abbrev file : File
  file = before.now.files name

  chosen-on : GoesOn before chosen
  chosen-on = record { more = chosen.now ∷ []; since = refl }

  chosen-is : (t : Moments) → Selects name (Some before) (Some t) → t ≡ chosen
  chosen-is t selects = selects

  -- the file isn't changed by that
  same-file : (held : Held) → IsSince before chosen held → held.files name ≡ file
  same-file held at = since-has (λ (h : Held). h.files name ≡ file) before chosen held refl (record { more = chosen.now ∷ []; since = refl; each = each }) at
    where
      each : All (λ (h : Held). h.files name ≡ file) (chosen.now ∷ [])
      each = All-cons (λ (h : Held). h.files name ≡ file) chosen.now [] refl (All-nil (λ (h : Held). h.files name ≡ file))

  -- a run in which nothing was recovered did nothing, or what a recovery does
  abbrev Ended : Moments → Type 0
  Ended after = (after ≡ before) ⊎ StaysRecoverable (Some chosen) (Some after)

  of-why : (why : RecoverFault) (after : Moments) → IsRefused why (Some chosen) (Some after) → StaysRecoverable (Some chosen) (Some after)
  of-why fault.Disk after is = is
  of-why fault.Memory after is = is
  of-why (fault.Damaged at) after is = is.since

  of-selected : (why : RecoverFault) (selected : Option Moments) (after : Moments) → Selects name (Some before) selected → IsRefused why selected (Some after) → Ended after
  of-selected why None after selects is = absurd selects
  of-selected why (Some t) after selects is = inr (of-why why after (subst (λ (u : Moments). IsRefused why (Some u) (Some after)) selects is))

  ended-so : (at : Status) (after : Moments) → IsUnrecovered name (Some before) (Some after) at → Ended after
  ended-so status.DiskFault after (inl same) = inl same
  ended-so status.DiskFault after (inr was) = of-selected fault.Disk was.selected after was.selects was.is
  ended-so status.Memory after was = of-selected fault.Memory was.selected after was.selects was.is
  ended-so (status.JournalDamaged place) after was = of-selected (fault.Damaged place) was.selected after was.selects was.is
  ended-so status.Done after was = absurd was
  ended-so status.BadWords after was = absurd was
  ended-so (status.BadScript line) after was = absurd was
  ended-so status.SourceFault after was = absurd was
  ended-so status.SinkFault after was = absurd was
  ended-so status.LinkFault after was = absurd was
  ended-so status.ClockFault after was = absurd was
  ended-so status.TimedOut after was = absurd was
  ended-so status.IdsUsed after was = absurd was
  ended-so status.TurnsSpent after was = absurd was

  ended-on : (after : Moments) → Ended after → GoesOn before after
  ended-on after (inl same) = subst (GoesOn before) (sym same) (goes-nowhere before)
  ended-on after (inr was) = goes-then before chosen after chosen-on (goes-on (LeavesOnly (StaysJournal chosen) chosen.now) chosen after was)

  -- what is so of all that a crash may have left already, and of what a read gives, is so of what it leaves since
  module _ (Good : List ℕ → Type 0) (again : (left other : List ℕ) → IsSameJournal left other → Good left → Good other) (good : (left : List ℕ) → MayLeave file left → Good left) (now : Good (content file)) where
    stays : (left : List ℕ) → StaysJournal chosen left → Good left
    stays left (inl may) = good left may
    stays left (inr (inl same)) = subst Good (sym same) now
    stays left (inr (inr journal)) = again (content file) left journal now

    early : (held : Held) → IsSince before chosen held → (left : List ℕ) → MayLeave (held.files name) left → Good left
    early held at left may = good left (subst (λ (f : File). MayLeave f left) (same-file held at) may)

    recovering : (after : Moments) → Ended after → (held : Held) → IsSince before after held → (left : List ℕ) → MayLeave (held.files name) left → Good left
    recovering after (inl same) held at left may = early held (since-more before after chosen held at (subst (λ (u : Moments). GoesOn u chosen) (sym same) chosen-on)) left may
    recovering after (inr was) held at left may =
        by-cases (IsSince before chosen held) (IsSince chosen after held) (Good left)
        (λ soon. early held soon left may)
        (λ late. let fits = fits-since name (StaysJournal chosen) chosen after held (refl, λ l m. inl m) was late in stays left (fits.1 left may))
        (since-either before chosen after held (goes-on (LeavesOnly (StaysJournal chosen) chosen.now) chosen after was) at)

-- One process more --

module _ (name : List ℕ) (s : Setup) where
  each-unserved : (ps : List (Process name s)) (lives : List Life) (p : Process name s) → AreLivesOf name s ps lives → NeverServed name s p → AreLivesOf name s (ps ++ p ∷ []) lives
  each-unserved [] [] p each never = (never, tt)
  each-unserved [] (life ∷ more) p each never = absurd each
  each-unserved (q ∷ ps) [] p each never = (each.0, each-unserved ps [] p each.1 never)
  each-unserved (q ∷ ps) (life ∷ more) p (inl each) never = inl (each.0, each-unserved ps (life ∷ more) p each.1 never)
  each-unserved (q ∷ ps) (life ∷ more) p (inr each) never = inr (each.0, each-unserved ps more p each.1 never)

  each-served : (ps : List (Process name s)) (lives : List Life) (p : Process name s) (last : Life) → AreLivesOf name s ps lives → IsLifeOf name s p last
      → AreLivesOf name s (ps ++ p ∷ []) (lives ++ last ∷ [])
  each-served [] [] p last each of = inr (of, tt)
  each-served [] (life ∷ more) p last each of = absurd each
  each-served (q ∷ ps) [] p last each of = inl (each.0, each-served ps [] p last each.1 of)
  each-served (q ∷ ps) (life ∷ more) p last (inl each) of = inl (each.0, each-served ps (life ∷ more) p last each.1 of)
  each-served (q ∷ ps) (life ∷ more) p last (inr each) of = inr (each.0, each-served ps more p last each.1 of)

  -- the life of a process that began with this file, and what a crash leaves after it
  record Adds (pace : Pace) (old new : Ends) (cut : Option Held) (file left : List ℕ) : Type 0 where
    life : Life
    of : HasServedLife s pace old new cut life
    stands : MayStand s life
    found : IsJournal life.records file
    journal : IsJournal (place_of s life).journal left

  module _ (done : List (Process name s)) where
    abbrev Good : List ℕ → Type 0
    Good = HaveLives name s done

    again : (left other : List ℕ) → IsSameJournal left other → Good left → Good other
    again left other same good = record {
      lives = good.lives;
      are = good.are;
      over = good.over;
      each = good.each;
      journal = subst (λ (l : List Record). IsJournal l other) (one_journal left same.records (place_of_lives s (stopped []) good.lives).journal same.was good.journal) same.is;
    }

    one-unserved : (p : Process name s) (left : List ℕ) → Good left → NeverServed name s p → HaveLives name s (done ++ p ∷ []) left
    one-unserved p left good never = record { lives = good.lives; are = good.are; over = good.over; each = each-unserved done good.lives p good.each never; journal = good.journal }

    one-served : (p : Process name s) (file left : List ℕ) → Good file → Adds p.pace p.old p.new p.cut file left → HaveLives name s (done ++ p ∷ []) left
    one-served p file left good adds =
        let life = adds.life in
        let stands = adds.stands in
        let begins = one_journal file life.records (place_of_lives s (stopped []) good.lives).journal adds.found good.journal in
        record {
          lives = good.lives ++ life ∷ [];
          are = lives-push s [] good.lives life good.are good.over begins stands.is stands.end;
          over = over-push good.lives life good.over stands.end;
          each = each-served done good.lives p life good.each adds.of;
          journal = subst (λ (r : Replica). IsJournal r.journal left) (sym (place-push s (stopped []) good.lives life)) adds.journal;
        }

    -- A process that begins with this disk --

    module _ (before : Moments) (good : (left : List ℕ) → MayLeave (file name before) left → Good left) (now : Good (content (file name before))) where
      module _ (pace : Pace) (after : Moments) (old new : Ends) (told : Option Moments) (on : GoesOn (chosen name before) after) (told-on : IfSome told (GoesOn (chosen name before)))
          (leaves : LeavesLives s pace (chosen name before) told after old new) where
        abbrev whole : Life
        whole = let has = leaves.has in has.life

        abbrev came-events : List Event
        came-events = events pace.tick_ms leaves.items leaves.moments

        stands-whole : MayStand s whole
        stands-whole = let has = leaves.has in record { is = has.is; end = has.over }

        adds-so : (cut : Option Held) (life : Life) (left : List ℕ) → StandsFrom s whole life → FitsCut s came-events cut whole life → IsJournal (place_of s life).journal left
            → Adds pace old new cut (content (file name before)) left
        adds-so cut life left from fits journal =
            let has = leaves.has in
            let begins = from.begins ∙ has.begins in
            record {
              life = life;
              of = record {
                records = leaves.records;
                begins = begins;
                begun = leaves.begun;
                last = leaves.last;
                items = leaves.items;
                moments = leaves.moments;
                has = has;
                fits = fits;
              };
              stands = from.stands;
              found = subst (λ (l : List Record). IsJournal l (content (file name before))) (sym begins) leaves.found;
              journal = journal;
            }

        adds-end : (left : List ℕ) → IsLeftAtEnd s came-events whole left → Adds pace old new None (content (file name before)) left
        adds-end left (inl journal) = adds-so None whole left (record { stands = stands-whole; begins = refl }) (inl refl) journal
        adds-end left (inr lost) =
            let kept = keeps-last s whole came-events (stored_in s whole) lost.0 left lost.1.0 lost.1.1 in
            let is : IsAtEnd s came-events whole kept.cut = inr (kept.begins, (lost.0, (lost.1.0, kept.at))) in
            adds-so None kept.cut left (of-end s came-events whole kept.cut stands-whole is) is kept.journal

        adds-cut : (held : Held) (left : List ℕ) → IsLeftBy s came-events whole left → Adds pace old new (Some held) (content (file name before)) left
        adds-cut held left is = adds-so (Some held) is.cut left (of-cut s came-events whole is.cut stands-whole is.is) is.is is.journal

        early-cut : (u : Option Moments) (held : Held) → IfSome u (GoesOn (chosen name before)) → IsSince before (chosen name before) held → IfSome u (λ t. IsSince before t held)
        early-cut None held goes at = tt
        early-cut (Some t) held goes at = since-more before (chosen name before) t held at goes

        late-cut : (held : Held) (u : Moments) → IsSince (chosen name before) u held → IsSince before u held
        late-cut held u at = record {
          earlier = before.now ∷ at.earlier;
          later = at.later;
          same = at.same ∙ append_assoc before.past (before.now ∷ []) (at.earlier ++ held ∷ at.later);
        }

        abbrev Comes : Option Held → List ℕ → Type 0
        Comes cut left = (WasCutEarly cut before told × Good left) ⊎ Adds pace old new cut (content (file name before)) left

        comes : (cut : Option Held) → IfSome cut (IsSince before after) → (left : List ℕ) → MayLeave ((over_at cut after).files name) left → Comes cut left
        comes None at left may = inr (adds-end left (leaves.at_end left may))
        comes (Some held) at left may =
            by-cases (IsSince before (chosen name before) held) (IsSince (chosen name before) after held) (Comes (Some held) left)
            (λ soon. inl (early-cut told held told-on soon, early name before Good again good now held soon left may))
            (λ late.
            by-cases (IsSince (chosen name before) leaves.recovered held) (IsSince leaves.recovered after held) (Comes (Some held) left)
            (λ in_recovery. inl (
              subst (λ (u : Option Moments). IfSome u (λ t. IsSince before t held)) (sym leaves.is_recovered) (late-cut held leaves.recovered in_recovery),
              stays name before Good again good now left (leaves.recovering held in_recovery left may),
            ))
            (λ serving. inr (adds-cut held left (leaves.serving held serving left may)))
            (leaves.either held late))
            (since-either before (chosen name before) after held on at)

      -- it served or it didn't
      abbrev Runs : (pace : Pace) (after : Moments) (old new : Ends) (at : Status) (cut : Option Held) → RunsReplica name s pace (Some before) (Some after) old new at → List ℕ → Type 0
      Runs pace after old new at cut runs left =
          (RunsUnserved name s pace before after old new at cut runs × Good left) ⊎ Adds pace old new cut (content (file name before)) left

      abbrev Chosen : (pace : Pace) (after : Moments) (old new : Ends) (at : Status) (cut : Option Held) (left : List ℕ) → Moments → Type 0
      Chosen pace after old new at cut left t =
          (is : ServesSelected s pace (Some t) (Some after) old new at) → LosesItsOwn s pace (Some t) (Some after) old new at is
          → (WasCutEarly cut before is.recovered × Good left) ⊎ Adds pace old new cut (content (file name before)) left

      serves-chosen : (pace : Pace) (after : Moments) (old new : Ends) (at : Status) (cut : Option Held) → IfSome cut (IsSince before after) → (left : List ℕ)
          → MayLeave ((over_at cut after).files name) left → Chosen pace after old new at cut left (chosen name before)
      serves-chosen pace after old new at cut moment left may is own =
          let was = is.was_recovered in
          comes pace after old new is.recovered (serves-on (chosen name before) after was.end is.kept.end is.ended is.recovered was.since is.since)
          (recovers-on (chosen name before) is.recovered was.since)
          (crashes_leave_lives s pace (chosen name before) after old new at is own) cut moment left may

      serves-selected : (pace : Pace) (after : Moments) (old new : Ends) (at : Status) (cut : Option Held) → IfSome cut (IsSince before after) → (left : List ℕ)
          → MayLeave ((over_at cut after).files name) left → (selected : Option Moments) → Selects name (Some before) selected
          → (is : ServesSelected s pace selected (Some after) old new at) → LosesItsOwn s pace selected (Some after) old new at is
          → (WasCutEarly cut before is.recovered × Good left) ⊎ Adds pace old new cut (content (file name before)) left
      serves-selected pace after old new at cut moment left may None selects is own = absurd selects
      serves-selected pace after old new at cut moment left may (Some t) selects is own =
          (subst (Chosen pace after old new at cut left) (sym selects) (serves-chosen pace after old new at cut moment left may)) is own

      moment-of : (cut : Option Held) (after : Moments) → GoesOn before after → IfSome cut (IsSince before after) → IsSince before after (over_at cut after)
      moment-of None after goes at = now-since before after goes
      moment-of (Some held) after goes at = at

      runs-so : (pace : Pace) (after : Moments) (old new : Ends) (at : Status) (cut : Option Held) → IfSome cut (IsSince before after)
          → (runs : RunsReplica name s pace (Some before) (Some after) old new at) → RunLosesItsOwn name s pace before after old new at runs
          → (left : List ℕ) → MayLeave ((over_at cut after).files name) left → Runs pace after old new at cut runs left
      runs-so pace after old new at cut moment (inl refused) own left may =
          let ended = ended-so name before at after refused.0 in
          inl (tt, recovering name before Good again good now after ended (over_at cut after) (moment-of cut after (ended-on name before after ended) moment) left may)
      runs-so pace after old new at cut moment (inr serves) own left may =
          serves-selected pace after old new at cut moment left may serves.selected serves.selects serves.is own

    -- one process more
    one-more : (p : Process name s) (f : File) → ((left : List ℕ) → MayLeave f left → Good left) → LosesOnlyUnsynced f (p.before.now.files name)
        → (left : List ℕ) → MayLeave (left_by name s p) left → HaveLives name s (done ++ p ∷ []) left
    one-more p f good loses left may =
        let now = good (content (p.before.now.files name)) loses.read in
        by-cases (NeverServed name s p × Good left) (Adds p.pace p.old p.new p.cut (content (p.before.now.files name)) left) (HaveLives name s (done ++ p ∷ []) left)
        (λ never. one-unserved p left never.1 never.0)
        (λ adds. one-served p (content (p.before.now.files name)) left now adds)
        (runs-so p.before (λ l m. good l (loses.left l m)) now p.pace p.after p.old p.new p.status p.cut p.at p.runs p.own left may)

  -- and all of them
  all-more : (done ps : List (Process name s)) (f : File) → AreProcesses name s f ps → ((left : List ℕ) → MayLeave f left → HaveLives name s done left)
      → (left : List ℕ) → MayLeave (left_by_all name s f ps) left → HaveLives name s (done ++ ps) left
  all-more done [] f are good left may = subst (λ (l : List (Process name s)). HaveLives name s l left) (sym (append-nil done)) (good left may)
  all-more done (p ∷ ps) f are good left may =
      subst (λ (l : List (Process name s)). HaveLives name s l left) (append_assoc done (p ∷ []) ps)
      (all-more (done ++ p ∷ []) ps (left_by name s p) are.1 (one-more done p f good are.0) left may)

pub processes_are_lives : ProcessesAreLives
processes_are_lives name s ps are left may = all-more name s [] ps no_file are begins left may
  where
    begins : (left : List ℕ) → MayLeave no_file left → HaveLives name s [] left
    begins left same = record {
      lives = [];
      are = tt;
      over = tt;
      each = tt;
      journal = inl (subst (λ (l : List ℕ). length l ≤ 1) (sym same) (omega arith), refl);
    }

pub processes_serve_as_one : ProcessesServeAsOne
processes_serve_as_one g names ps left is are may =
    let have = λ (v : ℕ). processes_are_lives (names v) (setup_of g v) (ps v) (are v) (left v) (may v) in
    record {
      lives = λ v. (have v).lives;
      each = λ v. (have v).each;
      journal = λ v. (have v).journal;
      serve = λ counting steps merge.
          loops_serve_as_one g (λ v. (have v).lives) counting steps is
          (record { lived = λ v inside. (have v).are; merged = merge.merged; counted = merge.counted; aggregated = merge.aggregated; unaggregated = merge.unaggregated; come = merge.come });
    }

-- The next process --

damaged-so : (selected : Option Moments) (name file : List ℕ) (before after : Moments) (at : ℕ) → file ≡ content (before.now.files name) → ((records : List Record) × IsJournal records file)
    → Selects name (Some before) selected → IsRefused (fault.Damaged at) selected (Some after) → ⊥
damaged-so None name held before after at same journal selects is = absurd selects
damaged-so (Some t) name held before after at same journal selects is =
    not_damaged held journal.0 at journal.1
    (subst (IsDamaged at) (ap (λ (u : Moments). content (u.now.files u.now.selected)) selects ∙ sym same) is.damaged)

never-damaged : (name : List ℕ) (s : Setup) (pace : Pace) (f : File) (before after : Moments) (old new : Ends) (at : ℕ) → StaysSomeJournal f → LosesOnlyUnsynced f (before.now.files name)
    → RunsReplica name s pace (Some before) (Some after) old new (status.JournalDamaged at) → ⊥
never-damaged name s pace f before after old new at some loses (inl refused) =
    let was = refused.0 in
    damaged-so was.selected name (content (before.now.files name)) before after at refl (some (content (before.now.files name)) loses.read) was.selects was.is
never-damaged name s pace f before after old new at some loses (inr serves) = let is = serves.is in no-status is.records is.last is.from is.serves
  where
    no-status : (records last : Option (List Record)) (d : State) → ServesFrom s d pace (record old { records = records }) (record new { records = last }) (status.JournalDamaged at) → ⊥
    no-status records last d (inl begins) = begins.0
    no-status records last d (inr run) = let served = run.2 in served.ended

pub files_are_found : FilesAreFound
files_are_found = never-damaged

told-left : (s : Setup) (es : List Event) (life : Life) (file : List ℕ) (told : Option (List Record)) (t : Moments) (d : State) → content (t.now.files t.now.selected) ≡ file
    → IsLeftBy s es life file → TellsJournal (Some t) told d → AreOfLife s es life told
told-left s es life held None t d same left tells = absurd tells
told-left s es life held (Some records) t d same left tells = record {
  cut = left.cut;
  is = left.is;
  same = ap Some (one_journal held records (place_of s left.cut).journal (subst (IsJournal records) same tells.journal) left.journal);
}

found-left : (s : Setup) (es : List Event) (life : Life) (name : List ℕ) (before : Moments) (selected : Option Moments) (told : Option (List Record)) (d : State) → Selects name (Some before) selected
    → IsLeftBy s es life (content (before.now.files name)) → TellsJournal selected told d → AreOfLife s es life told
found-left s es life name before None told d selects left tells = absurd selects
found-left s es life name before (Some t) told d selects left tells =
    told-left s es life (content (before.now.files name)) told t d (ap (λ (u : Moments). content (u.now.files u.now.selected)) selects) left tells

pub the_recovered_is_the_left : TheRecoveredIsTheLeft
the_recovered_is_the_left name s es life pace f before after old new at left loses serves =
    let is = serves.is in
    let was = is.was_recovered in
    found-left s es life name before serves.selected is.records is.from serves.selects (left (content (before.now.files name)) loses.read) was.journal

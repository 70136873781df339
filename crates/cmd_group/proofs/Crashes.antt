-- What a crash at any moment leaves of a process of a member is the journal of a life.
use Rattle.std.proofs.Common.{◌≡◌, ◌⊎◌, inl, inr, ℕ, ◌<◌, List, [], ◌∷◌, ◌++◌, Option, Some, None, IfSome, refl, sym, ap, ◌∙◌, subst, append_assoc, append-nil, arith}
use Rattle.std.proofs.lemmas.List.{append_cancel_left}
use Rattle.r2_base.specs.declared.event.Event.{Event}
use Rattle.hc_disk.specs.Disk.{Held, MayLeave, Moments}
use Rattle.hc_disk.specs.Runs.{LeavesOnly}
use Rattle.hc_journal.specs.declared.journal.First.{First}
use Rattle.hc_log.specs.declared.record.Record.{Record}
use Rattle.hc_log.specs.Durable.{State, replay}
use Rattle.hc_member.specs.declared.setup.Setup.{Setup}
use Rattle.hc_member.specs.Member.{anew}
use Rattle.hc_member.specs.Turn.{turned}
use Rattle.hc_file_journal.specs.File.{IsJournal}
use Rattle.hc_file_journal.specs.FileJournal.{IsWithOrWithout, StaysJournal, kept_records}
use Rattle.hc_file_journal.specs.FileLaws.{IsSince}
use Rattle.hc_file_journal.specs.Since.{EndsWith, Ran, StoredAll, StoredOne}
use Rattle.r2_link.specs.declared.lane.Item.{Item}
use Rattle.r2_link.specs.Links.{LinkTold}
use Rattle.r2_link.specs.Told.{Gains}
use Rattle.cmd_status.specs.declared.status.Status.{Status}
use Rattle.cmd_loop.specs.declared.pace.Pace.{Pace}
use Rattle.cmd_loop.specs.Ends.{Ends}
use Rattle.cmd_loop.specs.Events.{events}
use Rattle.cmd_loop.specs.Happenings.{came}
use Rattle.cmd_loop.specs.Loop.{Serves}
use Rattle.cmd_loop.specs.Party.{records_of}
use Rattle.cmd_replica.specs.Command.{IsRecovered, IsToldOf, ServesFrom, StaysRecoverable}
use Rattle.cmd_replica.specs.Replica.{ReplicaServes, ReplicaServesAll, served}
use Rattle.cmd_group.specs.Lives.{Stopped, Broken, Life, place_of, stored_in}
use Rattle.cmd_group.specs.LoopLives.{HasLife, taken_in}
use Rattle.cmd_group.specs.Crashes.{CrashesLeaveLives, IsCutAt, IsLeftAtEnd, IsLeftBy, LeavesLives, OfLast, OfTried, StoresAfter, came_to}
use Rattle.cmd_group.proofs.DiskMoments.{Fits, GoesOn, fits-since, goes-nowhere, goes-on, goes-then, now-since, since-either}
use Rattle.cmd_group.proofs.LoopLives.{loops_are_lives, nothing-life}
use Rattle.cmd_group.proofs.StoredTurns.{stores-after}

pub by-cases : (A B C : Type 0) → (A → C) → (B → C) → A ⊎ B → C
by-cases A B C f g (inl a) = f a
by-cases A B C f g (inr b) = g b

-- Records one after another --

pub stored-on : (records more : List Record) (t u : Moments) → StoredAll records more t u → GoesOn t u
stored-on records [] t u all = subst (GoesOn t) (sym all) (goes-nowhere t)
stored-on records (r ∷ more) t u all =
    let between = all.0 in
    let one = all.1.0 in
    goes-then t between u (goes-on (LeavesOnly (IsWithOrWithout records r) t.now) t between one.any_moment) (stored-on (records ++ r ∷ []) more between u all.1.1)

pub ended-on : (ended : Option First) (records : List Record) (t u : Moments) → EndsWith ended records t u → GoesOn t u
ended-on None records t u same = subst (GoesOn t) (sym same) (goes-nowhere t)
ended-on (Some cause) records t u (inl same) = subst (GoesOn t) (sym same) (goes-nowhere t)
ended-on (Some cause) records t u (inr tried) = goes-on (LeavesOnly (IsWithOrWithout records tried.0) t.now) t u tried.1

-- Lives that are cut off --

module _ (s : Setup) (life : Life) (es : List Event) where
  abbrev stored : List Record
  stored = stored_in s life

  abbrev Left : List ℕ → Type 0
  Left = IsLeftBy s es life

  without-it : (some : List Record) (r : Record) (left : List ℕ) → StoresAfter s (replay life.records) es some r → IsJournal (life.records ++ some) left → Left left
  without-it some r left after journal =
      let cut : Life = record { records = life.records; events = after.before; ending = Stopped } in
      record {
        cut = cut;
        is = inr (refl, (r, record { event = after.event; later = after.later; split = after.split; stores = after.stores; ending = inl refl }));
        journal =
            subst (λ (l : List Record). IsJournal (life.records ++ l) left)
            (sym (append-nil (served s (anew (replay life.records)) (came after.before)).stored ∙ after.earlier)) journal;
      }

  -- one whose last record stays
  pub record KeepsLast (r : Record) (left : List ℕ) : Type 0 where
    pub cut : Life
    pub begins : cut.records ≡ life.records
    pub at : IsCutAt s es r cut
    pub journal : IsJournal (place_of s cut).journal left

  pub keeps-last : (some : List Record) (r : Record) (left : List ℕ) → StoresAfter s (replay life.records) es some r → IsJournal ((life.records ++ some) ++ r ∷ []) left → KeepsLast r left
  keeps-last some r left after journal =
      let so_far = served s (anew (replay life.records)) (came after.before) in
      let cut : Life = record { records = life.records; events = after.before; ending = Broken after.event [] } in
      let same : so_far.stored ++ records_of (turned s so_far.member after.event).stored ≡ some ++ r ∷ [] =
      ap (λ (l : List Record). l ++ records_of (turned s so_far.member after.event).stored) after.earlier ∙ ap (λ (o : Option Record). some ++ records_of o) after.stores in
      record {
        cut = cut;
        begins = refl;
        at = record { event = after.event; later = after.later; split = after.split; stores = after.stores; ending = inr refl };
        journal =
            subst (λ (l : List Record). IsJournal l left)
            (append_assoc life.records some (r ∷ []) ∙ ap (λ (l : List Record). life.records ++ l) (sym same)) journal;
      }

  with-it : (some : List Record) (r : Record) (left : List ℕ) → StoresAfter s (replay life.records) es some r → IsJournal ((life.records ++ some) ++ r ∷ []) left → Left left
  with-it some r left after journal =
      let kept = keeps-last some r left after journal in
      record { cut = kept.cut; is = inr (kept.begins, (r, kept.at)); journal = kept.journal }

  in-turn : (some : List Record) (r : Record) (left : List ℕ) → StoresAfter s (replay life.records) es some r → IsWithOrWithout (life.records ++ some) r left → Left left
  in-turn some r left after (inl journal) = without-it some r left after journal
  in-turn some r left after (inr journal) = with-it some r left after journal

  pub at-end-left : (left : List ℕ) → IsLeftAtEnd s es life left → Left left
  at-end-left left (inl journal) = record { cut = life; is = inl refl; journal = journal }
  at-end-left left (inr lost) = with-it stored lost.0 left lost.1.0 lost.1.1

  module _ (name : List ℕ) where
    -- a disk after which nothing was done
    still : (P : List ℕ → Type 0) (t u : Moments) (held : Held) → Fits name P t.now → u ≡ t → IsSince t u held → Fits name P held
    still P t u held first same since =
        fits-since name P t u held first (record { more = []; since = ap (λ (w : Moments). w.past ++ w.now ∷ []) same ∙ sym (append-nil (t.past ++ t.now ∷ [])); each = λ k d within. absurd (nothing k within) }) since
      where
        nothing : (k : ℕ) → k < 0 → ⊥
        nothing k within = omega (arith, within)

    -- after all records of the life
    at-last : (ended : Option First) (t u : Moments) (ends : EndsWith ended (life.records ++ stored) t u) → OfLast ended (life.records ++ stored) t u ends (StoresAfter s (replay life.records) es stored)
        → Fits name (IsJournal (life.records ++ stored)) t.now → (held : Held) → IsSince t u held → Fits name (IsLeftAtEnd s es life) held
    at-last None t u same own first held since =
        let fits = still (IsJournal (life.records ++ stored)) t u held first same since in (fits.0, λ left may. inl (fits.1 left may))
    at-last (Some cause) t u (inl same) own first held since =
        let fits = still (IsJournal (life.records ++ stored)) t u held first same since in (fits.0, λ left may. inl (fits.1 left may))
    at-last (Some cause) t u (inr tried) own first held since =
        let r = tried.0 in
        let fits = fits-since name (IsWithOrWithout (life.records ++ stored) r) t u held (first.0, λ left may. inl (first.1 left may)) tried.1 since in
        (fits.0, λ left may. by-part r left own (fits.1 left may))
      where
        by-part : (r : Record) (left : List ℕ) → StoresAfter s (replay life.records) es stored r → IsWithOrWithout (life.records ++ stored) r left → IsLeftAtEnd s es life left
        by-part r left after (inl journal) = inl journal
        by-part r left after (inr journal) = inr (r, (after, journal))

    -- after a record of it
    after-one : (records : List Record) (r : Record) (t u : Moments) → Fits name (IsJournal records) t.now → StoredOne records r t u → Fits name (IsJournal (records ++ r ∷ [])) u.now
    after-one records r t u first one =
        let was = one.any_moment in
        let selected = fits-since name (IsWithOrWithout records r) t u u.now (first.0, λ left may. inl (first.1 left may)) was (now-since t u (goes-on (LeavesOnly (IsWithOrWithout records r) t.now) t u was)) in
        (selected.0, λ left may. one.acknowledged left (subst (λ (n : List ℕ). MayLeave (u.now.files n) left) (sym selected.0) may))

    -- once all are stored
    pub after-all : (records more : List Record) (t u : Moments) → StoredAll records more t u → Fits name (IsJournal records) t.now → Fits name (IsJournal (records ++ more)) u.now
    after-all records [] t u same first =
        subst (λ (w : Moments). Fits name (IsJournal (records ++ [])) w.now) (sym same) (subst (λ (l : List Record). Fits name (IsJournal l) t.now) (sym (append-nil records)) first)
    after-all records (r ∷ more) t u all first =
        subst (λ (l : List Record). Fits name (IsJournal l) u.now) (append_assoc records (r ∷ []) more)
        (after-all (records ++ r ∷ []) more all.0 u all.1.1 (after-one records r t all.0 first all.1.0))

    -- while they are stored, and then to the end
    module _ (past_life : List Event) (whole : es ≡ taken_in life ++ past_life) where
      serving : (some more : List Record) (ended : Option First) (t last u : Moments) → stored ≡ some ++ more → StoredAll (life.records ++ some) more t last
          → (ends : EndsWith ended (life.records ++ stored) last u) → OfLast ended (life.records ++ stored) last u ends (StoresAfter s (replay life.records) es stored)
          → Fits name (IsJournal (life.records ++ some)) t.now → (held : Held) → IsSince t u held → (left : List ℕ) → MayLeave (held.files name) left → Left left
      serving some [] ended t last u same all ends own first held since left may =
          let journal = subst (λ (l : List Record). Fits name (IsJournal (life.records ++ l)) t.now) (sym (same ∙ append-nil some)) first in
          let here = at-last ended last u ends own (subst (λ (w : Moments). Fits name (IsJournal (life.records ++ stored)) w.now) (sym all) journal) held
          (subst (λ (w : Moments). IsSince w u held) (sym all) since) in
          at-end-left left (here.1 left may)
      serving some (r ∷ more) ended t last u same all ends own first held since left may =
          let between = all.0 in
          let one = all.1.0 in
          let then : GoesOn between u = goes-then between last u (stored-on ((life.records ++ some) ++ r ∷ []) more between last all.1.1) (ended-on ended (life.records ++ stored) last u ends) in
          by-cases (IsSince t between held) (IsSince between u held) (Left left)
          (λ early.
          let fits = fits-since name (IsWithOrWithout (life.records ++ some) r) t between held (first.0, λ l m. inl (first.1 l m)) one.any_moment early in
          in-turn some r left (stores-after s life es past_life some more r whole same) (fits.1 left may))
          (λ late.
          let after : Fits name (IsJournal ((life.records ++ some) ++ r ∷ [])) between.now = after-one (life.records ++ some) r t between first one in
          serving (some ++ r ∷ []) more ended between last u (same ∙ sym (append_assoc some (r ∷ []) more))
          (subst (λ (l : List Record). StoredAll l more between last) (append_assoc life.records some (r ∷ [])) all.1.1) ends own
          (subst (λ (l : List Record). Fits name (IsJournal l) between.now) (append_assoc life.records some (r ∷ [])) after) held late left may)
          (since-either t between u held then since)

  -- as a contract says it: of records and a state that are those of the life
  module _ (name : List ℕ) (past_life : List Event) (ended : Option First) (t last u : Moments) where
    pub record IsLeft : Type 0 where
      pub serving : (held : Held) → IsSince t u held → (left : List ℕ) → MayLeave (held.files name) left → Left left
      pub at_end : (left : List ℕ) → MayLeave (u.now.files name) left → IsLeftAtEnd s es life left

    abbrev Claim : List Record → List Record → State → Type 0
    Claim records more d =
        StoredAll records more t last → (ends : EndsWith ended (records ++ more) last u) → OfLast ended (records ++ more) last u ends (StoresAfter s d es more)
        → Fits name (IsJournal records) t.now → IsLeft

    claim : es ≡ taken_in life ++ past_life → Claim life.records stored (replay life.records)
    claim whole all ends own first = record {
      serving = λ held at left may.
          serving name past_life whole [] stored ended t last u refl (subst (λ (l : List Record). StoredAll l stored t last) (sym (append-nil life.records)) all) ends own
          (subst (λ (l : List Record). Fits name (IsJournal l) t.now) (sym (append-nil life.records)) first) held at left may;
      at_end = λ left may.
          let here = at-last name ended last u ends own (after-all name life.records stored t last all first) u.now (now-since last u (ended-on ended (life.records ++ stored) last u ends)) in
          here.1 left may;
    }

    pub claimed : (records more : List Record) (d : State) → records ≡ life.records → more ≡ stored → d ≡ replay life.records → es ≡ taken_in life ++ past_life → Claim records more d
    claimed records more d begins same leads whole =
        subst (λ (x : State). Claim records more x) (sym leads)
        (subst (λ (l : List Record). Claim records l (replay life.records)) (sym same)
        (subst (λ (l : List Record). Claim l stored (replay life.records)) (sym begins) (claim whole)))

    pub goes-to-end : (records more : List Record) → StoredAll records more t last → EndsWith ended (records ++ more) last u → GoesOn t u
    goes-to-end records more all ends = goes-then t last u (stored-on records more t last all) (ended-on ended (records ++ more) last u ends)

-- Processes --

module _ (s : Setup) (pace : Pace) (selected after : Moments) (old new : Ends) (status : Status) where
  module _ (t : Moments) (rs : List Record) (d : State) (recovered : IsRecovered (Some selected) (Some t) (Some rs) d) (last : Option (List Record)) (kept : IsToldOf (Some after) last)
      (ended : Option First) (since : Ran recovered.end kept.end ended (Some t) (Some after)) where
    abbrev before-now : List ℕ
    before-now = selected.now.selected

    abbrev Served : LinkTold → List Item → List ℕ → Type 0
    Served begun items moments = HasLife s rs pace (record old { link = begun; records = Some rs }) (record new { records = last }) items moments []

    some-same : {A : Type 0} (x y : A) → Some x ≡ Some y → x ≡ y
    some-same x y e = cc

    -- the records that were recovered
    are : rs ≡ kept_records recovered.end t
    are = some-same rs (kept_records recovered.end t) recovered.same

    gained : (l : Option (List Record)) (more : List Record) → l ≡ Some (kept_records kept.end after) → Gains (Some rs) l more → kept_records kept.end after ≡ rs ++ more
    gained None more same gains = absurd cc
    gained (Some xs) more same gains = sym (some-same xs (kept_records kept.end after) same) ∙ gains

    -- and those that the life stored
    stored-are : (begun : LinkTold) (items : List Item) (moments : List ℕ) (has : Served begun items moments) → since.stored ≡ stored_in s has.life
    stored-are begun items moments has =
        let passed = has.passed in
        append_cancel_left rs since.stored (stored_in s has.life)
        (ap (λ (l : List Record). l ++ since.stored) are ∙ sym since.all ∙ gained last has.stored kept.same passed.journal
        ∙ ap (λ (l : List Record). rs ++ l) (sym (has.journal ∙ append-nil has.stored)))

    recovery : (held : Held) → IsSince selected t held → Fits before-now (StaysJournal selected) held
    recovery held at = fits-since before-now (StaysJournal selected) selected t held (refl, λ left may. inl may) recovered.since at

    on-to-t : GoesOn selected t
    on-to-t = goes-on (LeavesOnly (StaysJournal selected) selected.now) selected t recovered.since

    first-fits : Fits before-now (IsJournal rs) t.now
    first-fits =
        let here = recovery t.now (now-since selected t on-to-t) in
        (here.0, λ left may. subst (λ (l : List Record). IsJournal l left) (sym are) (recovered.leaves left (subst (λ (n : List ℕ). MayLeave (t.now.files n) left) (sym here.0) may)))

    leaves-lives : (begun : LinkTold) (items : List Item) (moments : List ℕ) (has : Served begun items moments)
        → OfLast ended (kept_records recovered.end t ++ since.stored) since.last after since.end (StoresAfter s d (events pace.tick_ms items moments) since.stored)
        → LeavesLives s pace selected (Some t) after old new
    leaves-lives begun items moments has own =
        let life = has.life in
        let es = events pace.tick_ms items moments in
        let journal = recovered.journal in
        let records = kept_records recovered.end t in
        let left =
        claimed s life es before-now has.left ended t since.last after records since.stored d (sym are ∙ sym has.begins) (stored-are begun items moments has)
        (journal.replayed ∙ ap replay (sym has.begins)) has.taken since.each since.end own (subst (λ (l : List Record). Fits before-now (IsJournal l) t.now) are first-fits) in
        record {
          records = rs;
          found = journal.journal;
          begun = begun;
          last = last;
          items = items;
          moments = moments;
          has = has;
          recovered = t;
          is_recovered = refl;
          recovering = λ held at left may. (recovery held at).1 left may;
          serving = left.serving;
          either = λ held at. since-either selected t after held (goes-to-end s life es before-now has.left ended t since.last after records since.stored since.each since.end) at;
          at_end = left.at_end;
        }

    by-run : (serves : ServesFrom s d pace (record old { records = Some rs }) (record new { records = last }) status)
        → OfTried recovered.end kept.end ended (Some t) (Some after) since (StoresAfter s d (came_to s d pace (record old { records = Some rs }) (record new { records = last }) status serves))
        → LeavesLives s pace selected (Some t) after old new
    by-run (inl begins) own =
        leaves-lives old.link [] [] (nothing-life s rs pace (record old { records = Some rs }) (record new { records = last }) begins.1) own
    by-run (inr run) own =
        let begun = run.0 in
        let serves = run.2 in
        let journal = recovered.journal in
        leaves-lives begun serves.items serves.moments (lives-of begun d journal.replayed serves) own
      where
        lives-of : (begun : LinkTold) (from : State) → from ≡ replay rs → (serves : Serves (ReplicaServesAll s from) (ReplicaServes s from) (ReplicaServes s from) pace (record old { link = begun; records = Some rs }) (record new { records = last }) status)
            → HasLife s rs pace (record old { link = begun; records = Some rs }) (record new { records = last }) serves.items serves.moments []
        lives-of begun from leads =
            subst (λ (x : State). (serves : Serves (ReplicaServesAll s x) (ReplicaServes s x) (ReplicaServes s x) pace (record old { link = begun; records = Some rs }) (record new { records = last }) status)
            → HasLife s rs pace (record old { link = begun; records = Some rs }) (record new { records = last }) serves.items serves.moments [])
            (sym leads) (loops_are_lives s rs pace (record old { link = begun; records = Some rs }) (record new { records = last }) status)

  by-told : (recovered : Option Moments) (records : Option (List Record)) (d : State) (was : IsRecovered (Some selected) recovered records d) (last : Option (List Record)) (kept : IsToldOf (Some after) last)
      (ended : Option First) (since : Ran was.end kept.end ended recovered (Some after)) (serves : ServesFrom s d pace (record old { records = records }) (record new { records = last }) status)
      → OfTried was.end kept.end ended recovered (Some after) since (StoresAfter s d (came_to s d pace (record old { records = records }) (record new { records = last }) status serves))
      → LeavesLives s pace selected recovered after old new
  by-told None records d was last kept ended since serves own = absurd since
  by-told (Some t) None d was last kept ended since serves own = absurd was.journal
  by-told (Some t) (Some rs) d was last kept ended since serves own = by-run t rs d was last kept ended since serves own

pub crashes_leave_lives : CrashesLeaveLives
crashes_leave_lives s pace selected after old new status is own =
    by-told s pace selected after old new status is.recovered is.records is.from is.was_recovered is.last is.kept is.ended is.since is.serves own

-- the moments of a disk while a replica serves
pub recovers-on : (t : Moments) (recovered : Option Moments) → StaysRecoverable (Some t) recovered → IfSome recovered (GoesOn t)
recovers-on t None was = absurd was
recovers-on t (Some u) was = goes-on (LeavesOnly (StaysJournal t) t.now) t u was

pub serves-on : (selected after : Moments) (before now : ℕ) (ended : Option First) (recovered : Option Moments) → StaysRecoverable (Some selected) recovered → Ran before now ended recovered (Some after)
    → GoesOn selected after
serves-on selected after before now ended None was ran = absurd was
serves-on selected after before now ended (Some t) was ran =
    goes-then selected t after (recovers-on selected (Some t) was)
    (goes-then t ran.last after (stored-on (kept_records before t) ran.stored t ran.last ran.each) (ended-on ended (kept_records before t ++ ran.stored) ran.last after ran.end))

-- What a crash leaves of a disk in memory, and that it may leave that.
use Rattle.std.proofs.Common.{◌≡◌, ◌≢◌, ◌⊎◌, inl, inr, ℕ, ◌+◌, ◌-◌, ◌<◌, ◌≤◌, min, Bool, true, false, cond, bytes_eq, List, [], ◌∷◌, ◌++◌, length, map, take, drop, get_or, All, refl, sym, ap, ◌∙◌, subst, arith, append_assoc, length-drop}
use Rattle.std.proofs.lemmas.Bool.{cases_lt}
use Rattle.std.proofs.lemmas.List.{drop_all, get_or_default, take_all, take_more}
use Rattle.std.proofs.lemmas.List.Elements.{All-cons, All-head, All-nil, All-push, All-tail, All-weaker}
use Rattle.std.proofs.lemmas.Slice.Eq.{bytes_eq-Decides}
use Rattle.hc_disk.specs.declared.stored.StoredFile.{StoredFile}
use Rattle.hc_disk.specs.declared.steps.Step.{Step}
use Rattle.hc_disk.specs.declared.steps.Step.TheVariants as step
use Rattle.hc_disk.specs.Disk.{Change, Wrote, Cut, File, Held, Moments, changed, content, later, synced, with_change}
use Rattle.hc_disk.specs.MemDisk.{Call, Selected, Put, Shortened, Synced, begun, bytes_at, call_of, file_of, held_after, moments_after}
use Rattle.hc_disk.specs.Replay.{moments_at}
use Rattle.hc_disk.specs.Crash.{AreLeft, all_picked, content_after, left_after, left_by, picked}
use Rattle.hc_disk.specs.Names.{AreOf, HasName, HasSelected, IsOf, has, left_file}
use Rattle.hc_disk.proofs.Changes.{others-with_file}
use Rattle.hc_disk.proofs.GoneOver.{content-call, moments_more}

all_picked-push : (pick : ℕ) (file : List ℕ) (xs : List Change) (x : Change) → all_picked pick file (xs ++ x ∷ []) ≡ picked pick x (all_picked pick file xs)
all_picked-push pick file [] x = refl
all_picked-push pick file (y ∷ ys) x = all_picked-push pick (picked pick y file) ys x

left_over : (pick : ℕ) (b : Bool) (x : Change) (f : File) → left_by pick (cond b (with_change x f) f) ≡ cond b (picked pick x (left_by pick f)) (left_by pick f)
left_over pick true x f = all_picked-push pick f.stable f.since x
left_over pick false x f = refl

left_sync : (pick : ℕ) (b : Bool) (f : File) → left_by pick (cond b (synced f) f) ≡ cond b (content f) (left_by pick f)
left_sync pick true f = refl
left_sync pick false f = refl

left-call : (pick : ℕ) (c : Call) (held : Held) (name : List ℕ) → left_by pick ((held_after c held).files name) ≡ left_after pick c (bytes_eq name held.selected) (content (held.files name)) (left_by pick (held.files name))
left-call pick (Selected other) held name = refl
left-call pick (Put at piece) held name = left_over pick (bytes_eq name held.selected) (Wrote at (length piece) piece) (held.files name)
left-call pick (Shortened len) held name = left_over pick (bytes_eq name held.selected) (Cut len len) (held.files name)
left-call pick Synced held name = left_sync pick (bytes_eq name held.selected) (held.files name)

module _ (files : List StoredFile) (pieces : List ℕ) (steps : List Step) (i : ℕ) (s d : Step) (within : i < length steps) (is : s ≡ get_or steps i d) where
  abbrev M : Moments
  M = moments_at files pieces (take i steps)

  abbrev More : Moments
  More = moments_at files pieces (take (i + 1) steps)

  module _ (wanted name : List ℕ) (b : Bool) (was : name ≡ M.now.selected) (test : b ≡ bytes_eq wanted name) where
    more : More ≡ later M (held_after (call_of pieces s) M.now)
    more = moments_more files pieces steps i s within (is ∙ get_or_default steps i d s within)

    same_test : bytes_eq wanted M.now.selected ≡ b
    same_test = sym (test ∙ ap (bytes_eq wanted) was)

    pub content_goes : (old new : List ℕ) → new ≡ content_after (call_of pieces s) b old → old ≡ content (M.now.files wanted) → new ≡ content (More.now.files wanted)
    content_goes old new goes known =
        goes ∙ ap (content_after (call_of pieces s) b) known
        ∙ sym (ap (λ (t : Moments). content (t.now.files wanted)) more
        ∙ content-call (call_of pieces s) M.now wanted
        ∙ ap (λ (x : Bool). content_after (call_of pieces s) x (content (M.now.files wanted))) same_test)

    pub left_goes : (pick : ℕ) (old left new : List ℕ) → new ≡ left_after pick (call_of pieces s) b old left → old ≡ content (M.now.files wanted) → left ≡ left_by pick (M.now.files wanted)
        → new ≡ left_by pick (More.now.files wanted)
    left_goes pick old left new goes known known_left =
        goes ∙ ap (λ (l : List ℕ). left_after pick (call_of pieces s) b l left) known
        ∙ ap (left_after pick (call_of pieces s) b (content (M.now.files wanted))) known_left
        ∙ sym (ap (λ (t : Moments). left_by pick (t.now.files wanted)) more
        ∙ left-call pick (call_of pieces s) M.now wanted
        ∙ ap (λ (x : Bool). left_after pick (call_of pieces s) x (content (M.now.files wanted)) (left_by pick (M.now.files wanted))) same_test)

-- a file that the disk held first is left as it is
pub left-file_of : (pick : ℕ) (files : List StoredFile) (name : List ℕ) → left_by pick (file_of files name) ≡ (file_of files name).stable
left-file_of pick [] name = refl
left-file_of pick (s ∷ files) name = each (file_of files name) (bytes_eq s.name name) (left-file_of pick files name)
  where
    each : (f : File) (b : Bool) → left_by pick f ≡ f.stable → left_by pick (cond b (record { stable = s.bytes; since = [] }) f) ≡ (cond b (record { stable = s.bytes; since = [] }) f).stable
    each f true rest = refl
    each f false rest = rest

-- ---- the names

has-more_step : (b x y : Bool) → (x ≡ true → y ≡ true) → cond b true x ≡ true → cond b true y ≡ true
has-more_step true x y rest e = refl
has-more_step false x y rest e = rest e

none_has : (name : List ℕ) → has [] name ≡ true → ⊥
none_has name e = cc

pub has-more : (files more : List StoredFile) (name : List ℕ) → HasName files name → HasName (files ++ more) name
has-more [] more name e = absurd (none_has name e)
has-more (s ∷ files) more name e = has-more_step (bytes_eq s.name name) (has files name) (has (files ++ more) name) (has-more files more name) e

has-last_step : (b x : Bool) → x ≡ true → cond b true x ≡ true
has-last_step true x e = refl
has-last_step false x e = e

pub has-last : (files : List StoredFile) (s : StoredFile) → HasName (files ++ s ∷ []) s.name
has-last [] s = ap (λ (b : Bool). cond b true false) ((bytes_eq-Decides s.name s.name).1 refl)
has-last (f ∷ files) s = has-last_step (bytes_eq f.name s.name) (has (files ++ s ∷ []) s.name) (has-last files s)

-- the file of a name that is among them is what is left of it
listed_step : (pick : ℕ) (t : Moments) (s : StoredFile) (f : File) (x : Bool) (name : List ℕ) (b : Bool) → (b ≡ true → s.name ≡ name) → IsOf pick t s
    → (x ≡ true → f ≡ record { stable = left_by pick (t.now.files name); since = [] }) → cond b true x ≡ true
    → cond b (record { stable = s.bytes; since = [] }) f ≡ record { stable = left_by pick (t.now.files name); since = [] }
listed_step pick t s f x name true same of rest e =
    ap (λ (l : List ℕ). the_file l) (of ∙ ap (λ (n : List ℕ). left_by pick (t.now.files n)) (same refl))
  where
    the_file : List ℕ → File
    the_file l = record { stable = l; since = [] }
listed_step pick t s f x name false same of rest e = rest e

listed : (pick : ℕ) (t : Moments) (files : List StoredFile) (name : List ℕ) → AreOf pick t files → HasName files name → file_of files name ≡ record { stable = left_by pick (t.now.files name); since = [] }
listed pick t [] name are e = absurd (none_has name e)
listed pick t (s ∷ files) name are e =
    listed_step pick t s (file_of files name) (has files name) name (bytes_eq s.name name) (bytes_eq-Decides s.name name).0 (All-head (IsOf pick t) s files are)
    (listed pick t files name (All-tail (IsOf pick t) s files are)) e

-- and the file of another name is empty
unlisted_step : (s : StoredFile) (f : File) (x b : Bool) → (x ≡ false → f ≡ record { stable = []; since = [] }) → cond b true x ≡ false → cond b (record { stable = s.bytes; since = [] }) f ≡ record { stable = []; since = [] }
unlisted_step s f x true rest e = absurd (differ e)
  where
    differ : true ≡ false → ⊥
    differ h = cc
unlisted_step s f x false rest e = rest e

unlisted : (files : List StoredFile) (name : List ℕ) → has files name ≡ false → file_of files name ≡ record { stable = []; since = [] }
unlisted [] name e = refl
unlisted (s ∷ files) name e = unlisted_step s (file_of files name) (has files name) (bytes_eq s.name name) (unlisted files name) e

-- a name that isn't among those of other files isn't the name of one of them
not_first : (files first : List StoredFile) (name : List ℕ) → All (λ s. HasName files s.name) first → has files name ≡ false → has first name ≡ false
not_first files [] name all e = refl
not_first files (s ∷ first) name all e =
    each (bytes_eq s.name name) (has first name) (bytes_eq-Decides s.name name).0 (All-head (λ x. HasName files x.name) s first all)
    (not_first files first name (All-tail (λ x. HasName files x.name) s first all) e)
  where
    each : (b x : Bool) → (b ≡ true → s.name ≡ name) → has files s.name ≡ true → x ≡ false → cond b true x ≡ false
    each true x same h rest = absurd (differ (has files name) (ap (has files) (sym (same refl)) ∙ h) e)
      where
        differ : (b : Bool) → b ≡ true → b ≡ false → ⊥
        differ b h k = cc
    each false x same h rest = rest

-- a file that is selected by no call, and isn't the selected one, stays as it is
abbrev pub NotSelected : List ℕ → Call → Type 0
NotSelected name (Selected other) = name ≢ other
NotSelected name (Put at piece) = Unit {0}
NotSelected name (Shortened len) = Unit {0}
NotSelected name Synced = Unit {0}

stays : (name : List ℕ) (c : Call) (held : Held) → name ≢ held.selected → NotSelected name c → ((held_after c held).files name ≡ held.files name) × (name ≢ (held_after c held).selected)
stays name (Selected other) held not_now not_then = (refl, not_then)
stays name (Put at piece) held not_now not_then = (others-with_file (with_change (Wrote at (length piece) piece)) held name not_now, not_now)
stays name (Shortened len) held not_now not_then = (others-with_file (with_change (Cut len len)) held name not_now, not_now)
stays name Synced held not_now not_then = (others-with_file synced held name not_now, not_now)

untouched : (name : List ℕ) (calls : List Call) (t : Moments) → name ≢ t.now.selected → All (NotSelected name) calls → (moments_after t calls).now.files name ≡ t.now.files name
untouched name [] t other all = refl
untouched name (c ∷ calls) t other all =
    let once = stays name c t.now other (All-head (NotSelected name) c calls all) in
    untouched name calls (later t (held_after c t.now)) once.1 (All-tail (NotSelected name) c calls all) ∙ once.0

not_selected : (files : List StoredFile) (pieces : List ℕ) (name : List ℕ) (steps : List Step) → has files name ≡ false → All (HasSelected pieces files) steps → All (NotSelected name) (map (call_of pieces) steps)
not_selected files pieces name [] e all = All-nil (NotSelected name)
not_selected files pieces name (s ∷ steps) e all =
    All-cons (NotSelected name) (call_of pieces s) (map (call_of pieces) steps) (each s (All-head (HasSelected pieces files) s steps all))
    (not_selected files pieces name steps e (All-tail (HasSelected pieces files) s steps all))
  where
    differ : (b : Bool) → b ≡ true → b ≡ false → ⊥
    differ b h k = cc

    each : (s : Step) → HasSelected pieces files s → NotSelected name (call_of pieces s)
    each (step.Select run) h = λ same. differ (has files name) (ap (has files) same ∙ h) e
    each (step.Write at run) h = tt
    each (step.Cut len) h = tt
    each step.Sync h = tt

-- so the files that were listed are all that a crash leaves
pub all_left : (pick : ℕ) (first files : List StoredFile) (pieces : List ℕ) (steps : List Step) → AreOf pick (moments_at first pieces steps) files → HasName files [] → All (λ s. HasName files s.name) first
    → All (HasSelected pieces files) steps → AreLeft pick (moments_at first pieces steps) files
all_left pick first files pieces steps are none all_first all_steps name = each (has files name) refl
  where
    the_file : List ℕ → File
    the_file l = record { stable = l; since = [] }

    differ : (b : Bool) → b ≡ true → b ≡ false → ⊥
    differ b h k = cc

    each : (b : Bool) → has files name ≡ b → file_of files name ≡ record { stable = left_by pick ((moments_at first pieces steps).now.files name); since = [] }
    each true e = listed pick (moments_at first pieces steps) files name are e
    each false e =
        let other : name ≢ [] = λ same. differ (has files name) (ap (has files) same ∙ none) e in
        let same : (moments_at first pieces steps).now.files name ≡ record { stable = []; since = [] } =
        untouched name (map (call_of pieces) steps) (begun first) other (not_selected files pieces name steps e all_steps) ∙ unlisted first name (not_first files first name all_first e) in
        unlisted files name e ∙ ap (λ (f : File). the_file (left_by pick f)) (sym same)

-- ---- one file more

pub are_more : (pick : ℕ) (t : Moments) (files files_now : List StoredFile) (name : List ℕ) → AreOf pick t files → files_now ≡ files ++ left_file pick t name ∷ [] → AreOf pick t files_now
are_more pick t files files_now name are is = subst (AreOf pick t) (sym is) (All-push (IsOf pick t) files (left_file pick t name) are refl)

pub has_pushed : (files files_now : List StoredFile) (s : StoredFile) → files_now ≡ files ++ s ∷ [] → HasName files_now s.name
has_pushed files files_now s is = subst (λ l. HasName l s.name) (sym is) (has-last files s)

pub has_still : (files files_now more : List StoredFile) (name : List ℕ) → files_now ≡ files ++ more → HasName files name → HasName files_now name
has_still files files_now more name is h = subst (λ l. HasName l name) (sym is) (has-more files more name h)

pub selected_still : (pieces : List ℕ) (files files_now : List StoredFile) → ((name : List ℕ) → HasName files name → HasName files_now name) → (s : Step) → HasSelected pieces files s → HasSelected pieces files_now s
selected_still pieces files files_now still (step.Select run) h = still (bytes_at pieces run) h
selected_still pieces files files_now still (step.Write at run) h = tt
selected_still pieces files files_now still (step.Cut len) h = tt
selected_still pieces files files_now still step.Sync h = tt

-- ---- a piece that is written

pub put_is : (at len end : ℕ) (file piece after : List ℕ) → length piece ≡ len → end ≡ min (min (at + len) 18446744073709551615) (length file) → length file < 18446744073709551616 → after ≡ take (length file - end) (drop end file)
    → (take at file ++ piece) ++ after ≡ changed file (Wrote at len piece)
put_is at len end file piece after size is fits rest =
    append_assoc (take at file) piece after ∙ ap (λ (l : List ℕ). take at file ++ (piece ++ l)) (rest ∙ take_all (length file - end) (drop end file) (omega (arith, length-drop end file)) ∙ same (cases_lt (at + len) (length file)))
  where
    same : (at + len < length file) ⊎ (length file ≤ at + len) → drop end file ≡ drop (at + length piece) file
    same (inl inside) = ap (λ (n : ℕ). drop n file) (omega (arith, size, is, fits, inside))
    same (inr past) = drop_all end file (omega (arith, is, fits, past)) ∙ sym (drop_all (at + length piece) file (omega (arith, size, past)))

-- ---- over the names of the first files, and the steps

pub all_named : (first files files_now : List StoredFile) (i : ℕ) (s : StoredFile) → i < length first → s ≡ get_or first i s → ((name : List ℕ) → HasName files name → HasName files_now name) → HasName files_now s.name
    → All (λ x. HasName files x.name) (take i first) → All (λ x. HasName files_now x.name) (take (i + 1) first)
all_named first files files_now i s within is still here all =
    subst (λ l. All (λ x. HasName files_now x.name) l) (sym (take_more first i s within ∙ ap (λ (x : StoredFile). take i first ++ x ∷ []) (sym is)))
    (All-push (λ x. HasName files_now x.name) (take i first) s (All-weaker (λ x. HasName files x.name) (λ x. HasName files_now x.name) (λ x h. still x.name h) (take i first) all) here)

pub all_selected : (pieces : List ℕ) (steps : List Step) (files files_now : List StoredFile) (i : ℕ) (s d : Step) → i < length steps → s ≡ get_or steps i d → ((name : List ℕ) → HasName files name → HasName files_now name)
    → HasSelected pieces files_now s → All (HasSelected pieces files) (take i steps) → All (HasSelected pieces files_now) (take (i + 1) steps)
all_selected pieces steps files files_now i s d within is still here all =
    subst (λ l. All (HasSelected pieces files_now) l) (sym (take_more steps i d within ∙ ap (λ (x : Step). take i steps ++ x ∷ []) (sym is)))
    (All-push (HasSelected pieces files_now) (take i steps) s
    (All-weaker (HasSelected pieces files) (HasSelected pieces files_now) (selected_still pieces files files_now still) (take i steps) all) here)

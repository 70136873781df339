-- What one step makes of a file, and of what is known of it by going over the steps.
use Rattle.std.proofs.Common.{◌≡◌, ℕ, ◌+◌, ◌-◌, ◌<◌, ◌≤◌, ◌^◌, max, Bool, true, false, cond, nat_lt, nat_le, ◌&&◌, List, [], ◌∷◌, ◌++◌, length, map, take, drop, get_or, All, bytes_eq, refl, sym, ap, ◌∙◌, subst, arith, inl, inr, length-append, length-take, length-drop}
use Rattle.std.proofs.lemmas.Bool.{cases_lt}
use Rattle.std.proofs.lemmas.Bool.Decides.{nat_tests}
use Rattle.std.proofs.lemmas.List.{drop_more, get_or-append_right, get_or-drop, get_or_default, get_or-map, get_or-take, get_or_append_left, length-map, map-append, take-map, take_more}
use Rattle.std.proofs.lemmas.Slice.Eq.{bytes_eq-Decides}
use Rattle.hc_disk.specs.declared.stored.StoredFile.{StoredFile}
use Rattle.hc_disk.specs.declared.steps.Run.{Run}
use Rattle.hc_disk.specs.declared.steps.Step.{Step}
use Rattle.hc_disk.specs.declared.steps.Step.TheVariants as step
use Rattle.hc_disk.specs.Disk.{Change, Wrote, Cut, File, Held, Moments, changed, content, later, synced, with_change}
use Rattle.hc_disk.specs.MemDisk.{Call, DiskState, Selected, Put, Shortened, Synced, begun, Fits, IsSound, LiesWithin, bytes_at, call_of, file_of, held_after, moments_after, moments_of}
use Rattle.hc_disk.specs.Replay.{EndsWithin, byte_after, content_at, moments_at, name_after, size_after}
use Rattle.hc_disk.proofs.Changes.{content-with_change}

-- one more call
pub moments_after-push : (t : Moments) (calls : List Call) (c : Call) → moments_after t (calls ++ c ∷ []) ≡ later (moments_after t calls) (held_after c (moments_after t calls).now)
moments_after-push t [] c = refl
moments_after-push t (d ∷ calls) c = moments_after-push (later t (held_after d t.now)) calls c

-- what a call makes of a file, which is the selected one or isn't
abbrev pub content_after : Call → Bool → List ℕ → List ℕ
content_after (Selected name) b file = file
content_after (Put at piece) b file = cond b (changed file (Wrote at (length piece) piece)) file
content_after (Shortened len) b file = cond b (changed file (Cut len len)) file
content_after Synced b file = file

over : (b : Bool) (x : Change) (f : File) → content (cond b (with_change x f) f) ≡ cond b (changed (content f) x) (content f)
over true x f = content-with_change x f
over false x f = refl

over_sync : (b : Bool) (f : File) → content (cond b (synced f) f) ≡ content f
over_sync true f = refl
over_sync false f = refl

pub content-call : (c : Call) (held : Held) (name : List ℕ) → content ((held_after c held).files name) ≡ content_after c (bytes_eq name held.selected) (content (held.files name))
content-call (Selected other) held name = refl
content-call (Put at piece) held name = over (bytes_eq name held.selected) (Wrote at (length piece) piece) (held.files name)
content-call (Shortened len) held name = over (bytes_eq name held.selected) (Cut len len) (held.files name)
content-call Synced held name = over_sync (bytes_eq name held.selected) (held.files name)

-- ---- one more step

module _ (files : List StoredFile) (pieces : List ℕ) (steps : List Step) (i : ℕ) (s : Step) (within : i < length steps) (is : s ≡ get_or steps i s) where
  abbrev M : Moments
  M = moments_at files pieces (take i steps)

  pub moments_more : moments_at files pieces (take (i + 1) steps) ≡ later M (held_after (call_of pieces s) M.now)
  moments_more =
      ap (λ l. moments_of files (map (call_of pieces) l)) (take_more steps i s within ∙ ap (λ (x : Step). take i steps ++ x ∷ []) (sym is))
      ∙ ap (moments_of files) (map-append (call_of pieces) (take i steps) (s ∷ []))
      ∙ moments_after-push _ (map (call_of pieces) (take i steps)) (call_of pieces s)

  pub content_more : (name : List ℕ) → content_at files pieces (take (i + 1) steps) name ≡ content_after (call_of pieces s) (bytes_eq name M.now.selected) (content_at files pieces (take i steps) name)
  content_more name = ap (λ (t : Moments). content (t.now.files name)) moments_more ∙ content-call (call_of pieces s) M.now name

  pub name_more : (moments_at files pieces (take (i + 1) steps)).now.selected ≡ name_after pieces s M.now.selected
  name_more = ap (λ (t : Moments). t.now.selected) moments_more ∙ by_step s
    where
      by_step : (s : Step) → (held_after (call_of pieces s) M.now).selected ≡ name_after pieces s M.now.selected
      by_step (step.Select run) = refl
      by_step (step.Write at run) = refl
      by_step (step.Cut len) = refl
      by_step step.Sync = refl

  pub fits_here : IsSound files (map (call_of pieces) steps) → Fits (call_of pieces s) M
  fits_here sound =
      let here = sound i (call_of pieces s) (omega (arith, length-map steps (call_of pieces), within)) in
      subst (λ l. Fits (call_of pieces s) (moments_of files l)) (take-map (call_of pieces) i steps)
      (subst (λ c. Fits c (moments_of files (take i (map (call_of pieces) steps)))) (get_or-map (call_of pieces) steps i s (call_of pieces s) within ∙ ap (call_of pieces) (sym is)) here)

-- what a step needs of a file that is the selected one
abbrev pub FitsFile : Step → ℕ → Type 0
FitsFile (step.Select run) size = Unit {0}
FitsFile (step.Write at run) size = (at ≤ size) × (at + run.len < 2 ^ 63)
FitsFile (step.Cut len) size = Unit {0}
FitsFile step.Sync size = Unit {0}

length-bytes_at : (pieces : List ℕ) (run : Run) → run.start + run.len ≤ length pieces → length (bytes_at pieces run) ≡ run.len
length-bytes_at pieces run inside =
    omega (arith, length-take run.len (drop run.start pieces), length-drop run.start pieces)

pub length-changed : (at : ℕ) (piece file : List ℕ) → at ≤ length file → length (changed file (Wrote at (length piece) piece)) ≡ max (length file) (at + length piece)
length-changed at piece file within =
    omega (arith, length-append (take at file) (piece ++ drop (at + length piece) file), length-append piece (drop (at + length piece) file), length-take at file, length-drop (at + length piece) file)

pub size_more : (pieces file : List ℕ) (s : Step) (b : Bool) → LiesWithin (length pieces) s → (b ≡ true → FitsFile s (length file)) → length (content_after (call_of pieces s) b file) ≡ size_after s b (length file)
size_more pieces file (step.Select run) true inside fits = refl
size_more pieces file (step.Select run) false inside fits = refl
size_more pieces file (step.Write at run) true inside fits =
    length-changed at (bytes_at pieces run) file (fits refl).0 ∙ ap (λ (n : ℕ). max (length file) (at + n)) (length-bytes_at pieces run inside)
size_more pieces file (step.Write at run) false inside fits = refl
size_more pieces file (step.Cut len) true inside fits = length-take len file
size_more pieces file (step.Cut len) false inside fits = refl
size_more pieces file step.Sync true inside fits = refl
size_more pieces file step.Sync false inside fits = refl

changed_at : (at : ℕ) (piece file : List ℕ) (place byte : ℕ) → at ≤ length file → place < max (length file) (at + length piece) → (place < length file → get_or file place 0 ≡ byte)
    → get_or (changed file (Wrote at (length piece) piece)) place 0 ≡ cond (nat_le at place && nat_lt place (at + length piece)) (get_or piece (place - at) 0) byte
changed_at at piece file place byte within inside was =
    elim (cases_lt place at) [
      | inl before ↦
          let front : get_or (changed file (Wrote at (length piece) piece)) place 0 ≡ get_or file place 0 =
          get_or_append_left (take at file) (piece ++ drop (at + length piece) file) 0 place (omega (arith, before, length-take at file, within)) ∙ get_or-take at file place 0 before in
          let byte_is : get_or file place 0 ≡ byte = was (omega (arith, before, within)) in
          let test : nat_le at place ≡ false = grind (arith, nat_tests, before) in
          front ∙ byte_is ∙ sym (ap (λ (b : Bool). cond (b && nat_lt place (at + length piece)) (get_or piece (place - at) 0) byte) test)
      | inr after ↦
          let behind : get_or (changed file (Wrote at (length piece) piece)) place 0 ≡ get_or (piece ++ drop (at + length piece) file) (place - at) 0 =
          get_or-append_right (take at file) (piece ++ drop (at + length piece) file) at place 0 (omega (arith, length-take at file, within)) after in
          let first : nat_le at place ≡ true = grind (arith, nat_tests, after) in
          elim (cases_lt place (at + length piece)) [
            | inl in_piece ↦
                let test : nat_lt place (at + length piece) ≡ true = grind (arith, nat_tests, in_piece) in
                behind ∙ get_or_append_left piece (drop (at + length piece) file) 0 (place - at) (omega (arith, in_piece, after))
                ∙ sym (ap (λ (b : Bool). cond (b && nat_lt place (at + length piece)) (get_or piece (place - at) 0) byte) first
                ∙ ap (λ (b : Bool). cond b (get_or piece (place - at) 0) byte) test)
            | inr later_on ↦
                let test : nat_lt place (at + length piece) ≡ false = grind (arith, nat_tests, later_on) in
                behind ∙ get_or-append_right piece (drop (at + length piece) file) (length piece) (place - at) 0 refl (omega (arith, later_on))
                ∙ get_or-drop (at + length piece) file (place - at - length piece) 0
                ∙ ap (λ (n : ℕ). get_or file n 0) (back place at (length piece) later_on)
                ∙ was (omega (arith, inside, later_on))
                ∙ sym (ap (λ (b : Bool). cond (b && nat_lt place (at + length piece)) (get_or piece (place - at) 0) byte) first
                ∙ ap (λ (b : Bool). cond b (get_or piece (place - at) 0) byte) test)
          ]
    ]
  where
    back : (place at n : ℕ) → at + n ≤ place → at + n + (place - at - n) ≡ place
    back place at n h = omega (arith, h)

pub byte_more : (pieces file : List ℕ) (s : Step) (b : Bool) (place byte : ℕ) → LiesWithin (length pieces) s → (b ≡ true → FitsFile s (length file)) → (place < length file → get_or file place 0 ≡ byte)
    → place < length (content_after (call_of pieces s) b file) → get_or (content_after (call_of pieces s) b file) place 0 ≡ byte_after pieces s b place byte
byte_more pieces file (step.Select run) true place byte inside fits was here = was here
byte_more pieces file (step.Select run) false place byte inside fits was here = was here
byte_more pieces file (step.Write at run) true place byte inside fits was here =
    let size = length-bytes_at pieces run inside in
    changed_at at (bytes_at pieces run) file place byte (fits refl).0 (subst (λ n. place < n) (length-changed at (bytes_at pieces run) file (fits refl).0) here) was
    ∙ ap (λ (n : ℕ). cond (nat_le at place && nat_lt place (at + n)) (get_or (bytes_at pieces run) (place - at) 0) byte) size
byte_more pieces file (step.Write at run) false place byte inside fits was here = was here
byte_more pieces file (step.Cut len) true place byte inside fits was here =
    get_or-take len file place 0 (omega (arith, length-take len file, here)) ∙ was (omega (arith, length-take len file, here))
byte_more pieces file (step.Cut len) false place byte inside fits was here = was here
byte_more pieces file step.Sync true place byte inside fits was here = was here
byte_more pieces file step.Sync false place byte inside fits was here = was here

-- a call that fits the selected file, whose name is this one
pub fits_file : (pieces : List ℕ) (s : Step) (t : Moments) (name : List ℕ) → LiesWithin (length pieces) s → Fits (call_of pieces s) t → bytes_eq name t.now.selected ≡ true → FitsFile s (length (content (t.now.files name)))
fits_file pieces (step.Select run) t name inside fits same = tt
fits_file pieces (step.Write at run) t name inside fits same =
    let names : name ≡ t.now.selected = (bytes_eq-Decides name t.now.selected).0 same in
    let size = length-bytes_at pieces run inside in
    (subst (λ n. at ≤ length (content (t.now.files n))) (sym names) fits.0, omega (arith, fits.1, size))
fits_file pieces (step.Cut len) t name inside fits same = tt
fits_file pieces step.Sync t name inside fits same = tt

pub ends_within : (pieces : List ℕ) (s : Step) (t : Moments) → LiesWithin (length pieces) s → Fits (call_of pieces s) t → EndsWithin s
ends_within pieces (step.Select run) t inside fits = tt
ends_within pieces (step.Write at run) t inside fits = omega (arith, fits.1, length-bytes_at pieces run inside)
ends_within pieces (step.Cut len) t inside fits = tt
ends_within pieces step.Sync t inside fits = tt

-- ---- the same, by what the code found before

module _ (files : List StoredFile) (pieces : List ℕ) (steps : List Step) (i : ℕ) (s d : Step) (within : i < length steps) (is : s ≡ get_or steps i d) where
  here : s ≡ get_or steps i s
  here = is ∙ get_or_default steps i d s within

  pub name_goes : (name next : List ℕ) → next ≡ name_after pieces s name → name ≡ (moments_at files pieces (take i steps)).now.selected
      → next ≡ (moments_at files pieces (take (i + 1) steps)).now.selected
  name_goes name next goes was = goes ∙ ap (name_after pieces s) was ∙ sym (name_more files pieces steps i s within here)

  module _ (sound : IsSound files (map (call_of pieces) steps)) (inside : All (LiesWithin (length pieces)) steps) where
    inside_here : LiesWithin (length pieces) s
    inside_here = subst (LiesWithin (length pieces)) (sym is) (inside i d within)

    fits_now : Fits (call_of pieces s) (moments_at files pieces (take i steps))
    fits_now = fits_here files pieces steps i s within here sound

    pub ends_here : EndsWithin s
    ends_here = ends_within pieces s (moments_at files pieces (take i steps)) inside_here fits_now

    module _ (wanted name : List ℕ) (b : Bool) (was : name ≡ (moments_at files pieces (take i steps)).now.selected) (test : b ≡ bytes_eq wanted name) where
      abbrev selects : Bool
      selects = bytes_eq wanted (moments_at files pieces (take i steps)).now.selected

      abbrev file : List ℕ
      file = content_at files pieces (take i steps) wanted

      same_test : b ≡ selects
      same_test = test ∙ ap (bytes_eq wanted) was

      fits_selected : selects ≡ true → FitsFile s (length file)
      fits_selected same = fits_file pieces s (moments_at files pieces (take i steps)) wanted inside_here fits_now same

      pub size_goes : (size next : ℕ) → next ≡ size_after s b size → size ≡ length file → next ≡ length (content_at files pieces (take (i + 1) steps) wanted)
      size_goes size next goes known =
          goes
          ∙ ap (λ (x : Bool). size_after s x size) same_test
          ∙ ap (size_after s selects) known
          ∙ sym (size_more pieces file s selects inside_here fits_selected)
          ∙ ap length (sym (content_more files pieces steps i s within here wanted))

      pub byte_goes : (place byte next : ℕ) → next ≡ byte_after pieces s b place byte → (place < length file → get_or file place 0 ≡ byte)
          → place < length (content_at files pieces (take (i + 1) steps) wanted) → get_or (content_at files pieces (take (i + 1) steps) wanted) place 0 ≡ next
      byte_goes place byte next goes known there =
          let more = content_more files pieces steps i s within here wanted in
          ap (λ (l : List ℕ). get_or l place 0) more
          ∙ byte_more pieces file s selects place byte inside_here fits_selected known (subst (λ (l : List ℕ). place < length l) more there)
          ∙ sym (goes ∙ ap (λ (x : Bool). byte_after pieces s x place byte) same_test)

-- the file of a name isn't one of another name
pub file_of-other : (files : List StoredFile) (i : ℕ) (s : StoredFile) (name : List ℕ) → i < length files → s ≡ get_or files i s → bytes_eq s.name name ≡ false
    → file_of (drop i files) name ≡ file_of (drop (i + 1) files) name
file_of-other files i s name within is other =
    ap (λ (l : List StoredFile). file_of l name) (drop_more files i s within ∙ ap (λ (x : StoredFile). x ∷ drop (i + 1) files) (sym is))
    ∙ ap (λ (b : Bool). cond b (record { stable = s.bytes; since = [] }) (file_of (drop (i + 1) files) name)) other

-- a file that the disk held first has no changes
pub content-file_of : (files : List StoredFile) (name : List ℕ) → content (file_of files name) ≡ (file_of files name).stable
content-file_of [] name = refl
content-file_of (s ∷ files) name = each (file_of files name) (bytes_eq s.name name) (content-file_of files name)
  where
    each : (f : File) (b : Bool) → content f ≡ f.stable → content (cond b (record { stable = s.bytes; since = [] }) f) ≡ (cond b (record { stable = s.bytes; since = [] }) f).stable
    each f true rest = refl
    each f false rest = rest

-- ---- what a disk tells

-- one call more
pub told_kept : (old now : DiskState) (calls : List Call) (c : Call) → old ≡ now → calls ≡ old.done ++ c ∷ []
    → moments_of old.first calls ≡ later (moments_of now.first now.done) (held_after c (moments_of now.first now.done).now)
told_kept old now calls c same is =
    ap (moments_of old.first) is
    ∙ moments_after-push (begun old.first) old.done c
    ∙ ap (λ (d : DiskState). later (moments_of d.first d.done) (held_after c (moments_of d.first d.done).now)) same

pub told_is : (old now : DiskState) (first : List StoredFile) (pieces pieces_now : List ℕ) (steps steps_now : List Step) → old ≡ now → first ≡ old.first → pieces ≡ pieces_now → steps ≡ steps_now
    → map (call_of pieces_now) steps_now ≡ old.done → moments_at first pieces steps ≡ moments_of now.first now.done
told_is old now first pieces pieces_now steps steps_now same first_is pieces_are steps_are done =
    ap (λ (l : List StoredFile). moments_at l pieces steps) first_is
    ∙ ap (λ (l : List ℕ). moments_at old.first l steps) pieces_are
    ∙ ap (λ (l : List Step). moments_at old.first pieces_now l) steps_are
    ∙ ap (moments_of old.first) done
    ∙ ap (λ (d : DiskState). moments_of d.first d.done) same

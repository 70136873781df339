-- What is picked of a disk in memory is what a crash may leave of it.
use Rattle.std.proofs.Common.{◌≡◌, ℕ, zero, suc, ◌+◌, ◌<◌, ◌≤◌, Bool, true, false, cond, nat_eq, bytes_eq, List, [], ◌∷◌, ◌++◌, length, replicate, take, drop, get_or, refl, sym, ap, ◌∙◌, subst, arith, length-append, length-take, append_assoc}
use Rattle.std.proofs.lemmas.List.{length-replicate, take_all, take_more}
use Rattle.std.proofs.lemmas.Slice.{drop-append-drop}
use Rattle.std.proofs.lemmas.Slice.Eq.{bytes_eq-Decides}
use Rattle.hc_disk.specs.declared.stored.StoredFile.{StoredFile}
use Rattle.hc_disk.specs.Disk.{Change, Wrote, Cut, File, IsTorn, MayBecome, MayBecomeAll, MayLeave, Moments, all_changed, changed, content, later, synced, with_change}
use Rattle.hc_disk.specs.MemDisk.{Call, Selected, Put, Shortened, Synced, Fits, IsSound, begun, file_of, held_after, moments_of}
use Rattle.hc_disk.specs.Crash.{AreLeft, MayBeLeft, all_picked, left_by, picked, spoiled}
use Rattle.hc_disk.proofs.GoneOver.{length-changed, moments_after-push}
use Rattle.hc_disk.proofs.Torn.{take-changed}

-- a write begins within the file, and no change can reach other places than its own
abbrev pub IsInPlace : List ℕ → Change → Type 0
IsInPlace file (Wrote at reach bytes) = (at ≤ length file) × (reach ≡ length bytes)
IsInPlace file (Cut reach len) = reach ≡ len

abbrev pub AreInPlace : List ℕ → List Change → Type 0
AreInPlace file [] = Unit {0}
AreInPlace file (x ∷ xs) = IsInPlace file x × AreInPlace (changed file x) xs

-- ---- one change

-- it wasn't made
pub stays : (x : Change) (file : List ℕ) → MayBecome x file file
stays (Wrote at reach bytes) file = record { before = refl; after = refl; no_shorter = omega arith; no_longer = omega arith }
stays (Cut reach len) file = record { kept = reach + length file; least = omega arith; same = sym (take_all (reach + length file) file (omega arith)) }

-- a write was made, of whatever bytes
written : (at reach : ℕ) (bytes file : List ℕ) → at ≤ length file → reach ≡ length bytes → IsTorn at reach file (changed file (Wrote at reach bytes))
written at reach bytes file within full =
    let many = length-changed at bytes file within in
    record {
      before = take-changed at at reach bytes file (omega arith) within;
      after =
          ap (drop (at + reach)) (sym (append_assoc (take at file) bytes (drop (at + length bytes) file)))
          ∙ drop-append-drop (at + length bytes) file (take at file ++ bytes) (at + reach) (omega (arith, full))
          (omega (arith, length-append (take at file) bytes, length-take at file, within));
      no_shorter = omega (arith, many);
      no_longer = omega (arith, many, full);
    }

-- it was made, or with this byte at each of its places
made : (x : Change) (file : List ℕ) → IsInPlace file x → MayBecome x file (changed file x)
made (Wrote at reach bytes) file place = written at reach bytes file place.0 place.1
made (Cut reach len) file place = record { kept = len; least = omega (arith, place); same = refl }

made_with : (pick : ℕ) (x : Change) (file : List ℕ) → IsInPlace file x → MayBecome x file (spoiled pick x file)
made_with pick (Wrote at reach bytes) file place = written at reach (replicate (length bytes) pick) file place.0 (place.1 ∙ sym (length-replicate (length bytes) pick))
made_with pick (Cut reach len) file place = record { kept = len; least = omega (arith, place); same = refl }

-- of a file that is as long
place_by_length : (x : Change) (file other : List ℕ) → length other ≡ length file → IsInPlace file x → IsInPlace other x
place_by_length (Wrote at reach bytes) file other long place = (omega (arith, long, place.0), place.1)
place_by_length (Cut reach len) file other long place = place

long_changed : (x : Change) (file other : List ℕ) → length other ≡ length file → IsInPlace file x → length (changed other x) ≡ length (changed file x)
long_changed (Wrote at reach bytes) file other long place =
    omega (arith, length-changed at bytes other (omega (arith, long, place.0)), length-changed at bytes file place.0, long)
long_changed (Cut reach len) file other long place = omega (arith, length-take len other, length-take len file, long)

long_spoiled : (pick : ℕ) (x : Change) (file other : List ℕ) → length other ≡ length file → IsInPlace file x → length (spoiled pick x other) ≡ length (changed file x)
long_spoiled pick (Wrote at reach bytes) file other long place =
    omega (arith, length-changed at (replicate (length bytes) pick) other (omega (arith, long, place.0)), length-changed at bytes file place.0, length-replicate (length bytes) pick, long)
long_spoiled pick (Cut reach len) file other long place = omega (arith, length-take len other, length-take len file, long)

-- ---- all changes of a file

module _ (pick : ℕ) where
  none_may : ((x : Change) (left : List ℕ) → picked pick x left ≡ left) → (left : List ℕ) (xs : List Change) → MayBecomeAll left xs (all_picked pick left xs)
  none_may same left [] = refl
  none_may same left (x ∷ xs) = (picked pick x left, (subst (MayBecome x left) (sym (same x left)) (stays x left), none_may same (picked pick x left) xs))

  abbrev Goes : (Change → List ℕ → List ℕ) → Type 0
  Goes f = (x : Change) (file left : List ℕ) → length left ≡ length file → IsInPlace file x → MayBecome x left (f x left) × (length (f x left) ≡ length (changed file x))

  all_may : Goes (picked pick) → (file left : List ℕ) (xs : List Change) → length left ≡ length file → AreInPlace file xs → MayBecomeAll left xs (all_picked pick left xs)
  all_may goes file left [] long places = refl
  all_may goes file left (x ∷ xs) long places =
      let once = goes x file left long places.0 in
      (picked pick x left, (once.0, all_may goes (changed file x) (picked pick x left) xs once.1 places.1))

  by_pick : (a b : Bool) → nat_eq pick 0 ≡ a → nat_eq pick 1 ≡ b → (file : List ℕ) (xs : List Change) → AreInPlace file xs → MayBecomeAll file xs (all_picked pick file xs)
  by_pick true b zero_is one_is file xs places = all_may goes file file xs refl places
    where
      same : (x : Change) (left : List ℕ) → picked pick x left ≡ changed left x
      same x left = ap (λ (c : Bool). cond c (changed left x) (cond (nat_eq pick 1) left (spoiled pick x left))) zero_is

      goes : Goes (picked pick)
      goes x file left long place =
          (subst (MayBecome x left) (sym (same x left)) (made x left (place_by_length x file left long place)), ap length (same x left) ∙ long_changed x file left long place)
  by_pick false true zero_is one_is file xs places = none_may same file xs
    where
      same : (x : Change) (left : List ℕ) → picked pick x left ≡ left
      same x left =
          ap (λ (c : Bool). cond c (changed left x) (cond (nat_eq pick 1) left (spoiled pick x left))) zero_is
          ∙ ap (λ (c : Bool). cond c left (spoiled pick x left)) one_is
  by_pick false false zero_is one_is file xs places = all_may goes file file xs refl places
    where
      same : (x : Change) (left : List ℕ) → picked pick x left ≡ spoiled pick x left
      same x left =
          ap (λ (c : Bool). cond c (changed left x) (cond (nat_eq pick 1) left (spoiled pick x left))) zero_is
          ∙ ap (λ (c : Bool). cond c left (spoiled pick x left)) one_is

      goes : Goes (picked pick)
      goes x file left long place =
          (subst (MayBecome x left) (sym (same x left)) (made_with pick x left (place_by_length x file left long place)), ap length (same x left) ∙ long_spoiled pick x file left long place)

-- what is picked of a file is an outcome of a crash
pub picked_may : (pick : ℕ) (f : File) → AreInPlace f.stable f.since → MayLeave f (left_by pick f)
picked_may pick f places = by_pick pick (nat_eq pick 0) (nat_eq pick 1) refl refl f.stable f.since places

-- ---- the files of a disk in memory

abbrev FileInPlace : File → Type 0
FileInPlace f = AreInPlace f.stable f.since

one_more : (file : List ℕ) (xs : List Change) (x : Change) → AreInPlace file xs → IsInPlace (all_changed file xs) x → AreInPlace file (xs ++ x ∷ [])
one_more file [] x all last = (last, tt)
one_more file (y ∷ ys) x all last = (all.0, one_more (changed file y) ys x all.1 last)

changed_once : (b : Bool) (f : File) (x : Change) → FileInPlace f → (b ≡ true → IsInPlace (content f) x) → FileInPlace (cond b (with_change x f) f)
changed_once true f x all last = one_more f.stable f.since x all (last refl)
changed_once false f x all last = all

synced_once : (b : Bool) (f : File) → FileInPlace f → FileInPlace (cond b (synced f) f)
synced_once true f all = tt
synced_once false f all = all

after_call : (c : Call) (t : Moments) (name : List ℕ) → Fits c t → FileInPlace (t.now.files name) → FileInPlace ((held_after c t.now).files name)
after_call (Selected other) t name fits all = all
after_call (Put at piece) t name fits all =
    changed_once (bytes_eq name t.now.selected) (t.now.files name) (Wrote at (length piece) piece) all
    (λ same. (subst (λ (n : List ℕ). at ≤ length (content (t.now.files n))) (sym ((bytes_eq-Decides name t.now.selected).0 same)) fits.0, refl))
after_call (Shortened len) t name fits all = changed_once (bytes_eq name t.now.selected) (t.now.files name) (Cut len len) all (λ same. refl)
after_call Synced t name fits all = synced_once (bytes_eq name t.now.selected) (t.now.files name) all

at_first : (files : List StoredFile) (name : List ℕ) → FileInPlace (file_of files name)
at_first [] name = tt
at_first (s ∷ files) name = each (bytes_eq s.name name) (file_of files name) (at_first files name)
  where
    each : (b : Bool) (f : File) → FileInPlace f → FileInPlace (cond b (record { stable = s.bytes; since = [] }) f)
    each true f rest = tt
    each false f rest = rest

module _ (files : List StoredFile) (calls : List Call) (sound : IsSound files calls) (name : List ℕ) where
  after_some : (n : ℕ) → n ≤ length calls → FileInPlace ((moments_of files (take n calls)).now.files name)
  after_some zero within = at_first files name
  after_some (suc n) within =
      let below : n < length calls = omega (arith, within) in
      let c = get_or calls n Synced in
      let before = moments_of files (take n calls) in
      let next : suc n ≡ n + 1 = omega arith in
      let more : moments_of files (take (suc n) calls) ≡ later before (held_after c before.now) =
      ap (λ (m : ℕ). moments_of files (take m calls)) next ∙ ap (moments_of files) (take_more calls n Synced below) ∙ moments_after-push (begun files) (take n calls) c in
      subst (λ (t : Moments). FileInPlace (t.now.files name)) (sym more) (after_call c before name (sound n Synced below) (after_some n (omega (arith, below))))

  pub in_place : FileInPlace ((moments_of files calls).now.files name)
  in_place = subst (λ (l : List Call). FileInPlace ((moments_of files l).now.files name)) (take_all (length calls) calls (omega arith)) (after_some (length calls) (omega arith))

-- so of each file just what is left is an outcome
pub left_may : (pick : ℕ) (first files : List StoredFile) (calls : List Call) → IsSound first calls → AreLeft pick (moments_of first calls) files → MayBeLeft (moments_of first calls) files
left_may pick first files calls sound left name =
    let f = (moments_of first calls).now.files name in
    subst (MayLeave f) (sym (ap (λ (g : File). g.stable) (left name))) (picked_may pick f (in_place first calls sound name))

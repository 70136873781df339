-- One more change of a file, and outcomes of a crash that each disk has.
use Rattle.std.proofs.Common.{◌≡◌, ◌≢◌, ℕ, Bool, true, false, cond, List, [], ◌∷◌, ◌++◌, bytes_eq, refl, sym, ap, subst}
use Rattle.std.proofs.lemmas.Slice.Eq.{bytes_eq-Decides}
use Rattle.hc_disk.specs.Disk.{Change, File, Held, MayBecome, MayBecomeAll, MayLeave, all_changed, changed, content, selected_file, with_change, with_file}

all_changed-push : (file : List ℕ) (xs : List Change) (x : Change) → all_changed file (xs ++ x ∷ []) ≡ changed (all_changed file xs) x
all_changed-push file [] x = refl
all_changed-push file (y ∷ ys) x = all_changed-push (changed file y) ys x

-- what a read gives after one more change
pub content-with_change : (x : Change) (f : File) → content (with_change x f) ≡ changed (content f) x
content-with_change x f = all_changed-push f.stable f.since x

-- what a crash leaves after one more change is what that may become of something that a crash might have left before it
pub record Became (x : Change) (f : File) (left : List ℕ) : Type 0 where
  pub between : List ℕ
  pub before : MayLeave f between
  pub last : MayBecome x between left

became : (file : List ℕ) (xs : List Change) (x : Change) (left : List ℕ) → MayBecomeAll file (xs ++ x ∷ []) left → (between : List ℕ) × (MayBecomeAll file xs between × MayBecome x between left)
became file [] x left h = (file, (refl, subst (λ (l : List ℕ). MayBecome x file l) (sym h.1.1) h.1.0))
became file (y ∷ ys) x left h =
    let rest = became h.0 ys x left h.1.1 in
    (rest.0, ((h.0, (h.1.0, rest.1.0)), rest.1.1))

pub left_after : (x : Change) (f : File) (left : List ℕ) → MayLeave (with_change x f) left → Became x f left
left_after x f left h =
    let parts = became f.stable f.since x left h in record { between = parts.0; before = parts.1.0; last = parts.1.1 }

-- and each of these may be left
pub left_further : (file : List ℕ) (xs : List Change) (x : Change) (between left : List ℕ) → MayBecomeAll file xs between → MayBecome x between left → MayBecomeAll file (xs ++ x ∷ []) left
left_further file [] x between left before last = (left, (subst (λ (l : List ℕ). MayBecome x l left) before last, refl))
left_further file (y ∷ ys) x between left before last = (before.0, (before.1.0, left_further before.0 ys x between left before.1.1 last))

-- the selected file is what was made of it
pub selected-with_file : (f : File → File) (held : Held) → selected_file (with_file f held) ≡ f (selected_file held)
selected-with_file f held =
    ap (λ (b : Bool). cond b (f (held.files held.selected)) (held.files held.selected)) ((bytes_eq-Decides held.selected held.selected).1 refl)

-- a file of another name is as it was
pub others-with_file : (f : File → File) (held : Held) (name : List ℕ) → name ≢ held.selected → (with_file f held).files name ≡ held.files name
others-with_file f held name other =
    ap (λ (b : Bool). cond b (f (held.files name)) (held.files name)) (no (bytes_eq name held.selected) (bytes_eq-Decides name held.selected).0)
  where
    no : (b : Bool) → (b ≡ true → name ≡ held.selected) → b ≡ false
    no true same = absurd (other (same refl))
    no false same = refl

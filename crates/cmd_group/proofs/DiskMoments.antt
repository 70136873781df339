-- A moment of a disk from a stated one on, over some calls and then others.
use Rattle.std.proofs.Common.{◌≡◌, ◌⊎◌, inl, inr, ℕ, List, [], ◌∷◌, ◌++◌, All, sym, ap, ◌∙◌, subst, append_assoc, append-nil, slice_index_or}
use Rattle.std.proofs.lemmas.List.{append_cancel_left}
use Rattle.std.proofs.lemmas.List.Elements.{All-head, All-tail}
use Rattle.hc_disk.specs.Disk.{Held, MayLeave, Moments, all_moments}
use Rattle.hc_disk.specs.Runs.{LeavesOnly, WasOnly}
use Rattle.hc_file_journal.specs.FileLaws.{IsSince}

-- Lists --

-- a list with an item in it, after these
record HasFirst (xs earlier : List Held) (x : Held) : Type 0 where
  later : List Held
  same : xs ≡ earlier ++ x ∷ later

-- or before these
record HasLast (xs later : List Held) (x : Held) : Type 0 where
  earlier : List Held
  same : xs ≡ earlier ++ x ∷ later

record BothAre (x y : Held) (xs ys : List Held) : Type 0 where
  head : x ≡ y
  tail : xs ≡ ys

both-are : (x y : Held) (xs ys : List Held) → x ∷ xs ≡ y ∷ ys → BothAre x y xs ys
both-are x y xs ys e = record { head = cc; tail = cc }

-- an item of two lists is in one of them
in-either : (xs ys earlier later : List Held) (x : Held) → earlier ++ x ∷ later ≡ xs ++ ys → HasFirst xs earlier x ⊎ HasLast ys later x
in-either [] ys earlier later x e = inr (record { earlier = earlier; same = sym e })
in-either (y ∷ xs) ys [] later x e =
    let both = both-are x y later (xs ++ ys) e in
    inl (record { later = xs; same = ap (λ (z : Held). z ∷ xs) (sym both.head) })
in-either (y ∷ xs) ys (z ∷ earlier) later x e =
    let both = both-are z y (earlier ++ x ∷ later) (xs ++ ys) e in
    longer (in-either xs ys earlier later x both.tail) both.head
  where
    longer : HasFirst xs earlier x ⊎ HasLast ys later x → z ≡ y → HasFirst (y ∷ xs) (z ∷ earlier) x ⊎ HasLast ys later x
    longer (inl first) head =
        inl (record { later = first.later; same = ap (λ (l : List Held). y ∷ l) first.same ∙ ap (λ (h : Held). h ∷ (earlier ++ x ∷ first.later)) (sym head) })
    longer (inr last) head = inr last

no-item : (xs : List Held) (x : Held) (ys : List Held) → [] ≡ xs ++ x ∷ ys → ⊥
no-item [] x ys e = absurd cc
no-item (z ∷ xs) x ys e = absurd cc

-- the last item stands after all of a first part
last-after : (xs ys more : List Held) (x y : Held) → xs ++ x ∷ [] ≡ ys ++ y ∷ more → HasLast (y ∷ more) [] x
last-after xs ys more x y e = by-part (in-either ys (y ∷ more) xs [] x e)
  where
    by-part : HasFirst ys xs x ⊎ HasLast (y ∷ more) [] x → HasLast (y ∷ more) [] x
    by-part (inr last) = last
    by-part (inl first) =
        let longer : xs ++ x ∷ [] ≡ xs ++ x ∷ (first.later ++ y ∷ more) = e ∙ ap (λ (l : List Held). l ++ y ∷ more) first.same ∙ append_assoc xs (x ∷ first.later) (y ∷ more) in
        let cut = both-are x x [] (first.later ++ y ∷ more) (append_cancel_left xs (x ∷ []) (x ∷ (first.later ++ y ∷ more)) longer) in
        absurd (no-item first.later y more cut.tail)

member : (P : Held → Type 0) (x held : Held) (more earlier later : List Held) → P x → All P more → earlier ++ held ∷ later ≡ x ∷ more → P held
member P x held more [] later first rest same = let both = both-are held x later more same in subst P (sym both.head) first
member P x held [] (e ∷ earlier) later first rest same =
    let both = both-are e x (earlier ++ held ∷ later) [] same in absurd (no-item earlier held later (sym both.tail))
member P x held (y ∷ more) (e ∷ earlier) later first rest same =
    let both = both-are e x (earlier ++ held ∷ later) (y ∷ more) same in
    member P y held more earlier later (All-head P y more rest) (All-tail P y more rest) both.tail

-- Moments --

-- what has P at first and since has it at each moment
pub since-has : (P : Held → Type 0) (t u : Moments) (held : Held) → P t.now → WasOnly t u P → IsSince t u held → P held
since-has P t u held first was since =
    member P t.now held was.more since.earlier since.later first was.each
    (append_cancel_left t.past (since.earlier ++ held ∷ since.later) (t.now ∷ was.more) (sym since.same ∙ was.since ∙ append_assoc t.past (t.now ∷ []) was.more))

-- more calls were made from a moment on
pub record GoesOn (t u : Moments) : Type 0 where
  pub more : List Held
  pub since : all_moments u ≡ all_moments t ++ more

pub goes-nowhere : (t : Moments) → GoesOn t t
goes-nowhere t = record { more = []; since = sym (append-nil (all_moments t)) }

pub goes-then : (t u v : Moments) → GoesOn t u → GoesOn u v → GoesOn t v
goes-then t u v first second =
    record { more = first.more ++ second.more; since = second.since ∙ ap (λ (l : List Held). l ++ second.more) first.since ∙ append_assoc (all_moments t) first.more second.more }

-- the last moment is one from the first on
pub now-since : (t u : Moments) → GoesOn t u → IsSince t u u.now
now-since t u goes =
    let all : all_moments u ≡ t.past ++ (t.now ∷ goes.more) = goes.since ∙ append_assoc t.past (t.now ∷ []) goes.more in
    let last = last-after u.past t.past goes.more u.now t.now all in
    record { earlier = last.earlier; later = []; same = all ∙ ap (λ (l : List Held). t.past ++ l) last.same }

-- a moment stays one when more calls are made
pub since-more : (t u v : Moments) (held : Held) → IsSince t u held → GoesOn u v → IsSince t v held
since-more t u v held since goes = record {
  earlier = since.earlier;
  later = since.later ++ goes.more;
  same = goes.since
      ∙ ap (λ (l : List Held). l ++ goes.more) since.same
      ∙ append_assoc t.past (since.earlier ++ held ∷ since.later) goes.more
      ∙ ap (λ (l : List Held). t.past ++ l) (append_assoc since.earlier (held ∷ since.later) goes.more);
}

-- a moment is before the end of the first calls, or from there on
pub since-either : (t b u : Moments) (held : Held) → GoesOn b u → IsSince t u held → IsSince t b held ⊎ IsSince b u held
since-either t b u held goes since =
    let all : all_moments u ≡ b.past ++ (b.now ∷ goes.more) = goes.since ∙ append_assoc b.past (b.now ∷ []) goes.more in
    by-part all (in-either b.past (b.now ∷ goes.more) (t.past ++ since.earlier) since.later held (append_assoc t.past since.earlier (held ∷ since.later) ∙ sym since.same ∙ all))
  where
    by-part : all_moments u ≡ b.past ++ (b.now ∷ goes.more) → HasFirst b.past (t.past ++ since.earlier) held ⊎ HasLast (b.now ∷ goes.more) since.later held → IsSince t b held ⊎ IsSince b u held
    by-part all (inl first) =
        inl (record {
          earlier = since.earlier;
          later = first.later ++ b.now ∷ [];
          same = ap (λ (l : List Held). l ++ b.now ∷ []) first.same
              ∙ append_assoc (t.past ++ since.earlier) (held ∷ first.later) (b.now ∷ [])
              ∙ append_assoc t.past since.earlier (held ∷ (first.later ++ b.now ∷ []));
        })
    by-part all (inr last) = inr (record { earlier = last.earlier; later = since.later; same = all ∙ ap (λ (l : List Held). b.past ++ l) last.same })

-- One file --

-- the file of this name is selected, and a crash leaves of it only what has P
abbrev pub Fits : List ℕ → (List ℕ → Type 0) → Held → Type 0
Fits name P held = (held.selected ≡ name) × ((left : List ℕ) → MayLeave (held.files name) left → P left)

-- so it is at each moment since, where calls left only that
pub fits-since : (name : List ℕ) (P : List ℕ → Type 0) (t u : Moments) (held : Held) → Fits name P t.now → WasOnly t u (LeavesOnly P t.now) → IsSince t u held → Fits name P held
fits-since name P t u held first was since = since-has (Fits name P) t u held first (record { more = was.more; since = was.since; each = each }) since
  where
    each : All (Fits name P) was.more
    each = λ k d within.
        let selected : (slice_index_or was.more k d).selected ≡ name = (was.each k d within).selected ∙ first.0 in
        (selected, λ left may. (was.each k d within).left left (subst (λ n. MayLeave ((slice_index_or was.more k d).files n) left) (sym selected) may))

pub goes-on : (P : Held → Type 0) (t u : Moments) → WasOnly t u P → GoesOn t u
goes-on P t u was = record { more = was.more; since = was.since }

-- Calls on one file, one after another: what a read gives, what a crash leaves, and what it left at each moment.
use Rattle.std.proofs.Common.{◌≡◌, ◌≢◌, inl, inr, ℕ, ◌≤◌, List, length, Option, Some, None, IfSome, Ok, Err, refl, sym, ap, ◌∙◌, subst}
use Rattle.r2_base.specs.declared.fault.Failed.{Failed}
use Rattle.hc_disk.specs.Disk.{Change, Wrote, Cut, Held, IsPrefix, IsTorn, MayBecome, MayLeave, Moments, changed, content, later, now_content, selected_file, synced, with_change, with_file}
use Rattle.hc_disk.specs.Calls.{Both, CutTo, Cuts, Made, Makes, Writes, Written}
use Rattle.hc_disk.specs.Runs.{LeavesOnly, SinceThen, WasOnly}
use Rattle.hc_disk.proofs.Changes.{content-with_change, left_after, selected-with_file, others-with_file}
use Rattle.hc_disk.proofs.Moments.{Both-known, Both-next, Both-weaker, WasOnly-begun, WasOnly-later, WasOnly-next, WasOnly-weaker}

-- since t a crash left of the file only what has P; a read gives this now, and a crash leaves now only what has L
pub record Stands (t u : Moments) (P : List ℕ → Type 0) (file : List ℕ) (L : List ℕ → Type 0) : Type 0 where
  pub was : WasOnly t u (LeavesOnly P t.now)
  pub selected : u.now.selected ≡ t.now.selected
  pub others : (name : List ℕ) → name ≢ t.now.selected → u.now.files name ≡ t.now.files name
  pub is : now_content u ≡ file
  pub left : (left : List ℕ) → MayLeave (selected_file u.now) left → L left

-- how a failed call ends it: what a read gives has C
pub record Ends (t u : Moments) (P C : List ℕ → Type 0) : Type 0 where
  pub was : WasOnly t u (LeavesOnly P t.now)
  pub content : C (now_content u)

pub Stands-begun : (t : Moments) (P : List ℕ → Type 0) → Stands t t P (now_content t) (MayLeave (selected_file t.now))
Stands-begun t P = record {
  was = WasOnly-begun t (LeavesOnly P t.now);
  selected = refl;
  others = λ name other. refl;
  is = refl;
  left = λ left may. may;
}

pub Stands-weaker : (t u : Moments) (P : List ℕ → Type 0) (file : List ℕ) (L M : List ℕ → Type 0) → ((left : List ℕ) → L left → M left) → Stands t u P file L → Stands t u P file M
Stands-weaker t u P file L M weaker s = record {
  was = s.was;
  selected = s.selected;
  others = s.others;
  is = s.is;
  left = λ left may. weaker left (s.left left may);
}

pub Stands-same : (t u : Moments) (P : List ℕ → Type 0) (file other : List ℕ) (L : List ℕ → Type 0) → file ≡ other → Stands t u P file L → Stands t u P other L
Stands-same t u P file other L same s = record { was = s.was; selected = s.selected; others = s.others; is = s.is ∙ same; left = s.left }

module _ (t u : Moments) (P : List ℕ → Type 0) (file : List ℕ) (L : List ℕ → Type 0) (s : Stands t u P file L) where
  -- the files of a moment at which the selected one is another
  module _ (f : Held) (same : f.selected ≡ u.now.selected) (kept : (name : List ℕ) → name ≢ u.now.selected → f.files name ≡ u.now.files name) where
    kept_others : (name : List ℕ) → name ≢ t.now.selected → f.files name ≡ t.now.files name
    kept_others name other = kept name (λ e. other (e ∙ s.selected)) ∙ s.others name other

    leaves : ((left : List ℕ) → MayLeave (selected_file f) left → P left) → LeavesOnly P t.now f
    leaves only = record { selected = same ∙ s.selected; others = kept_others; left = only }

  -- after one more change
  pub Stands-changed : (v : Moments) (x : Change) (M : List ℕ → Type 0) → v ≡ later u (with_file (with_change x) u.now)
      → ((between left : List ℕ) → L between → MayBecome x between left → P left × M left) → Stands t v P (changed file x) M
  Stands-changed v x M is only = subst (λ (w : Moments). Stands t w P (changed file x) M) (sym is) after
    where
      held : Held
      held = with_file (with_change x) u.now

      each : (left : List ℕ) → MayLeave (selected_file held) left → P left × M left
      each left may =
          let became = left_after x (selected_file u.now) left (subst (λ f. MayLeave f left) (selected-with_file (with_change x) u.now) may) in
          only became.between left (s.left became.between became.before) became.last

      after : Stands t (later u held) P (changed file x) M
      after = record {
        was = WasOnly-later t u held (LeavesOnly P t.now) (leaves held refl (others-with_file (with_change x) u.now) (λ left may. (each left may).0)) s.was;
        selected = s.selected;
        others = kept_others held refl (others-with_file (with_change x) u.now);
        is = ap content (selected-with_file (with_change x) u.now) ∙ content-with_change x (selected_file u.now) ∙ ap (λ (l : List ℕ). changed l x) s.is;
        left = λ left may. (each left may).1;
      }

  -- after a sync
  pub Stands-synced : (v : Moments) → v ≡ later u (with_file synced u.now) → P file → Stands t v P file (λ left. left ≡ file)
  Stands-synced v is fits = subst (λ (w : Moments). Stands t w P file (λ left. left ≡ file)) (sym is) after
    where
      held : Held
      held = with_file synced u.now

      each : (left : List ℕ) → MayLeave (selected_file held) left → left ≡ file
      each left may = subst (λ f. MayLeave f left) (selected-with_file synced u.now) may ∙ s.is

      after : Stands t (later u held) P file (λ left. left ≡ file)
      after = record {
        was = WasOnly-later t u held (LeavesOnly P t.now) (leaves held refl (others-with_file synced u.now) (λ left may. subst P (sym (each left may)) fits)) s.was;
        selected = s.selected;
        others = kept_others held refl (others-with_file synced u.now);
        is = ap content (selected-with_file synced u.now) ∙ s.is;
        left = each;
      }

  pub Stands-ends : (v : Moments) (C : List ℕ → Type 0) → v ≡ u → C file → Ends t v P C
  Stands-ends v C is fits =
      subst (λ (w : Moments). Ends t w P C) (sym is) (record { was = s.was; content = subst C (sym s.is) fits })

  -- after a change that a failed call may have made
  pub Stands-failed : (v : Moments) (x : Change) (C : List ℕ → Type 0) → v ≡ later u (with_file (with_change x) u.now)
      → ((between left : List ℕ) → L between → MayBecome x between left → P left) → C (changed file x) → Ends t v P C
  Stands-failed v x C is only fits =
      let after = Stands-changed v x P is (λ between left may last. (only between left may last, only between left may last)) in
      record { was = after.was; content = subst C (sym after.is) fits }

-- the same of a disk that may report its moments. Of the first moment K is known, and each P, file, L and C is a function of it
module _ (K : Moments → Type 0) (P : Moments → List ℕ → Type 0) where
  abbrev pub Standing : Option Moments → Option Moments → (Moments → List ℕ) → (Moments → List ℕ → Type 0) → Type 0
  Standing a b file L = Both a b (λ t u. Stands t u (P t) (file t) (L t))

  abbrev pub Ending : Option Moments → Option Moments → (Moments → List ℕ → Type 0) → Type 0
  Ending a b C = Both a b (λ t u. Ends t u (P t) (C t))

  module _ (a b : Option Moments) (file : Moments → List ℕ) (L : Moments → List ℕ → Type 0) (known : IfSome a K) (stands : Standing a b file L) where
    abbrev step : Moments → Moments → Type 0
    step t u = K t × Stands t u (P t) (file t) (L t)

    both : Both a b step
    both = Both-known a b K (λ t u. Stands t u (P t) (file t) (L t)) known stands

    pub write_ok : (c : Option Moments) (at : ℕ) (piece : List ℕ) (M : Moments → List ℕ → Type 0) → Writes b c (Ok tt) at piece
        → ((t : Moments) → K t → (between left : List ℕ) → L t between → IsTorn at (length piece) between left → P t left × M t left)
        → Standing a c (λ t. changed (file t) (Wrote at (length piece) piece)) M
    write_ok c at piece M wrote only =
        Both-next a b c step (λ u v. Written u v (Ok tt) at piece) (λ t v. Stands t v (P t) (changed (file t) (Wrote at (length piece) piece)) (M t))
        (λ t u v s w. Stands-changed t u (P t) (file t) (L t) s.1 v (Wrote at (length piece) piece) (M t) w (only t s.0)) both wrote

    pub write_err : (c : Option Moments) (at : ℕ) (piece : List ℕ) (fault : Failed) (C : Moments → List ℕ → Type 0) → Writes b c (Err fault) at piece
        → ((t : Moments) → K t → (between left : List ℕ) → L t between → IsTorn at (length piece) between left → P t left)
        → ((t : Moments) → K t → C t (file t))
        → ((t : Moments) → K t → (bytes : List ℕ) → length bytes ≤ length piece → C t (changed (file t) (Wrote at (length piece) bytes)))
        → Ending a c C
    write_err c at piece fault C wrote only same part =
        Both-next a b c step (λ u v. Written u v (Err fault) at piece) (λ t v. Ends t v (P t) (C t)) ends both wrote
      where
        ends : (t u v : Moments) → step t u → Written u v (Err fault) at piece → Ends t v (P t) (C t)
        ends t u v s (inl none) = Stands-ends t u (P t) (file t) (L t) s.1 v (C t) none (same t s.0)
        ends t u v s (inr some) =
            Stands-failed t u (P t) (file t) (L t) s.1 v (Wrote at (length piece) some.bytes) (C t) some.is (only t s.0) (part t s.0 some.bytes some.within)

    pub cut_ok : (c : Option Moments) (len : ℕ) (M : Moments → List ℕ → Type 0) → Cuts b c (Ok tt) len
        → ((t : Moments) → K t → (between left : List ℕ) → L t between → IsPrefix len between left → P t left × M t left)
        → Standing a c (λ t. changed (file t) (Cut len len)) M
    cut_ok c len M was_cut only =
        Both-next a b c step (λ u v. CutTo u v (Ok tt) len) (λ t v. Stands t v (P t) (changed (file t) (Cut len len)) (M t))
        (λ t u v s w. Stands-changed t u (P t) (file t) (L t) s.1 v (Cut len len) (M t) w (only t s.0)) both was_cut

    pub cut_err : (c : Option Moments) (len : ℕ) (fault : Failed) (C : Moments → List ℕ → Type 0) → Cuts b c (Err fault) len
        → ((t : Moments) → K t → (between left : List ℕ) → L t between → IsPrefix len between left → P t left)
        → ((t : Moments) → K t → C t (file t))
        → ((t : Moments) → K t → (kept : ℕ) → len ≤ kept → C t (changed (file t) (Cut len kept)))
        → Ending a c C
    cut_err c len fault C was_cut only same part =
        Both-next a b c step (λ u v. CutTo u v (Err fault) len) (λ t v. Ends t v (P t) (C t)) ends both was_cut
      where
        ends : (t u v : Moments) → step t u → CutTo u v (Err fault) len → Ends t v (P t) (C t)
        ends t u v s (inl none) = Stands-ends t u (P t) (file t) (L t) s.1 v (C t) none (same t s.0)
        ends t u v s (inr some) =
            Stands-failed t u (P t) (file t) (L t) s.1 v (Cut len some.kept) (C t) some.is (only t s.0) (part t s.0 some.kept some.least)

    pub sync_ok : (c : Option Moments) → Makes b c (Ok tt) (with_file synced) → ((t : Moments) → K t → P t (file t)) → Standing a c file (λ t left. left ≡ file t)
    sync_ok c made fits =
        Both-next a b c step (λ u v. Made u v (Ok tt) (with_file synced)) (λ t v. Stands t v (P t) (file t) (λ left. left ≡ file t))
        (λ t u v s w. Stands-synced t u (P t) (file t) (L t) s.1 v w (fits t s.0)) both made

    pub sync_err : (c : Option Moments) (fault : Failed) (C : Moments → List ℕ → Type 0) → Makes b c (Err fault) (with_file synced) → ((t : Moments) → K t → C t (file t)) → Ending a c C
    sync_err c fault C made same =
        Both-next a b c step (λ u v. Made u v (Err fault) (with_file synced)) (λ t v. Ends t v (P t) (C t))
        (λ t u v s w. Stands-ends t u (P t) (file t) (L t) s.1 v (C t) w (same t s.0)) both made

    pub ends_here : (C : Moments → List ℕ → Type 0) → ((t : Moments) → K t → C t (file t)) → Ending a b C
    ends_here C same =
        Both-weaker a b step (λ t u. Ends t u (P t) (C t)) (λ t u s. Stands-ends t u (P t) (file t) (L t) s.1 u (C t) refl (same t s.0)) both

    -- the same, said in other words
    pub file_is : (other : Moments → List ℕ) → ((t : Moments) → K t → file t ≡ other t) → Standing a b other L
    file_is other same =
        Both-weaker a b step (λ t u. Stands t u (P t) (other t) (L t)) (λ t u s. Stands-same t u (P t) (file t) (other t) (L t) (same t s.0) s.1) both

    pub left_is : (M : Moments → List ℕ → Type 0) → ((t : Moments) → K t → (left : List ℕ) → L t left → M t left) → Standing a b file M
    left_is M weaker =
        Both-weaker a b step (λ t u. Stands t u (P t) (file t) (M t)) (λ t u s. Stands-weaker t u (P t) (file t) (L t) (M t) (weaker t s.0) s.1) both

  pub begins : (a : Option Moments) → Standing a a (λ t. now_content t) (λ t left. MayLeave (selected_file t.now) left)
  begins None = tt
  begins (Some t) = Stands-begun t (P t)

  -- and then another stretch, of which a crash is known to leave what has Q
  pub then_only : (a b c : Option Moments) (file : Moments → List ℕ) (L : Moments → List ℕ → Type 0) (Q : Moments → List ℕ → Type 0) → Standing a b file L
      → SinceThen b c (λ u held. LeavesOnly (Q u) u.now held) → ((t u : Moments) → now_content u ≡ file t → (left : List ℕ) → Q u left → P t left)
      → SinceThen a c (λ t held. LeavesOnly (P t) t.now held)
  then_only a b c file L Q stands was only =
      Both-next a b c (λ t u. Stands t u (P t) (file t) (L t)) (λ u v. WasOnly u v (LeavesOnly (Q u) u.now)) (λ t v. WasOnly t v (LeavesOnly (P t) t.now)) next stands was
    where
      next : (t u v : Moments) → Stands t u (P t) (file t) (L t) → WasOnly u v (LeavesOnly (Q u) u.now) → WasOnly t v (LeavesOnly (P t) t.now)
      next t u v s w = WasOnly-next t u v (LeavesOnly (P t) t.now) s.was (WasOnly-weaker u v (LeavesOnly (Q u) u.now) (LeavesOnly (P t) t.now) (λ held l. record {
        selected = l.selected ∙ s.selected;
        others = λ name other. l.others name (λ e. other (e ∙ s.selected)) ∙ s.others name other;
        left = λ left may. only t u s.is left (l.left left may);
      }) w)

  -- what is said to others of where the calls ended
  pub was_standing : (a b : Option Moments) (file : Moments → List ℕ) (L : Moments → List ℕ → Type 0) → Standing a b file L → SinceThen a b (λ t held. LeavesOnly (P t) t.now held)
  was_standing a b file L =
      Both-weaker a b (λ t u. Stands t u (P t) (file t) (L t)) (λ t u. WasOnly t u (LeavesOnly (P t) t.now)) (λ t u s. s.was)

  pub was_ending : (a b : Option Moments) (C : Moments → List ℕ → Type 0) → Ending a b C → SinceThen a b (λ t held. LeavesOnly (P t) t.now held)
  was_ending a b C = Both-weaker a b (λ t u. Ends t u (P t) (C t)) (λ t u. WasOnly t u (LeavesOnly (P t) t.now)) (λ t u s. s.was)

  pub content_ending : (a b : Option Moments) (C : Moments → List ℕ → Type 0) → Ending a b C → Both a b (λ t u. C t (now_content u))
  content_ending a b C = Both-weaker a b (λ t u. Ends t u (P t) (C t)) (λ t u. C t (now_content u)) (λ t u s. s.content)

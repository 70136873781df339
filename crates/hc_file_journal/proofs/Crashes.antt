-- What a crash at any moment leaves is recovered.
use Rattle.std.proofs.Common.{◌≡◌, ◌⊎◌, inl, inr, ℕ, List, [], ◌∷◌, ◌++◌, All, sym, ap, ◌∙◌, subst, append_assoc, slice_index_or}
use Rattle.std.proofs.lemmas.List.{append_cancel_left}
use Rattle.std.proofs.lemmas.List.Elements.{All-head, All-tail}
use Rattle.hc_disk.specs.Disk.{Held, MayLeave, Moments}
use Rattle.hc_disk.specs.Runs.{LeavesOnly, WasOnly}
use Rattle.hc_log.specs.declared.record.Record.{Record}
use Rattle.hc_log.specs.Durable.{State, replay}
use Rattle.hc_file_journal.specs.File.{IsDamaged, IsJournal}
use Rattle.hc_file_journal.specs.FileJournal.{IsSameJournal, IsWithOrWithout, LeavesJournal, StaysJournal, TellsRecords}
use Rattle.hc_file_journal.specs.FileLaws.{ACrashIsRecovered, IsFoundAgain, IsSince, StartsWith}
use Rattle.hc_file_journal.proofs.Rows.{not_damaged, one_journal}

-- a moment from a stated one on is that one or a later one
member : (P : Held → Type 0) (x held : Held) (more earlier later : List Held) → P x → All P more → earlier ++ held ∷ later ≡ x ∷ more → P held
member P x held more [] later first rest same = subst P (sym (head_is same)) first
  where
    head_is : held ∷ later ≡ x ∷ more → held ≡ x
    head_is e = cc
member P x held [] (e ∷ earlier) later first rest same = absurd (none earlier (tail_is same))
  where
    tail_is : e ∷ (earlier ++ held ∷ later) ≡ x ∷ [] → earlier ++ held ∷ later ≡ []
    tail_is same = cc

    none : (xs : List Held) → xs ++ held ∷ later ≡ [] → ⊥
    none [] same = cc
    none (y ∷ ys) same = cc
member P x held (y ∷ more) (e ∷ earlier) later first rest same =
    member P y held more earlier later (All-head P y more rest) (All-tail P y more rest) (tail_is same)
  where
    tail_is : e ∷ (earlier ++ held ∷ later) ≡ x ∷ (y ∷ more) → earlier ++ held ∷ later ≡ y ∷ more
    tail_is same = cc

module _ (records : List Record) (r : Record) where
  abbrev Same : List ℕ → Type 0
  Same = IsWithOrWithout records r

  undamaged : (file : List ℕ) (at : ℕ) → Same file → IsDamaged at file → ⊥
  undamaged file at (inl without) damaged = not_damaged file records at without damaged
  undamaged file at (inr with_it) damaged = not_damaged file (records ++ r ∷ []) at with_it damaged

  found : (file : List ℕ) (others : List Record) (d : State) → Same file → TellsRecords others d file → (d ≡ replay records) ⊎ (d ≡ replay (records ++ r ∷ []))
  found file others d (inl without) told = inl (told.replayed ∙ ap replay (one_journal file others records told.journal without))
  found file others d (inr with_it) told = inr (told.replayed ∙ ap replay (one_journal file others (records ++ r ∷ []) told.journal with_it))

  same : (file left : List ℕ) → Same file → IsSameJournal file left → Same left
  same file left (inl without) s = inl (subst (λ l. IsJournal l left) (one_journal file s.records records s.was without) s.is)
  same file left (inr with_it) s = inr (subst (λ l. IsJournal l left) (one_journal file s.records (records ++ r ∷ []) s.was with_it) s.is)

  again : (file : List ℕ) (t : Moments) (left : List ℕ) → StartsWith file t → Same file → StaysJournal t left → Same left
  again file t left starts is (inl may) = subst Same (sym (starts.stable left may)) is
  again file t left starts is (inr (inl now)) = subst Same (sym (now ∙ starts.same)) is
  again file t left starts is (inr (inr s)) = same file left is (subst (λ l. IsSameJournal l left) starts.same s)

  pub found_again : (file : List ℕ) (t : Moments) → StartsWith file t → Same file → IsFoundAgain records r t
  found_again file t starts is = record {
    undamaged = λ at damaged. undamaged file at is (subst (IsDamaged at) starts.same damaged);
    found = λ others d told. found file others d is (subst (TellsRecords others d) starts.same told);
    again = λ left stays. again file t left starts is stays;
  }

  -- at each moment a crash leaves of the file that was selected first only such a journal
  abbrev Leaves : List ℕ → Held → Type 0
  Leaves name held = (left : List ℕ) → MayLeave (held.files name) left → Same left

  pub left_since : (t u : Moments) (held : Held) → LeavesJournal records t → WasOnly t u (LeavesOnly Same t.now) → IsSince t u held → Leaves t.now.selected held
  left_since t u held before was since =
      member (Leaves t.now.selected) t.now held was.more since.earlier since.later (λ left may. inl (before left may)) each
      (append_cancel_left t.past (since.earlier ++ held ∷ since.later) (t.now ∷ was.more) (sym since.same ∙ was.since ∙ append_assoc t.past (t.now ∷ []) was.more))
    where
      each : All (Leaves t.now.selected) was.more
      each = λ k d within left may.
          (was.each k d within).left left (subst (λ name. MayLeave ((slice_index_or was.more k d).files name) left) (sym (was.each k d within).selected) may)

pub a_crash_is_recovered : ACrashIsRecovered
a_crash_is_recovered records r t u held left after before was since may starts =
    found_again records r left after starts (left_since records r t u held before was since left may)

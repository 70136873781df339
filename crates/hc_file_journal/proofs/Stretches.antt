-- What one call of a journal did to its disk.
use Rattle.std.proofs.Common.{ℕ, List, [], ◌∷◌, Option, Some, None, IfSome, inr, refl, sym, ◌∙◌, subst, append-nil, option_map}
use Rattle.hc_disk.specs.Disk.{Moments}
use Rattle.hc_disk.specs.Runs.{LeavesOnly, SinceThen}
use Rattle.r2_link.specs.Told.{Gains, IsKept}
use Rattle.hc_journal.specs.declared.journal.First.{First}
use Rattle.hc_log.specs.declared.record.Record.{Record}
use Rattle.hc_file_journal.specs.FileJournal.{IsWithOrWithout, LeavesJournal, kept_records}
use Rattle.hc_file_journal.specs.Since.{Ran, TriedToStore}

-- it stored a record
pub ran_stored : (before now : ℕ) (r : Record) (a b : Option Moments) → Gains (option_map (kept_records before) a) (option_map (kept_records now) b) (r ∷ [])
    → SinceThen a b (λ t held. LeavesOnly (IsWithOrWithout (kept_records before t) r) t.now held) → IfSome b (λ u. LeavesJournal (kept_records now u) u) → Ran before now None a b
ran_stored before now r None None gains was leaves = tt
ran_stored before now r None (Some u) gains was leaves = absurd was
ran_stored before now r (Some t) None gains was leaves = absurd was
ran_stored before now r (Some t) (Some u) gains was leaves = record {
  stored = r ∷ [];
  all = gains;
  last = u;
  each = (u, (record { any_moment = was; acknowledged = subst (λ (l : List Record). LeavesJournal l u) gains leaves }, refl));
  end = refl;
}

-- or tried to, and failed
pub ran_tried : (before now : ℕ) (r : Record) (cause : First) (a b : Option Moments) → IsKept (option_map (kept_records before) a) (option_map (kept_records now) b)
    → SinceThen a b (λ t held. LeavesOnly (IsWithOrWithout (kept_records before t) r) t.now held) → Ran before now (Some cause) a b
ran_tried before now r cause None None kept was = tt
ran_tried before now r cause None (Some u) kept was = absurd was
ran_tried before now r cause (Some t) None kept was = absurd was
ran_tried before now r cause (Some t) (Some u) kept was = record {
  stored = [];
  all = kept ∙ sym (append-nil (kept_records before t));
  last = t;
  each = refl;
  end = inr (r, subst (λ (l : List Record). TriedToStore l r t u) (sym (append-nil (kept_records before t))) was);
}

-- What a log keeps, as it grows and is cut.
use Rattle.std.proofs.Common.{◌≡◌, ℕ, ◌+◌, ◌-◌, ◌<◌, List, [], ◌∷◌, ◌++◌, length, take, drop, reverse, get_or, Some, None, ap, sym, ◌∙◌, refl, subst, arith, append_assoc}
use Rattle.std.specs.Prelude.{if◌then◌else◌}
use Rattle.std.specs.BTreeMap.{BTreeMap}
use Rattle.std.proofs.Math.Seq.{take-append_seam, drop-append_seam}
use Rattle.std.proofs.lemmas.List.{length_push, take_at, take_more, get_or_push, get_or-drop, reverse-append}
use Rattle.r2_base.specs.declared.rid.Rid.{Rid}
use Rattle.hc_log.specs.declared.stored.Stored.{Stored}
use Rattle.hc_log.specs.declared.row.Row.{Row}
use Rattle.hc_log.specs.declared.runs.Run.{Run}
use Rattle.hc_log.specs.declared.totals.Totals.{Totals}
use Rattle.hc_log.specs.Log.{asks_as, last_term, MayFollow, IsLog}
use Rattle.hc_log.specs.Runs.{term_in, AreRunsBefore}
use Rattle.hc_log.specs.Rows.{row_of, stored_of, entries_of}
use Rattle.hc_log.specs.Places.{told_place}
use Rattle.hc_log.specs.Totals.{totals_of, totals_with, totals_without}
use Rattle.hc_log.specs.Kept.{IsKept}
use Rattle.hc_log.proofs.Counting.{CanCount, can_count_more, CanTake, can_take_last, totals_of_more, totals_of_less, totals_of_none}
use Rattle.hc_log.proofs.Rows.{length-entries, last_term-run, entries-put, popped_entries}
use Rattle.hc_log.proofs.Logs.{FollowEach-none, IsLog-push, IsLog-take}
use Rattle.hc_log.proofs.Standing.{place_of-push, place_of-pop, told-none, place_of-none}
use Rattle.hc_log.proofs.Terms.{AreRunsBefore-none}

-- the last entry of a log may follow the others
pub last_follows : (log : List Stored) (s : Stored) → IsLog (log ++ s ∷ []) → MayFollow log s
last_follows log s is_log =
    let step = is_log (length log) s (omega (arith, length_push log s)) in
    rw (take_at log (s ∷ []) (length log) refl, get_or_push log s s (length log) refl) at step

-- of no entries
pub IsKept-none : (places : BTreeMap Rid ℕ) (totals : Totals) → places.entries ≡ [] → totals ≡ record { entries = 0; last_term = 0; requests = 0; body_bytes = 0 } → IsKept [] [] places totals
IsKept-none places totals empty none =
    record {
      formed = FollowEach-none [];
      ascend = AreRunsBefore-none 1;
      tell = λ rid. told-none places empty rid ∙ sym (place_of-none rid);
      counted = none ∙ sym totals_of_none;
    }

-- of a log with one entry more
pub IsKept-put : (log : List Stored) (s : Stored) (runs others : List Run) (places told : BTreeMap Rid ℕ) (totals counted : Totals) → IsKept log runs places totals → MayFollow log s
    → AreRunsBefore (length log + 1 + 1) others → ((rid : Rid) → told_place told rid ≡ (if asks_as rid s then Some (length log + 1) else told_place places rid)) → counted ≡ totals_with totals s
    → IsKept (log ++ s ∷ []) others told counted
IsKept-put log s runs others places told totals counted kept may are noted with =
    record {
      formed = IsLog-push log s kept.formed may;
      ascend = subst (λ n. AreRunsBefore (n + 1) others) (sym (length_push log s)) are;
      tell = λ rid. noted rid ∙ ap (λ o. if asks_as rid s then Some (length log + 1) else o) (kept.tell rid) ∙ sym (place_of-push log s rid may);
      counted = with ∙ ap (λ t. totals_with t s) kept.counted ∙ sym (totals_of_more log s);
    }

-- of a log without its last entry
pub IsKept-popped : (log : List Stored) (row : Row) (term before : ℕ) (runs left : List Run) (places told : BTreeMap Rid ℕ) (totals counted : Totals) → IsKept (log ++ stored_of term row ∷ []) runs places totals
    → AreRunsBefore (length log + 1) left → ((rid : Rid) → told_place told rid ≡ (if asks_as rid (stored_of term row) then None else told_place places rid))
    → before ≡ last_term log → counted ≡ totals_without totals row before → IsKept log left told counted
IsKept-popped log row term before runs left places told totals counted kept are forgot last without =
    let s = stored_of term row in
    let may = last_follows log s kept.formed in
    record {
      formed = (let front = IsLog-take (length log) (log ++ s ∷ []) kept.formed in rw (take_at log (s ∷ []) (length log) refl) at front);
      ascend = are;
      tell = λ rid. forgot rid ∙ ap (λ o. if asks_as rid s then None else o) (kept.tell rid) ∙ sym (place_of-pop log s rid may);
      counted = without ∙ totals_of_less log row totals term before kept.counted last;
    }

-- as many rows are kept as are counted
pub counted_rows : (runs : List Run) (rows : List Row) (places : BTreeMap Rid ℕ) (totals : Totals) → IsKept (entries_of runs rows) runs places totals → totals.entries ≡ length rows
counted_rows runs rows places totals kept = ap (λ (t : Totals). t.entries) kept.counted ∙ length-entries runs rows

-- an entry that a log may take can be counted
pub counts_one_more : (entries log : List Stored) (s : Stored) (totals : Totals) → entries ≡ log → totals ≡ totals_of entries → MayFollow log s → CanCount totals s
counts_one_more entries log s totals view counted may =
    let same : totals ≡ totals_of log = counted ∙ ap totals_of view in
    subst (λ t. CanCount t s) (sym same) (can_count_more log s may.limits)

-- what is left of a log that took an entry
pub record Put (log : List Stored) (s : Stored) (others : List Run) (more : List Row) (told : BTreeMap Rid ℕ) (counted : Totals) : Type 0 where
  pub entries : entries_of others more ≡ log ++ s ∷ []
  pub kept : IsKept (entries_of others more) others told counted

pub put_kept : (log : List Stored) (runs others : List Run) (rows more : List Row) (s : Stored) (places told : BTreeMap Rid ℕ) (totals counted : Totals)
    → entries_of runs rows ≡ log → IsKept (entries_of runs rows) runs places totals → MayFollow log s → counted ≡ totals_with totals s → more ≡ rows ++ row_of s ∷ []
    → AreRunsBefore (counted.entries + 1) others → term_in others counted.entries ≡ counted.last_term → ((i : ℕ) → i < counted.entries → term_in others i ≡ term_in runs i)
    → ((rid : Rid) → told_place told rid ≡ (if asks_as rid s then Some counted.entries else told_place places rid)) → Put log s others more told counted
put_kept log runs others rows more s places told totals counted view kept may with put are there before noted =
    let long : totals.entries ≡ length rows = counted_rows runs rows places totals kept in
    let next : counted.entries ≡ totals.entries + 1 = ap (λ (t : Totals). t.entries) with in
    let term : counted.last_term ≡ s.entry.term = ap (λ (t : Totals). t.last_term) with in
    let all = entries_of runs rows in
    let index : counted.entries ≡ length all + 1 = next ∙ ap (λ n. n + 1) (long ∙ sym (length-entries runs rows)) in
    let entries : entries_of others more ≡ all ++ s ∷ [] =
    ap (λ rs. entries_of others rs) put ∙ entries-put runs others rows s counted.entries (next ∙ ap (λ n. n + 1) long) (there ∙ term) before in
    let after : IsKept (all ++ s ∷ []) others told counted =
    IsKept-put all s runs others places told totals counted kept (subst (λ es. MayFollow es s) (sym view) may) (subst (λ n. AreRunsBefore (n + 1) others) index are)
    (subst (λ n. (rid : Rid) → told_place told rid ≡ (if asks_as rid s then Some n else told_place places rid)) index noted) with in
    record {
      entries = entries ∙ ap (λ es. es ++ s ∷ []) view;
      kept = subst (λ es. IsKept es others told counted) (sym entries) after;
    }

-- the last row can be taken from what is counted
pub can_take_popped : (runs : List Run) (rows rest : List Row) (row : Row) (places : BTreeMap Rid ℕ) (totals : Totals) → IsKept (entries_of runs rows) runs places totals
    → rows ≡ rest ++ row ∷ [] → CanTake totals row
can_take_popped runs rows rest row places totals kept whole =
    let split = popped_entries runs runs rows rest row (length rows) refl whole (λ i h. refl) in
    can_take_last (entries_of runs rest) row totals (term_in runs (length rows)) (kept.counted ∙ ap totals_of split)

-- and this is what is kept then
pub popped_kept : (runs left : List Run) (rows rest : List Row) (row : Row) (s : Stored) (places told : BTreeMap Rid ℕ) (totals counted : Totals) (before : ℕ)
    → IsKept (entries_of runs rows) runs places totals → rows ≡ rest ++ row ∷ [] → s ≡ stored_of (term_in runs totals.entries) row
    → AreRunsBefore totals.entries left → ((i : ℕ) → i < totals.entries → term_in left i ≡ term_in runs i)
    → ((rid : Rid) → told_place told rid ≡ (if asks_as rid s then None else told_place places rid))
    → before ≡ term_in left (totals.entries - 1) → counted ≡ totals_without totals row before → IsKept (entries_of left rest) left told counted
popped_kept runs left rows rest row s places told totals counted before kept whole is are same forgot term without =
    let long : totals.entries ≡ length rows = counted_rows runs rows places totals kept in
    let more : length rows ≡ length (rest ++ row ∷ []) = ap length whole in
    let split = popped_entries runs left rows rest row totals.entries long whole same in
    let index : totals.entries ≡ length (entries_of left rest) + 1 = omega (arith, long, more, length_push rest row, length-entries left rest) in
    let place : totals.entries - 1 ≡ length rest = omega (arith, long, more, length_push rest row) in
    let last : before ≡ last_term (entries_of left rest) = term ∙ ap (term_in left) place ∙ sym (last_term-run left rest totals.entries are) in
    IsKept-popped (entries_of left rest) row (term_in runs totals.entries) before runs left places told totals counted
    (subst (λ es. IsKept es runs places totals) split kept) (subst (λ n. AreRunsBefore n left) index are)
    (subst (λ x. (rid : Rid) → told_place told rid ≡ (if asks_as rid x then None else told_place places rid)) is forgot) last without

-- the entries that were taken out, the last first, after those that are left
pub popped_more : (all log left others : List Stored) (s : Stored) → log ++ reverse others ≡ all → log ≡ left ++ s ∷ [] → left ++ reverse (others ++ s ∷ []) ≡ all
popped_more all log left others s before popped =
    ap (λ xs. left ++ xs) (reverse-append others (s ∷ [])) ∙ sym (append_assoc left (s ∷ []) (reverse others))
    ∙ ap (λ xs. xs ++ reverse others) (sym popped) ∙ before

-- a list in two parts, by the length of the first
pub parted : (all front rest : List Stored) (n : ℕ) → front ++ rest ≡ all → length front ≡ n → (front ≡ take n all) × (rest ≡ drop n all)
parted all front rest n whole long = (
  sym (sym (ap (λ m. take m all) long) ∙ ap (take (length front)) (sym whole) ∙ take-append_seam front rest),
  sym (sym (ap (λ m. drop m all) long) ∙ ap (drop (length front)) (sym whole) ∙ drop-append_seam front rest),
)

-- one entry more of those from a place on
pub after_more : (log : List Stored) (keep n : ℕ) (d : Stored) → n < length (drop keep log) → take (n + 1) (drop keep log) ≡ take n (drop keep log) ++ get_or log (keep + n) d ∷ []
after_more log keep n d h =
    take_more (drop keep log) n d h ∙ ap (λ s. take n (drop keep log) ++ s ∷ []) (get_or-drop keep log n d)

-- The entries of rows and runs.
use Rattle.std.proofs.Common.{◌≡◌, ℕ, zero, suc, ◌+◌, ◌-◌, ◌<◌, ◌≤◌, List, [], ◌∷◌, ◌++◌, length, take, get_or, ap, sym, ◌∙◌, refl, arith}
use Rattle.std.specs.Prelude.{false, ◌==◌}
use Rattle.std.proofs.lemmas.List.{take_more, length_push}
use Rattle.hc_log.specs.declared.stored.Stored.{Stored}
use Rattle.hc_log.specs.declared.row.Row.{Row}
use Rattle.hc_log.specs.declared.runs.Run.{Run}
use Rattle.hc_log.specs.Log.{blank_of, stored_at, term_at, last_term}
use Rattle.hc_log.specs.Runs.{term_in, AreRunsBefore}
use Rattle.hc_log.specs.Rows.{row_of, stored_of, entries_from, entries_of}
use Rattle.hc_log.proofs.Terms.{term_in_zero}

length-from : (i : ℕ) (runs : List Run) (rows : List Row) → length (entries_from i runs rows) ≡ length rows
length-from i runs [] = refl
length-from i runs (row ∷ rows) = ap suc (length-from (suc i) runs rows)

-- the entry at a place
from_at : (i : ℕ) (runs : List Run) (rows : List Row) (k : ℕ) (e : Stored) (d : Row) → k < length rows → get_or (entries_from i runs rows) k e ≡ stored_of (term_in runs (i + k)) (get_or rows k d)
from_at i runs [] k e d h = absurd (omega arith)
from_at i runs (row ∷ rows) zero e d h =
    let here : i ≡ i + 0 = omega arith in
    ap (λ n. stored_of (term_in runs n) row) here
from_at i runs (row ∷ rows) (suc k) e d h =
    let there : suc i + k ≡ i + suc k = omega arith in
    from_at (suc i) runs rows k e d (omega arith) ∙ ap (λ n. stored_of (term_in runs n) (get_or rows k d)) there

-- one row more
from_push : (i : ℕ) (runs : List Run) (rows : List Row) (row : Row) → entries_from i runs (rows ++ row ∷ []) ≡ entries_from i runs rows ++ stored_of (term_in runs (i + length rows)) row ∷ []
from_push i runs [] row =
    let here : i ≡ i + 0 = omega arith in
    ap (λ n. stored_of (term_in runs n) row ∷ []) here
from_push i runs (first ∷ rows) row =
    let there : suc i + length rows ≡ i + suc (length rows) = omega arith in
    ap (λ es. stored_of (term_in runs i) first ∷ es)
    (from_push (suc i) runs rows row ∙ ap (λ n. entries_from (suc i) runs rows ++ stored_of (term_in runs n) row ∷ []) there)

-- the same rows, of runs that give the same terms
from_same : (i : ℕ) (runs others : List Run) (rows : List Row) → ((j : ℕ) → j < i + length rows → term_in others j ≡ term_in runs j) → entries_from i others rows ≡ entries_from i runs rows
from_same i runs others [] same = refl
from_same i runs others (row ∷ rows) same =
    let first : term_in others i ≡ term_in runs i = same i (omega arith) in
    ap (λ t. stored_of t row ∷ entries_from (suc i) others rows) first
    ∙ ap (λ es. stored_of (term_in runs i) row ∷ es) (from_same (suc i) runs others rows (λ j h. same j (omega arith)))

pub length-entries : (runs : List Run) (rows : List Row) → length (entries_of runs rows) ≡ length rows
unfolding entries_of
length-entries runs rows = length-from 1 runs rows

-- the entry at an index
pub stored_at-row : (runs : List Run) (rows : List Row) (index : ℕ) (d : Row) → 1 ≤ index → index ≤ length rows → stored_at (entries_of runs rows) index ≡ stored_of (term_in runs index) (get_or rows (index - 1) d)
unfolding entries_of
stored_at-row runs rows index d first last =
    let there : 1 + (index - 1) ≡ index = omega arith in
    from_at 1 runs rows (index - 1) (blank_of 0) d (omega arith) ∙ ap (λ n. stored_of (term_in runs n) (get_or rows (index - 1) d)) there

-- the term at an index
pub term_at-run : (runs : List Run) (rows : List Row) (index n : ℕ) → AreRunsBefore n runs → index ≤ length rows → term_at (entries_of runs rows) index ≡ term_in runs index
term_at-run runs rows zero n are last = sym (term_in_zero n runs are)
term_at-run runs rows (suc k) n are last =
    let some : (suc k == 0) ≡ false = grind arith in
    rw some (ap (λ (s : Stored). s.entry.term) (stored_at-row runs rows (suc k) (row_of (blank_of 0)) (omega arith) last))

-- an index of the entries is one of the rows
pub within_rows : (runs : List Run) (rows : List Row) (log : List Stored) (index : ℕ) → entries_of runs rows ≡ log → index ≤ length log → index ≤ length rows
within_rows runs rows log index view h =
    let long : length (entries_of runs rows) ≡ length log = ap length view in
    omega (arith, long, length-entries runs rows)

-- the entry of a row that was read
pub read_row : (runs : List Run) (rows : List Row) (log : List Stored) (index : ℕ) (row : Row) → entries_of runs rows ≡ log → 1 ≤ index → index ≤ length log
    → row ≡ get_or rows (index - 1) row → stored_at log index ≡ stored_of (term_in runs index) row
read_row runs rows log index row view first last read =
    ap (λ es. stored_at es index) (sym view)
    ∙ stored_at-row runs rows index row first (within_rows runs rows log index view last)
    ∙ ap (λ r. stored_of (term_in runs index) r) (sym read)

-- the term that was read
pub read_term : (runs : List Run) (rows : List Row) (log : List Stored) (index n : ℕ) → entries_of runs rows ≡ log → AreRunsBefore n runs → index ≤ length log
    → term_at log index ≡ term_in runs index
read_term runs rows log index n view are last =
    ap (λ es. term_at es index) (sym view) ∙ term_at-run runs rows index n are (within_rows runs rows log index view last)

-- the term of the last entry
pub last_term-run : (runs : List Run) (rows : List Row) (n : ℕ) → AreRunsBefore n runs → last_term (entries_of runs rows) ≡ term_in runs (length rows)
last_term-run runs rows n are =
    ap (term_at (entries_of runs rows)) (length-entries runs rows) ∙ term_at-run runs rows (length rows) n are (omega arith)

-- no rows are no entries
pub entries-none : (runs : List Run) → entries_of runs [] ≡ []
unfolding entries_of
entries-none runs = refl

-- an entry put after the others, whose term the runs then give
pub entries-put : (runs others : List Run) (rows : List Row) (s : Stored) (index : ℕ) → index ≡ length rows + 1 → term_in others index ≡ s.entry.term
    → ((i : ℕ) → i < index → term_in others i ≡ term_in runs i) → entries_of others (rows ++ row_of s ∷ []) ≡ entries_of runs rows ++ s ∷ []
unfolding entries_of
entries-put runs others rows s index last there before =
    let term : term_in others (1 + length rows) ≡ s.entry.term = ap (term_in others) (omega (arith, last)) ∙ there in
    from_push 1 others rows (row_of s)
    ∙ ap (λ es. es ++ stored_of (term_in others (1 + length rows)) (row_of s) ∷ []) (from_same 1 runs others rows (λ j h. before j (omega (arith, last, h))))
    ∙ ap (λ t. entries_from 1 runs rows ++ stored_of t (row_of s) ∷ []) term

-- the last entry taken out
pub entries-popped : (runs left : List Run) (rows : List Row) (row : Row) (index : ℕ) → index ≡ length rows + 1 → ((i : ℕ) → i < index → term_in left i ≡ term_in runs i)
    → entries_of runs (rows ++ row ∷ []) ≡ entries_of left rows ++ stored_of (term_in runs index) row ∷ []
unfolding entries_of
entries-popped runs left rows row index last before =
    let there : 1 + length rows ≡ index = omega (arith, last) in
    from_push 1 runs rows row
    ∙ ap (λ n. entries_from 1 runs rows ++ stored_of (term_in runs n) row ∷ []) there
    ∙ ap (λ es. es ++ stored_of (term_in runs index) row ∷ []) (sym (from_same 1 runs left rows (λ j h. before j (omega (arith, last, h)))))

-- and taken out of the rows, where the runs that are left give the same terms before it
pub popped_entries : (runs left : List Run) (rows rest : List Row) (row : Row) (index : ℕ) → index ≡ length rows → rows ≡ rest ++ row ∷ []
    → ((i : ℕ) → i < index → term_in left i ≡ term_in runs i) → entries_of runs rows ≡ entries_of left rest ++ stored_of (term_in runs index) row ∷ []
popped_entries runs left rows rest row index long whole same =
    let more : length rows ≡ length (rest ++ row ∷ []) = ap length whole in
    ap (λ rs. entries_of runs rs) whole ∙ entries-popped runs left rest row index (omega (arith, long, more, length_push rest row)) same

-- the first entries are those before the last of them, and it
pub first_rows : (runs : List Run) (rows : List Row) (log : List Stored) (count before : ℕ) (row : Row) → entries_of runs rows ≡ log → count ≡ before + 1 → count ≤ length log
    → row ≡ get_or rows before row → take count log ≡ take before log ++ stored_of (term_in runs (before + 1)) row ∷ []
first_rows runs rows log count before row view next within read =
    let place : before + 1 - 1 ≡ before = omega arith in
    let there : stored_at log (before + 1) ≡ stored_of (term_in runs (before + 1)) row =
    read_row runs rows log (before + 1) row view (omega arith) (omega (arith, next, within)) (read ∙ ap (λ i. get_or rows i row) (sym place)) in
    let same : get_or log before (blank_of 0) ≡ stored_at log (before + 1) = ap (λ i. get_or log i (blank_of 0)) (sym place) in
    ap (λ n. take n log) next
    ∙ take_more log before (blank_of 0) (omega (arith, next, within))
    ∙ ap (λ s. take before log ++ s ∷ []) (same ∙ there)

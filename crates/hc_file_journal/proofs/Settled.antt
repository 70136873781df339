-- A journal at rest: its records, and what a crash leaves of it.
use Rattle.std.proofs.Common.{◌≡◌, ◌≢◌, inl, inr, ℕ, ◌+◌, List, [], ◌∷◌, ◌++◌, length, get_or, take, All, sym, ap, ◌∙◌, subst, arith, length-append, length-take}
use Rattle.std.proofs.lemmas.Bool.{cases_eq}
use Rattle.std.proofs.lemmas.List.{drop_all, get_or_at, take_at}
use Rattle.std.proofs.lemmas.List.Elements.{All-push}
use Rattle.hc_disk.specs.Disk.{MayLeave, Moments, now_content, selected_file}
use Rattle.hc_disk.proofs.Torn.{split_at_byte}
use Rattle.hc_log.specs.declared.record.Record.{Record}
use Rattle.hc_log.specs.Durable.{replay, IsHistory, IsNext}
use Rattle.hc_log.proofs.Replays.{IsHistory-push}
use Rattle.hc_file_journal.specs.File.{HasRow, ReadsBack, framed, open_gate, records_of, row}
use Rattle.hc_file_journal.specs.FileJournal.{IsSettled, IsWithOrWithout, LeavesJournal, kept_records}
use Rattle.hc_file_journal.specs.Stored.{HasStored, StoresOnly}
use Rattle.hc_file_journal.proofs.Rows.{records_of-row, row-push, shorts}

-- a stable file of a row of records with a closed gate after it
pub record Rests (end : ℕ) (records : List Record) (u : Moments) : Type 0 where
  pub settled : IsSettled end u
  pub same : kept_records end u ≡ records

pub rests : (records : List Record) (u : Moments) (end gate : ℕ) → now_content u ≡ row records ++ gate ∷ [] → gate ≢ open_gate → length (row records) ≡ end
    → IsHistory records → All ReadsBack records → ((left : List ℕ) → MayLeave (selected_file u.now) left → left ≡ now_content u) → Rests end records u
rests records u end gate is closed size history read stable =
    let front : take end (now_content u) ≡ row records = ap (take end) is ∙ take_at (row records) (gate ∷ []) end size in
    let kept : kept_records end u ≡ records = ap records_of front ∙ records_of-row records (shorts records history) read in
    let byte : get_or (now_content u) end 0 ≡ gate = ap (λ (l : List ℕ). get_or l end 0) is ∙ get_or_at (row records) gate [] 0 end size in
    record {
      settled = record {
        rest = record {
          long = ap length is ∙ omega (arith, length-append (row records) (gate ∷ []), size);
          closed = λ e. closed (sym byte ∙ e);
          stable = stable;
        };
        same = front ∙ ap row (sym kept);
        history = subst IsHistory (sym kept) history;
        read = subst (λ l. All ReadsBack l) (sym kept) read;
      };
      same = kept;
    }

-- what a read gives of it
pub content_is : (end : ℕ) (u : Moments) → IsSettled end u → now_content u ≡ row (kept_records end u) ++ get_or (now_content u) end 0 ∷ []
content_is end u s =
    split_at_byte end (now_content u) (omega (arith, s.rest.long))
    ∙ ap (λ (l : List ℕ). take end (now_content u) ++ get_or (now_content u) end 0 ∷ l) (drop_all (end + 1) (now_content u) (omega (arith, s.rest.long)))
    ∙ ap (λ (l : List ℕ). l ++ get_or (now_content u) end 0 ∷ []) s.same

pub has_row : (end : ℕ) (u : Moments) → IsSettled end u → HasRow (kept_records end u) (now_content u)
has_row end u s = record {
  history = s.history;
  read = s.read;
  gate = get_or (now_content u) end 0;
  closed = s.rest.closed;
  rest = [];
  same = content_is end u s;
}

-- each crash leaves the journal of these records
pub leaves_journal : (end : ℕ) (u : Moments) → IsSettled end u → LeavesJournal (kept_records end u) u
leaves_journal end u s left may = inr (subst (HasRow (kept_records end u)) (sym (s.rest.stable left may)) (has_row end u s))

pub length_row : (end : ℕ) (t : Moments) → IsSettled end t → length (row (kept_records end t)) ≡ end
length_row end t s = ap length (sym s.same) ∙ omega (arith, length-take end (now_content t), s.rest.long)

-- a record that is stored after them
module _ (end : ℕ) (t : Moments) (r : Record) (s : IsSettled end t) (next : IsNext (replay (kept_records end t)) r) (reads : ReadsBack r) where
  abbrev kept : List Record
  kept = kept_records end t

  -- with a closed gate after them, whatever comes then
  without : (gate : ℕ) (rest left : List ℕ) → gate ≢ open_gate → left ≡ take end (now_content t) ++ gate ∷ rest → HasRow kept left
  without gate rest left closed is = record {
    history = s.history;
    read = s.read;
    gate = gate;
    closed = closed;
    rest = rest;
    same = is ∙ ap (λ (l : List ℕ). l ++ gate ∷ rest) s.same;
  }

  with_record : (left : List ℕ) → left ≡ take end (now_content t) ++ open_gate ∷ (framed r ++ 0 ∷ []) → left ≡ row (kept ++ r ∷ []) ++ 0 ∷ []
  with_record left is = is ∙ ap (λ (l : List ℕ). l ++ open_gate ∷ (framed r ++ 0 ∷ [])) s.same ∙ sym (row-push kept r (0 ∷ []))

  zero_closed : 0 ≢ open_gate
  zero_closed e = omega (arith, e)

  pub with_or_without : (left : List ℕ) → StoresOnly end (framed r ++ 0 ∷ []) t left → IsWithOrWithout kept r left
  with_or_without left (inl shut) = inl (inr (without shut.gate shut.rest left shut.closed shut.same))
  with_or_without left (inr piece) = elim (cases_eq piece.gate open_gate) [
    | inl is ↦ inr (inr (record {
      history = IsHistory-push kept r s.history next;
      read = All-push ReadsBack kept r s.read reads;
      gate = 0;
      closed = zero_closed;
      rest = [];
      same = with_record left (piece.same ∙ ap (λ (g : ℕ). take end (now_content t) ++ g ∷ (framed r ++ 0 ∷ [])) is);
    }))
    | inr other ↦ inl (inr (without piece.gate (framed r ++ 0 ∷ []) left other piece.same))
  ]

  pub rests_again : (u : Moments) (n : ℕ) → HasStored end (framed r ++ 0 ∷ []) t u → n ≡ end + length (framed r ++ 0 ∷ []) → Rests n (kept ++ r ∷ []) u
  rests_again u n stored is =
      let content : now_content u ≡ row (kept ++ r ∷ []) ++ 0 ∷ [] = with_record (now_content u) stored.same in
      let front : length (take end (now_content t)) ≡ end = omega (arith, length-take end (now_content t), s.rest.long) in
      rests (kept ++ r ∷ []) u n 0 content zero_closed
      (omega (arith, is, front, ap length content, ap length stored.same, length-append (row (kept ++ r ∷ [])) (0 ∷ []), length-append (take end (now_content t)) (open_gate ∷ (framed r ++ 0 ∷ []))))
      (IsHistory-push kept r s.history next) (All-push ReadsBack kept r s.read reads) stored.stable

-- The reading of a row, record by record.
use Rattle.std.proofs.Common.{◌≡◌, ℕ, ◌-◌, ◌<◌, ◌≤◌, List, [], ◌∷◌, ◌++◌, length, get_or, take, drop, refl, sym, ap, ◌∙◌, subst, arith, length-append, length-drop}
use Rattle.std.proofs.lemmas.List.{drop_more, take_all}
use Rattle.std.proofs.lemmas.List.Elements.{All-nil, All-push}
use Rattle.hc_log.specs.declared.record.Record.{Record}
use Rattle.hc_log.specs.Durable.{State, after, begun, replay, IsNext}
use Rattle.hc_log.proofs.Replays.{IsHistory-push, history_none, replay_none, replay_push}
use Rattle.hc_file_journal.specs.File.{IsDamaged, ReadsBack, framed, open_gate, row}
use Rattle.hc_file_journal.specs.RowReading.{HasNoNext, IsRead, TookRecord}
use Rattle.hc_file_journal.proofs.Rows.{row-push}

pub read_none : (bytes : List ℕ) (d : State) → d ≡ begun → IsRead bytes bytes d
read_none bytes d is = record {
  records = [];
  history = history_none;
  read = All-nil ReadsBack;
  same = refl;
  leads = is ∙ sym replay_none;
}

pub read_more : (bytes rest after_gate more : List ℕ) (gate : ℕ) (d e : State) → IsRead bytes rest d → rest ≡ gate ∷ after_gate → gate ≡ open_gate → TookRecord after_gate more d e → IsRead bytes more e
read_more bytes rest after_gate more gate d e was is opened took =
    let next : IsNext (replay was.records) took.taken = subst (λ x. IsNext x took.taken) was.leads took.next in
    record {
      records = was.records ++ took.taken ∷ [];
      history = IsHistory-push was.records took.taken was.history next;
      read = All-push ReadsBack was.records took.taken was.read took.read;
      same = was.same
          ∙ ap (λ (l : List ℕ). row was.records ++ l) (is ∙ ap (λ (g : ℕ). g ∷ after_gate) opened ∙ ap (λ (l : List ℕ). open_gate ∷ l) took.same)
          ∙ sym (row-push was.records took.taken more);
      leads = took.leads ∙ ap (λ x. after x took.taken) was.leads ∙ sym (replay_push was.records took.taken);
    }

-- one record more, of bytes whose first gate is open
pub read_on : (bytes rest more : List ℕ) (d e : State) → 1 ≤ length rest → get_or rest 0 0 ≡ open_gate → IsRead bytes rest d → TookRecord (take (length rest - 1) (drop 1 rest)) more d e → IsRead bytes more e
read_on bytes rest more d e some opened was took =
    let all : take (length rest - 1) (drop 1 rest) ≡ drop 1 rest = take_all (length rest - 1) (drop 1 rest) (omega (arith, length-drop 1 rest)) in
    read_more bytes rest (take (length rest - 1) (drop 1 rest)) more (get_or rest 0 0) d e was (drop_more rest 0 0 some ∙ ap (λ (l : List ℕ). get_or rest 0 0 ∷ l) (sym all)) opened took

pub no_longer : (bytes rest : List ℕ) (d : State) → IsRead bytes rest d → length rest ≤ length bytes
no_longer bytes rest d was = omega (arith, ap length was.same, length-append (row was.records) rest)

place_of : (bytes rest : List ℕ) (records : List Record) → bytes ≡ row records ++ rest → length bytes - length rest ≡ length (row records)
place_of bytes rest records same = omega (arith, ap length same, length-append (row records) rest)

pub no_gate : (bytes rest : List ℕ) (d : State) (at : ℕ) → 1 < length bytes → IsRead bytes rest d → rest ≡ [] → at ≡ length bytes - length rest → IsDamaged at bytes
no_gate bytes rest d at long was none is = record {
  long = long;
  records = was.records;
  history = was.history;
  read = was.read;
  rest = rest;
  same = was.same;
  place = is ∙ place_of bytes rest was.records was.same;
  wrong = record { no_gate = λ gate after e. absurd cc; no_record = λ r after next reads e. absurd cc };
}

pub no_record : (bytes rest after_gate : List ℕ) (gate : ℕ) (d : State) (at : ℕ) → 1 < length bytes → IsRead bytes rest d → rest ≡ gate ∷ after_gate → gate ≡ open_gate → HasNoNext d after_gate → at ≡ length bytes - length rest
    → IsDamaged at bytes
no_record bytes rest after_gate gate d at long was here opened none is = record {
  long = long;
  records = was.records;
  history = was.history;
  read = was.read;
  rest = rest;
  same = was.same;
  place = is ∙ place_of bytes rest was.records was.same;
  wrong = record {
    no_gate = λ other more e. first other gate more after_gate (sym e ∙ here) ∙ opened;
    no_record = λ r more next reads e. none r more (subst (λ x. IsNext x r) (sym was.leads) next) reads (second open_gate gate (framed r ++ more) after_gate (sym e ∙ here));
  };
}
  where
    first : (a b : ℕ) (x y : List ℕ) → a ∷ x ≡ b ∷ y → a ≡ b
    first a b x y e = cc

    second : (a b : ℕ) (x y : List ℕ) → a ∷ x ≡ b ∷ y → y ≡ x
    second a b x y e = cc

-- Rows of records: their records are read back, and no file is a journal in two ways.
use Rattle.std.proofs.Common.{◌≡◌, ◌≢◌, inl, inr, ℕ, zero, suc, ◌+◌, ◌<◌, ◌≤◌, ◌^◌, false, nat_lt, List, [], ◌∷◌, ◌++◌, length, take, drop, All, Some, Ok, refl, sym, ap, ◌∙◌, subst, arith, append_assoc, length-append}
use Rattle.std.proofs.lemmas.List.{append-nil, drop_at, get_or_at, take_at}
use Rattle.std.proofs.lemmas.List.Elements.{All-head, All-tail}
use Rattle.std.proofs.lemmas.Bool.Decides.{nat_tests}
use Rattle.r2_base.specs.Numbers.{u32_bytes}
use Rattle.r2_base.proofs.NumberBytes.{length-u32_bytes, wide32, wide-again}
use Rattle.hc_log.specs.declared.record.Record.{Record}
use Rattle.hc_log.specs.Durable.{State, replay, IsHistory, IsNext}
use Rattle.hc_log.specs.Ranges.{IsInRange}
use Rattle.hc_journal.specs.Record.{record_bytes}
use Rattle.hc_journal.specs.RecordReading.{decode_record}
use Rattle.hc_file_journal.specs.File.{HasRow, IsDamaged, IsJournal, IsWrong, ReadsBack, framed, open_gate, record_front, records_of, records_within, row, u32_at, with_more}
use Rattle.hc_file_journal.specs.RowReading.{EndsRow}
use Rattle.hc_journal.proofs.RecordLaws.{records_are_short}

-- a record whose length has four bytes
abbrev pub IsShort : Record → Type 0
IsShort r = length (record_bytes r) < 2 ^ 32

pub short_in_range : (r : Record) → IsInRange r → IsShort r
short_in_range r is = omega (arith, records_are_short r is)

pub shorts : (records : List Record) → IsHistory records → All IsShort records
shorts records history = λ i r within. short_in_range _ (history i r within).in_range

-- a length, and so many bytes that read as a record
found : (bytes : List ℕ) (n : ℕ) (body rest : List ℕ) (r : Record) → u32_at bytes ≡ n → 4 + n ≤ length bytes → take n (drop 4 bytes) ≡ body → drop (4 + n) bytes ≡ rest
    → decode_record body ≡ Ok r → record_front bytes ≡ Some (r, rest)
unfolding record_front
found bytes n body rest r number long taken dropped reads =
    let test : nat_lt (length bytes) (4 + u32_at bytes) ≡ false = grind (arith, nat_tests) in
    rw (test, number, dropped, taken, reads) refl

-- what is first after the gate of a record in a row is that record
pub front_found : (r : Record) (rest : List ℕ) → IsShort r → ReadsBack r → record_front (framed r ++ rest) ≡ Some (r, rest)
unfolding framed
front_found r rest short reads =
    let n = length (record_bytes r) in
    let bytes = (u32_bytes n ++ record_bytes r) ++ rest in
    let split : bytes ≡ u32_bytes n ++ (record_bytes r ++ rest) = append_assoc (u32_bytes n) (record_bytes r) rest in
    let body : drop 4 bytes ≡ record_bytes r ++ rest = ap (drop 4) split ∙ drop_at (u32_bytes n) (record_bytes r ++ rest) 4 (length-u32_bytes n) in
    let front : length (u32_bytes n ++ record_bytes r) ≡ 4 + n = omega (arith, length-append (u32_bytes n) (record_bytes r), length-u32_bytes n) in
    found bytes n (record_bytes r) rest r
    (ap u32_at split ∙ wide-again 4 (2 ^ 32) u32_bytes wide32 n (record_bytes r ++ rest) short)
    (omega (arith, length-append (u32_bytes n ++ record_bytes r) rest, front))
    (ap (take n) body ∙ take_at (record_bytes r) rest n refl)
    (drop_at (u32_bytes n ++ record_bytes r) rest (4 + n) front)
    reads

records-within : (n : ℕ) (records : List Record) → All IsShort records → All ReadsBack records → length (row records) ≤ n → records_within n (row records) ≡ records
records-within zero [] short reads within = refl
records-within (suc n) [] short reads within = refl
records-within zero (r ∷ records) short reads within = absurd (omega arith)
records-within (suc n) (r ∷ records) short reads within =
    ap (with_more (records_within n)) (front_found r (row records) (All-head IsShort r records short) (All-head ReadsBack r records reads))
    ∙ ap (λ (l : List Record). r ∷ l)
    (records-within n records (All-tail IsShort r records short) (All-tail ReadsBack r records reads) (omega (arith, length-append (framed r) (row records))))

-- the records of a row are those of which it is one
pub records_of-row : (records : List Record) → All IsShort records → All ReadsBack records → records_of (row records) ≡ records
unfolding records_of
records_of-row records short reads = records-within (length (row records)) records short reads (omega arith)

pub row-append : (records more : List Record) → row (records ++ more) ≡ row records ++ row more
row-append [] more = refl
row-append (r ∷ records) more =
    ap (λ (l : List ℕ). open_gate ∷ (framed r ++ l)) (row-append records more)
    ∙ ap (λ (l : List ℕ). open_gate ∷ l) (sym (append_assoc (framed r) (row records) (row more)))

-- one more record
pub row-push : (records : List Record) (r : Record) (rest : List ℕ) → row (records ++ r ∷ []) ++ rest ≡ row records ++ open_gate ∷ (framed r ++ rest)
row-push records r rest =
    ap (λ (l : List ℕ). l ++ rest) (row-append records (r ∷ []))
    ∙ append_assoc (row records) (open_gate ∷ (framed r ++ [])) rest
    ∙ ap (λ (l : List ℕ). row records ++ open_gate ∷ (l ++ rest)) (append-nil (framed r))

some_same : (a b : Record × List ℕ) → Some a ≡ Some b → a ≡ b
some_same a b same = cc

-- two rows that begin with a record begin with the same one
pub same_first : (r o : Record) (x y : List ℕ) → IsShort r → ReadsBack r → IsShort o → ReadsBack o → framed r ++ x ≡ framed o ++ y → (r ≡ o) × (x ≡ y)
same_first r o x y short reads short-o reads-o same =
    let both : (r, x) ≡ (o, y) = some_same (r, x) (o, y) (sym (front_found r x short reads) ∙ ap record_front same ∙ front_found o y short-o reads-o) in
    (ap (λ (p : Record × List ℕ). p.0) both, ap (λ (p : Record × List ℕ). p.1) both)

tail_same : (g h : ℕ) (x y : List ℕ) → g ∷ x ≡ h ∷ y → (g ≡ h) × (x ≡ y)
tail_same g h x y same = (cc, cc)

one_row : (rs os : List Record) (g h : ℕ) (x y : List ℕ) → All IsShort rs → All ReadsBack rs → All IsShort os → All ReadsBack os → g ≢ open_gate → h ≢ open_gate
    → row rs ++ g ∷ x ≡ row os ++ h ∷ y → rs ≡ os
one_row [] [] g h x y sr rr so ro cg ch same = refl
one_row [] (o ∷ os) g h x y sr rr so ro cg ch same = absurd (cg (tail_same g open_gate x ((framed o ++ row os) ++ h ∷ y) same).0)
one_row (r ∷ rs) [] g h x y sr rr so ro cg ch same = absurd (ch (sym (tail_same open_gate h ((framed r ++ row rs) ++ g ∷ x) y same).0))
one_row (r ∷ rs) (o ∷ os) g h x y sr rr so ro cg ch same =
    let behind = (tail_same open_gate open_gate ((framed r ++ row rs) ++ g ∷ x) ((framed o ++ row os) ++ h ∷ y) same).1 in
    let parts = same_first r o (row rs ++ g ∷ x) (row os ++ h ∷ y) (All-head IsShort r rs sr) (All-head ReadsBack r rs rr) (All-head IsShort o os so) (All-head ReadsBack o os ro)
    (sym (append_assoc (framed r) (row rs) (g ∷ x)) ∙ behind ∙ append_assoc (framed o) (row os) (h ∷ y)) in
    let rest : rs ≡ os = one_row rs os g h x y (All-tail IsShort r rs sr) (All-tail ReadsBack r rs rr) (All-tail IsShort o os so) (All-tail ReadsBack o os ro) cg ch parts.1 in
    cc (parts.0, rest)

at_least : (o : Record) → 4 ≤ length (framed o)
unfolding framed
at_least o =
    omega (arith, length-append (u32_bytes (length (record_bytes o))) (record_bytes o), length-u32_bytes (length (record_bytes o)))

long_row : (records : List Record) (r : Record) (rest : List ℕ) → 1 < length (row (r ∷ records) ++ rest)
long_row records r rest =
    omega (arith, length-append (framed r ++ row records) rest, length-append (framed r) (row records), at_least r)

few : (file : List ℕ) (os : List Record) → length file ≤ 1 → HasRow os file → os ≡ []
few file [] short has = refl
few file (o ∷ os) short has = absurd (omega (arith, long_row os o (has.gate ∷ has.rest), ap length has.same))

-- a file is the journal of one list of records
pub one_journal : (file : List ℕ) (rs os : List Record) → IsJournal rs file → IsJournal os file → rs ≡ os
one_journal file rs os (inl a) (inl b) = a.1 ∙ sym b.1
one_journal file rs os (inl a) (inr b) = a.1 ∙ sym (few file os a.0 b)
one_journal file rs os (inr a) (inl b) = few file rs b.0 a ∙ sym b.1
one_journal file rs os (inr a) (inr b) =
    one_row rs os a.gate b.gate a.rest b.rest (shorts rs a.history) a.read (shorts os b.history) b.read a.closed b.closed (sym a.same ∙ b.same)

-- a file of at most one byte has none
pub few_records : (file : List ℕ) (records : List Record) → length file ≤ 1 → IsJournal records file → records ≡ []
few_records file records short journal = one_journal file records [] journal (inl (short, refl))

-- and one that was read as a row has these
pub one_row_ends : (records : List Record) (end : ℕ) (d : State) (file : List ℕ) (ends : EndsRow end d file) → IsJournal records file → records ≡ ends.reads.records
one_row_ends records end d file ends journal = one_journal file records ends.reads.records journal (inr (record {
  history = ends.reads.history;
  read = ends.reads.read;
  gate = ends.gate;
  closed = ends.closed;
  rest = ends.rest;
  same = ends.reads.same;
}))

-- the record after the first ones may be the next one
next_of : (done rs : List Record) (r : Record) → IsHistory (done ++ r ∷ rs) → IsNext (replay done) r
next_of done rs r history =
    let here = history (length done) r (omega (arith, length-append done (r ∷ rs))) in
    subst (λ l. IsNext (replay l) r) (take_at done (r ∷ rs) (length done) refl)
    (subst (λ q. IsNext (replay (take (length done) (done ++ r ∷ rs))) q) (get_or_at done r rs r (length done) refl) here)

not_wrong : (done rs os : List Record) (g : ℕ) (x tail : List ℕ) → IsHistory (done ++ rs) → All IsShort rs → All ReadsBack rs → All IsShort os → All ReadsBack os → g ≢ open_gate
    → IsWrong (done ++ os) tail → row rs ++ g ∷ x ≡ row os ++ tail → ⊥
not_wrong done [] [] g x tail history sr rr so ro cg wrong same = cg (wrong.no_gate g x (sym same))
not_wrong done (r ∷ rs) [] g x tail history sr rr so ro cg wrong same =
    wrong.no_record r (row rs ++ g ∷ x) (subst (λ l. IsNext (replay l) r) (sym (append-nil done)) (next_of done rs r history)) (All-head ReadsBack r rs rr)
    (sym same ∙ ap (λ (l : List ℕ). open_gate ∷ l) (append_assoc (framed r) (row rs) (g ∷ x)))
not_wrong done [] (o ∷ os) g x tail history sr rr so ro cg wrong same = cg (tail_same g open_gate x ((framed o ++ row os) ++ tail) same).0
not_wrong done (r ∷ rs) (o ∷ os) g x tail history sr rr so ro cg wrong same =
    let behind = (tail_same open_gate open_gate ((framed r ++ row rs) ++ g ∷ x) ((framed o ++ row os) ++ tail) same).1 in
    let parts = same_first r o (row rs ++ g ∷ x) (row os ++ tail) (All-head IsShort r rs sr) (All-head ReadsBack r rs rr) (All-head IsShort o os so) (All-head ReadsBack o os ro)
    (sym (append_assoc (framed r) (row rs) (g ∷ x)) ∙ behind ∙ append_assoc (framed o) (row os) tail) in
    not_wrong (done ++ r ∷ []) rs os g x tail (subst IsHistory (sym (append_assoc done (r ∷ []) rs)) history) (All-tail IsShort r rs sr) (All-tail ReadsBack r rs rr) (All-tail IsShort o os so)
    (All-tail ReadsBack o os ro) cg
    (subst (λ l. IsWrong l tail) (ap (λ (q : Record). done ++ q ∷ os) (sym parts.0) ∙ sym (append_assoc done (r ∷ []) os)) wrong) parts.1

-- a journal isn't damaged
pub not_damaged : (file : List ℕ) (records : List Record) (at : ℕ) → IsJournal records file → IsDamaged at file → ⊥
not_damaged file records at (inl few) damaged = omega (arith, few.0, damaged.long)
not_damaged file records at (inr has) damaged =
    not_wrong [] records damaged.records has.gate has.rest damaged.rest has.history (shorts records has.history) has.read (shorts damaged.records damaged.history) damaged.read has.closed
    damaged.wrong (sym has.same ∙ damaged.same)

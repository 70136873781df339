-- What the fields of a record read as is encoded so, and what is encoded so is read again.
use Rattle.std.proofs.Common.{◌≡◌, ℕ, zero, suc, ◌≤◌, inl, inr, false, cond, leb, ltb, eqb, List, [], ◌∷◌, ◌++◌, length, take, drop, Option, Some, None, Ok, Err, refl, sym, ap, subst, ◌∙◌, append_assoc, arith}
use Rattle.std.specs.Prelude.{IfSome}
use Rattle.std.specs.List.{flat_map, AllByRecursion}
use Rattle.std.proofs.lemmas.Bool.{eqb-true, le-leb, le-ltb, leb-true, ltb-false}
use Rattle.std.proofs.lemmas.List.{drop_at, length-append, length-take, nil_from_length, take-append-drop, take_at}
use Rattle.std.proofs.lemmas.List.Concat.{flat_map-cons}
use Rattle.std.proofs.lemmas.List.Elements.{All-from_recursion, recursion_from_All}
use Rattle.r2_base.specs.declared.entry.Kind.{Kind}
use Rattle.r2_base.specs.declared.entry.Kind.TheVariants.{Blank, Write, Read}
use Rattle.r2_base.specs.Numbers.{u16_bytes, u64_bytes, AreBytes}
use Rattle.hc_message.specs.declared.field_fault.FieldFault.TheVariants as field
use Rattle.r2_base.specs.Limits.{greatest_member, greatest_number, most_entries}
use Rattle.r2_base.specs.Limits as limits
use Rattle.hc_message.specs.Entry.{narrow_entry_bytes}
use Rattle.r2_base.specs.Names.{FitsRid}
use Rattle.hc_message.proofs.Takes.{AreBytes-drop, Takes, Takes-both, Takes-behind, bind_ok, bind_then, guard_ok, ok_is}
use Rattle.hc_message.proofs.Taken.{chosen}
use Rattle.hc_message.proofs.Numbers.{u16_again, u16_takes}
use Rattle.hc_message.proofs.FieldLaws.{IsWithin, byte_takes, entry_again, entry_takes, number_again, number_takes, small_again, small_takes, within_again, within_ok}
use Rattle.hc_log.specs.declared.record.Record.{Record}
use Rattle.hc_log.specs.declared.stored.Stored.{Stored}
use Rattle.hc_log.specs.Ranges.{FitsKind, IsInRange, IsStored}
use Rattle.hc_journal.specs.Record.{head_bytes, no_vote, record_bytes, stored_bytes, record_version_1, vote_number}
use Rattle.hc_journal.specs.RecordLaws.{FitsRecord}
use Rattle.hc_journal.specs.declared.record_head.RecordHead.{RecordHead}
use Rattle.hc_journal.specs.RecordReading.{front_head, record_with, front_body, front_bytes, front_entries, front_fields, most_body_of, front_stored, front_vote}

-- ---- a vote

abbrev IsVote : Option ℕ → Type 0
IsVote vote = IfSome vote (λ member. member ≤ greatest_member)

vote_read : (n : ℕ) (rest : List ℕ) (x : Option ℕ × List ℕ) → cond (eqb n no_vote) (Ok (None, rest)) (cond (leb n greatest_member) (Ok (Some n, rest)) (Err field.Range)) ≡ Ok x → (vote_number x.0 ≡ n) × (rest ≡ x.1) × IsVote x.0
vote_read n rest x e =
    elim (chosen (eqb n no_vote) (Ok (None, rest)) (cond (leb n greatest_member) (Ok (Some n, rest)) (Err field.Range)) (Ok x) e) [
      | inl none ↦
          let same = ok_is (None, rest) x none.1 in
          subst (λ (y : Option ℕ × List ℕ). (vote_number y.0 ≡ n) × (rest ≡ y.1) × IsVote y.0) same (sym (eqb-true n no_vote none.0), refl, tt)
      | inr some ↦
          elim (chosen (leb n greatest_member) (Ok (Some n, rest)) (Err field.Range) (Ok x) some.1) [
            | inl member ↦
                let same = ok_is (Some n, rest) x member.1 in
                subst (λ (y : Option ℕ × List ℕ). (vote_number y.0 ≡ n) × (rest ≡ y.1) × IsVote y.0) same (refl, refl, leb-true n greatest_member member.0)
            | inr other ↦ absurd cc
          ]
    ]

pub vote_takes : (bytes : List ℕ) (x : Option ℕ × List ℕ) → AreBytes bytes → front_vote bytes ≡ Ok x → Takes bytes (vote_number x.0 ∷ []) x.1 × IsVote x.0
unfolding front_vote
vote_takes bytes x are e =
    let a = bind_ok _ _ _ e in
    let t = byte_takes bytes a.0 are a.1 in
    let v = vote_read a.0.0 a.0.1 x a.2 in
    let behind : Takes bytes (a.0.0 ∷ []) x.1 = subst (λ (rest : List ℕ). Takes bytes (a.0.0 ∷ []) rest) v.1 t in
    (subst (λ (n : ℕ). Takes bytes (n ∷ []) x.1) (sym v.0) behind, v.2)

vote_number-some : (n : ℕ) → n ≤ 6 → eqb n no_vote ≡ false
vote_number-some zero h = refl
vote_number-some (suc zero) h = refl
vote_number-some (suc (suc zero)) h = refl
vote_number-some (suc (suc (suc zero))) h = refl
vote_number-some (suc (suc (suc (suc zero)))) h = refl
vote_number-some (suc (suc (suc (suc (suc zero))))) h = refl
vote_number-some (suc (suc (suc (suc (suc (suc zero)))))) h = refl
vote_number-some (suc (suc (suc (suc (suc (suc (suc n))))))) h = absurd (omega arith)

pub vote_again : (vote : Option ℕ) (rest : List ℕ) → IsVote vote → front_vote (vote_number vote ∷ rest) ≡ Ok (vote, rest)
unfolding front_vote
vote_again None rest is = refl
vote_again (Some n) rest is = rw (vote_number-some n is, le-leb n greatest_member is) refl

-- ---- a body

FitsKind-short : (kind : Kind) (body : List ℕ) → length body ≤ most_body_of kind → FitsKind kind body
FitsKind-short Blank body short = nil_from_length body (omega arith)
FitsKind-short Write body short = short
FitsKind-short Read body short = short

short-FitsKind : (kind : Kind) (body : List ℕ) → FitsKind kind body → length body ≤ most_body_of kind
short-FitsKind Blank body fits = rw fits (omega arith)
short-FitsKind Write body fits = fits
short-FitsKind Read body fits = fits

most_body-most : (kind : Kind) → most_body_of kind ≤ limits.most_body
most_body-most Blank = omega arith
most_body-most Write = omega arith
most_body-most Read = omega arith

-- no body is longer than a request's may be
pub FitsKind-most : (kind : Kind) (body : List ℕ) → FitsKind kind body → length body ≤ limits.most_body
FitsKind-most kind body fits = let short = short-FitsKind kind body fits in let most = most_body-most kind in omega arith

bytes_take : (len : ℕ) (bytes : List ℕ) (x : List ℕ × List ℕ) → AreBytes bytes → front_bytes len bytes ≡ Ok x → Takes bytes x.0 x.1 × (length x.0 ≡ len)
unfolding front_bytes
bytes_take len bytes x are e =
    let g = guard_ok (ltb (length bytes) len) field.Short (take len bytes, drop len bytes) x e in
    let long : len ≤ length bytes = ltb-false _ _ g.0 in
    subst (λ (y : List ℕ × List ℕ). Takes bytes y.0 y.1 × (length y.0 ≡ len)) g.1 (
      record { parts = sym (take-append-drop len bytes); rest_are = AreBytes-drop len bytes are },
      omega (arith, length-take len bytes),
    )

bytes_again : (body rest : List ℕ) → front_bytes (length body) (body ++ rest) ≡ Ok (body, rest)
unfolding front_bytes
bytes_again body rest =
    let long : ltb (length (body ++ rest)) (length body) ≡ false = le-ltb _ _ (omega (arith, length-append body rest)) in
    rw (long, take_at body rest (length body) refl, drop_at body rest (length body) refl) refl

-- a body after its length
abbrev sized : List ℕ → List ℕ
sized body = u16_bytes (length body) ++ body

body_takes : (kind : Kind) (bytes : List ℕ) (x : List ℕ × List ℕ) → AreBytes bytes → front_body kind bytes ≡ Ok x → Takes bytes (sized x.0) x.1 × FitsKind kind x.0
unfolding front_body
body_takes kind bytes x are e =
    bind_then _ _ _ e (λ n is_n e1. bind_then _ _ _ e1 (λ len is_len e2.
    let t = u16_takes bytes n are is_n in
    let w = within_ok 0 (most_body_of kind) n len is_len in
    let head : Takes bytes (u16_bytes len.0) len.1 = subst (λ (y : ℕ × List ℕ). Takes bytes (u16_bytes y.0) y.1) w.same t.0 in
    let b = bytes_take len.0 len.1 x head.rest_are e2 in
    let short : length x.0 ≤ most_body_of kind = rw b.1 w.high in
    (rw b.1 (Takes-both head b.0), FitsKind-short kind x.0 short)))

body_again : (kind : Kind) (body rest : List ℕ) → FitsKind kind body → front_body kind (u16_bytes (length body) ++ (body ++ rest)) ≡ Ok (body, rest)
unfolding front_body
body_again kind body rest fits =
    let short = short-FitsKind kind body fits in
    let most = most_body-most kind in
    rw (u16_again (length body) (body ++ rest) (omega arith), within_again 0 (most_body_of kind) (length body) (body ++ rest) (omega arith) short) (bytes_again body rest)

-- ---- an entry with its body

-- an entry with its body in its ranges, whose request id fits
pub record IsKept (s : Stored) : Type 0 where
  pub stored : IsStored s
  pub fits : FitsRid s.entry.rid

stored_takes : (bytes : List ℕ) (x : Stored × List ℕ) → AreBytes bytes → front_stored bytes ≡ Ok x → Takes bytes (stored_bytes x.0) x.1 × IsKept x.0
unfolding front_stored stored_bytes
stored_takes bytes x are e =
    bind_then _ _ _ e (λ entry is_entry e1. bind_then _ _ _ e1 (λ body is_body e2.
    let t = entry_takes 1 greatest_number bytes entry are is_entry in
    let b = body_takes entry.0.kind entry.1 body t.0.rest_are is_body in
    let made : Stored × List ℕ = (record { entry = entry.0; body = body.0 }, body.1) in
    let regrouped : Takes bytes (stored_bytes made.0) made.1 = record {
      parts = (Takes-both t.0 b.0).parts ∙ ap (λ (w : List ℕ). w ++ body.1) (sym (append_assoc (narrow_entry_bytes entry.0) (u16_bytes (length body.0)) body.0));
      rest_are = b.0.rest_are;
    } in
    subst (λ (y : Stored × List ℕ). Takes bytes (stored_bytes y.0) y.1 × IsKept y.0) (ok_is made x e2) (
      regrouped,
      record {
        stored = record { term_is_set = t.1.low; term_fits = t.1.high; replier = t.1.replier; body = b.1 };
        fits = t.1.fits;
      },
    )))

stored_again : (s : Stored) (rest : List ℕ) → IsKept s → front_stored (stored_bytes s ++ rest) ≡ Ok (s, rest)
unfolding front_stored stored_bytes
stored_again s rest kept =
    let e = s.entry in
    let is = kept.stored in
    let within : IsWithin 1 greatest_number s.entry = record { low = is.term_is_set; high = is.term_fits; replier = is.replier; fits = kept.fits } in
    let regrouped : stored_bytes s ++ rest ≡ narrow_entry_bytes s.entry ++ (u16_bytes (length s.body) ++ (s.body ++ rest)) = simp append_assoc in
    ap front_stored regrouped ∙ rw (entry_again 1 greatest_number s.entry (u16_bytes (length s.body) ++ (s.body ++ rest)) (omega arith) within, body_again s.entry.kind s.body rest is.body) refl

pub entries_take : (count : ℕ) (bytes : List ℕ) (x : List Stored × List ℕ) → AreBytes bytes → front_entries count bytes ≡ Ok x → Takes bytes (flat_map stored_bytes x.0) x.1 × (length x.0 ≡ count) × AllByRecursion IsKept x.0
unfolding front_entries
entries_take zero bytes x are e =
    subst (λ (y : List Stored × List ℕ). Takes bytes (flat_map stored_bytes y.0) y.1 × (length y.0 ≡ 0) × AllByRecursion IsKept y.0) (ok_is ([], bytes) x e) (record { parts = refl; rest_are = are }, refl, tt)
entries_take (suc count) bytes x are e =
    let a = bind_ok _ _ _ e in
    let b = bind_ok _ _ _ a.2 in
    let first = stored_takes bytes a.0 are a.1 in
    let others = entries_take count a.0.1 b.0 first.0.rest_are b.1 in
    let both = Takes-both first.0 others.0 in
    let made : List Stored × List ℕ = (a.0.0 ∷ b.0.0, b.0.1) in
    subst (λ (y : List Stored × List ℕ). Takes bytes (flat_map stored_bytes y.0) y.1 × (length y.0 ≡ suc count) × AllByRecursion IsKept y.0) (ok_is made x b.2) (rw flat_map-cons both, ap suc others.1, (first.1, others.2))

pub entries_again : (ss : List Stored) (rest : List ℕ) → AllByRecursion IsKept ss → front_entries (length ss) (flat_map stored_bytes ss ++ rest) ≡ Ok (ss, rest)
unfolding front_entries
entries_again [] rest kept = refl
entries_again (s ∷ ss) rest kept =
    let regrouped : flat_map stored_bytes (s ∷ ss) ++ rest ≡ stored_bytes s ++ (flat_map stored_bytes ss ++ rest) = ap (λ (t : List ℕ). t ++ rest) (flat_map-cons stored_bytes s ss) ∙ append_assoc (stored_bytes s) (flat_map stored_bytes ss) rest in
    ap (front_entries (suc (length ss))) regrouped ∙ rw (stored_again s (flat_map stored_bytes ss ++ rest) kept.0, entries_again ss rest kept.1) refl

-- ---- a record

-- the fields of a record, one after the other
parts : {bytes r1 r2 r3 r4 r5 : List ℕ} (term : ℕ) (vote : Option ℕ) (keep : ℕ) {count : ℕ} (entries : List Stored) → Takes bytes (u64_bytes term) r1 → Takes r1 (vote_number vote ∷ []) r2 → Takes r2 (u64_bytes keep) r3 → Takes r3 (count ∷ []) r4 → Takes r4 (flat_map stored_bytes entries) r5 → length entries ≡ count → Takes (record_version_1 ∷ bytes) (record_bytes (record { term = term; vote = vote; keep = keep; entries = entries })) r5
unfolding record_bytes head_bytes
parts {r3 = r3} {r4 = r4} term vote keep entries term_is vote_is keep_is count_is entries_are same =
    let counted : Takes r3 (length entries ∷ []) r4 = rw same count_is in
    Takes-both (Takes-both (Takes-both (Takes-behind record_version_1 term_is) (Takes-both vote_is keep_is)) counted) entries_are

-- a record that was read from the bytes after its version
pub record IsRead (bytes : List ℕ) (x : Record × List ℕ) : Type 0 where
  pub taken : Takes (record_version_1 ∷ bytes) (record_bytes x.0) x.1
  pub in_range : IsInRange x.0
  pub fits : FitsRecord x.0

-- what comes before the entries of a record
record IsHead (bytes : List ℕ) (h : RecordHead) (rest : List ℕ) : Type 0 where
  term_is_set : 1 ≤ h.term
  term_fits : h.term ≤ greatest_number
  vote : IsVote h.vote
  keep : h.keep ≤ greatest_number
  count : h.count ≤ most_entries
  rest_are : AreBytes rest
  whole : (ss : List Stored) (behind : List ℕ) → Takes rest (flat_map stored_bytes ss) behind → length ss ≡ h.count → Takes (record_version_1 ∷ bytes) (record_bytes (record_with h ss)) behind

head_takes : (bytes : List ℕ) (x : RecordHead × List ℕ) → AreBytes bytes → front_head bytes ≡ Ok x → IsHead bytes x.0 x.1
unfolding front_head
head_takes bytes x are e =
    bind_then _ _ _ e (λ term is_term e1. bind_then _ _ _ e1 (λ vote is_vote e2. bind_then _ _ _ e2 (λ keep is_keep e3. bind_then _ _ _ e3 (λ count is_count e4.
    let t1 = number_takes 1 greatest_number bytes term are is_term in
    let t2 = vote_takes term.1 vote t1.0.rest_are is_vote in
    let t3 = number_takes 0 greatest_number vote.1 keep t2.0.rest_are is_keep in
    let t4 = small_takes 0 most_entries keep.1 count t3.0.rest_are is_count in
    let made : RecordHead × List ℕ = (record { term = term.0; vote = vote.0; keep = keep.0; count = count.0 }, count.1) in
    subst (λ (y : RecordHead × List ℕ). IsHead bytes y.0 y.1) (ok_is made x e4) (record {
      term_is_set = t1.1;
      term_fits = t1.2;
      vote = t2.1;
      keep = t3.2;
      count = t4.2;
      rest_are = t4.0.rest_are;
      whole = λ ss behind entries_are same. parts term.0 vote.0 keep.0 ss t1.0 t2.0 t3.0 t4.0 entries_are same;
    })))))

pub fields_take : (bytes : List ℕ) (x : Record × List ℕ) → AreBytes bytes → front_fields bytes ≡ Ok x → IsRead bytes x
unfolding front_fields
fields_take bytes x are e =
    bind_then _ _ _ e (λ head is_head e1. bind_then _ _ _ e1 (λ entries are_entries e2.
    let h = head_takes bytes head are is_head in
    let t = entries_take head.0.count head.1 entries h.rest_are are_entries in
    let kept = All-from_recursion IsKept entries.0 t.2 in
    subst (λ (y : Record × List ℕ). IsRead bytes y) (ok_is (record_with head.0 entries.0, entries.1) x e2) (record {
      taken = h.whole entries.0 entries.1 t.0 t.1;
      in_range = record { term_is_set = h.term_is_set; term_fits = h.term_fits; vote = h.vote; keep = h.keep; count = rw t.1 h.count; entries = λ k d lt. (kept k d lt).stored };
      fits = λ k d lt. (kept k d lt).fits;
    })))

pub fields_again : (r : Record) (rest : List ℕ) → IsInRange r → FitsRecord r → front_fields (u64_bytes r.term ++ (vote_number r.vote ∷ (u64_bytes r.keep ++ (length r.entries ∷ (flat_map stored_bytes r.entries ++ rest))))) ≡ Ok (r, rest)
unfolding front_fields front_head
fields_again r rest is fits =
    let kept = recursion_from_All IsKept r.entries (λ k d lt. record { stored = is.entries k d lt; fits = fits k d lt }) in
    let top = is.term_fits in
    let high = is.keep in
    let q4 : List ℕ = flat_map stored_bytes r.entries ++ rest in
    let q3 : List ℕ = length r.entries ∷ q4 in
    let q2 : List ℕ = u64_bytes r.keep ++ q3 in
    let q1 : List ℕ = vote_number r.vote ∷ q2 in
    rw (number_again 1 greatest_number r.term q1 is.term_is_set is.term_fits (omega arith), vote_again r.vote q2 is.vote, number_again 0 greatest_number r.keep q3 (omega arith) is.keep (omega arith), small_again 0 most_entries (length r.entries) q4 (omega arith) is.count, entries_again r.entries rest kept) refl

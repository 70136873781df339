-- Prefixes of a record's bytes, and bytes with others after them.
use Rattle.std.proofs.Common.{◌≡◌, ◌≢◌, ℕ, zero, suc, ◌≤◌, ◌⊎◌, inl, inr, Bool, true, false, cond, eqb, ltb, leb, List, [], ◌∷◌, ◌++◌, length, Option, Some, None, Result, Ok, Err, refl, sym, ap, ◌∙◌, length-append, arith}
use Rattle.std.proofs.lemmas.Bool.{cases_Bool, le-ltb, ltb-false}
use Rattle.std.proofs.lemmas.Bool.Decides.{nat_tests}
use Rattle.std.proofs.lemmas.List.{drop-append-le, take-append-le}
use Rattle.r2_base.specs.declared.entry.Kind.{Kind}
use Rattle.r2_base.specs.Limits.{greatest_member, greatest_number, most_entries}
use Rattle.hc_message.specs.declared.field_fault.FieldFault.{FieldFault}
use Rattle.hc_message.specs.declared.field_fault.FieldFault.TheVariants as field
use Rattle.hc_message.proofs.Stays.{IsSteady, Stays, byte_stays, entry_stays, number_stays, small_stays, stays_then, u16_stays, within_stays}
use Rattle.hc_log.specs.declared.record.Record.{Record}
use Rattle.hc_journal.specs.declared.record_fault.RecordFault.{RecordFault}
use Rattle.hc_journal.specs.declared.record_fault.RecordFault.TheVariants.{Version, Short, Range}
use Rattle.hc_journal.specs.Record.{no_vote, record_version_1}
use Rattle.hc_journal.specs.RecordLaws.{PrefixesAreShort, RangeStays, VersionIsTheFirstByte}
use Rattle.hc_journal.specs.RecordReading.{decode_record, ended, front_body, front_bytes, front_entries, front_fields, front_head, front_stored, front_vote, most_body_of}
use Rattle.hc_journal.proofs.RecordLaws.{ended_ok, spelling_is_read}

-- ---- the fields of a record stay

abbrev Vote : Type 0
Vote = Result (Option ℕ × List ℕ) FieldFault

vote_of_stays : (none member : Bool) (x : ℕ × List ℕ) (rest : List ℕ) → Stays (cond none (Ok (None, x.1)) (cond member (Ok (Some x.0, x.1)) (Err field.Range))) rest (cond none (Ok (None, x.1 ++ rest)) (cond member (Ok (Some x.0, x.1 ++ rest)) (Err field.Range)))
vote_of_stays true member x rest = refl
vote_of_stays false true x rest = refl
vote_of_stays false false x rest = refl

vote_stays : IsSteady front_vote
unfolding front_vote
vote_stays bytes rest =
    stays_then _ _ _ rest (byte_stays bytes rest) (λ n. vote_of_stays (eqb n.0 no_vote) (leb n.0 greatest_member) n rest)

bytes_stay : (len : ℕ) → IsSteady (front_bytes len)
unfolding front_bytes
bytes_stay len bytes rest =
    elim (cases_Bool (ltb (length bytes) len)) [
      | inl few ↦ rw few tt
      | inr enough ↦
          let long : len ≤ length bytes = ltb-false _ _ enough in
          let longer : ltb (length (bytes ++ rest)) len ≡ false = le-ltb _ _ (omega (arith, length-append bytes rest)) in
          rw (enough, longer, take-append-le len bytes rest long, drop-append-le len bytes rest long) refl
    ]

body_stays : (kind : Kind) → IsSteady (front_body kind)
unfolding front_body
body_stays kind bytes rest =
    stays_then _ _ _ rest (u16_stays bytes rest) (λ n. stays_then _ _ _ rest (within_stays 0 (most_body_of kind) n rest) (λ len. bytes_stay len.0 len.1 rest))

stored_stays : IsSteady front_stored
unfolding front_stored
stored_stays bytes rest =
    stays_then _ _ _ rest (entry_stays 1 greatest_number bytes rest) (λ entry. stays_then _ _ _ rest (body_stays entry.0.kind entry.1 rest) (λ body. refl))

entries_stay : (count : ℕ) → IsSteady (front_entries count)
unfolding front_entries
entries_stay zero bytes rest = refl
entries_stay (suc count) bytes rest =
    stays_then _ _ _ rest (stored_stays bytes rest) (λ first. stays_then _ _ _ rest (entries_stay count first.1 rest) (λ others. refl))

head_stays : IsSteady front_head
unfolding front_head
head_stays bytes rest =
    stays_then _ _ _ rest (number_stays 1 greatest_number bytes rest) (λ term. stays_then _ _ _ rest (vote_stays term.1 rest) (λ vote. stays_then _ _ _ rest (number_stays 0 greatest_number vote.1 rest) (λ keep. stays_then _ _ _ rest (small_stays 0 most_entries keep.1 rest) (λ count. refl))))

fields_stay : IsSteady front_fields
unfolding front_fields
fields_stay bytes rest =
    stays_then _ _ _ rest (head_stays bytes rest) (λ head. stays_then _ _ _ rest (entries_stay head.0.count head.1 rest) (λ entries. refl))

-- ---- what is out of range stays so

abbrev Fields : Type 0
Fields = Result (Record × List ℕ) FieldFault

abbrev KeepsRange : Fields → Fields → Type 0
KeepsRange r longer = ended r ≡ Err Range → ended longer ≡ Err Range

range_kept : (r longer : Fields) (rest : List ℕ) → Stays r rest longer → KeepsRange r longer
range_kept (Ok (n, [])) longer rest same e = absurd cc
range_kept (Ok (n, b ∷ more)) longer rest same e = absurd cc
range_kept (Err field.Range) longer rest same e = rw same refl
range_kept (Err field.Short) longer rest same e = absurd cc

-- what holds after either version
both : (b : Bool) (r longer : Fields) → KeepsRange r longer → cond b (ended r) (Err Version) ≡ Err Range → cond b (ended longer) (Err Version) ≡ Err Range
both true r longer keeps e = keeps e
both false r longer keeps e = absurd cc

pub range_stays : RangeStays
unfolding decode_record
range_stays [] rest e = absurd cc
range_stays (v ∷ bytes) rest e =
    both (eqb v record_version_1) (front_fields bytes) (front_fields (bytes ++ rest)) (range_kept _ _ rest (fields_stay bytes rest)) e

-- ---- each proper prefix is short

abbrev done : Record × List ℕ → Fields
done x = Ok x

pair_is : (x y : Record × List ℕ) → done x ≡ done y → x ≡ y
pair_is x y e = cc

front_empty : (front rest : List ℕ) → front ++ rest ≡ [] → rest ≡ []
front_empty [] rest e = e
front_empty (b ∷ front) rest e = absurd cc

ends_short : (r : Record) (rest : List ℕ) (read longer : Fields) → Stays read rest longer → longer ≡ Ok (r, []) → (ended read ≡ Err Short) ⊎ (rest ≡ [])
ends_short r rest (Ok x) longer same e =
    inr (front_empty x.1 rest (ap (λ (p : Record × List ℕ). p.1) (pair_is (x.0, x.1 ++ rest) (r, []) (sym same ∙ e))))
ends_short r rest (Err field.Range) longer same e = (let none = rw same at e in absurd cc)
ends_short r rest (Err field.Short) longer same e = inl refl

abbrev whole : Record → Result Record RecordFault
whole r = Ok r

after_version : (b : Bool) (r : Record) (rest : List ℕ) (read longer : Fields) → Stays read rest longer → cond b (ended longer) (Err Version) ≡ whole r → (cond b (ended read) (Err Version) ≡ Err Short) ⊎ (rest ≡ [])
after_version true r rest read longer same e = ends_short r rest read longer same (ended_ok longer r e)
after_version false r rest read longer same e = absurd cc

prefix_short : (r : Record) (prefix rest : List ℕ) → decode_record (prefix ++ rest) ≡ whole r → (decode_record prefix ≡ Err Short) ⊎ (rest ≡ [])
unfolding decode_record
prefix_short r [] rest read = inl refl
prefix_short r (v ∷ bytes) rest read =
    after_version (eqb v record_version_1) r rest (front_fields bytes) (front_fields (bytes ++ rest)) (fields_stay bytes rest) read

pub prefixes_are_short : PrefixesAreShort
prefixes_are_short r prefix rest fits in_range same shorter =
    let read : decode_record (prefix ++ rest) ≡ Ok r = spelling_is_read r (prefix ++ rest) fits (record { in_range = in_range; same = sym same }) in
    elim (prefix_short r prefix rest read) [
      | inl short ↦ short
      | inr none ↦
          let joined = length-append prefix rest in
          let all = ap length same in
          let nothing : length rest ≡ 0 = ap length none in
          absurd (omega (arith, joined, all, nothing, shorter))
    ]

-- ---- the version

ended_version : (r : Fields) → ended r ≡ Err Version → ⊥
ended_version (Ok (n, [])) e = cc
ended_version (Ok (n, b ∷ rest)) e = cc
ended_version (Err field.Short) e = cc
ended_version (Err field.Range) e = cc

this_is : (v : ℕ) → v ≡ record_version_1 → eqb v record_version_1 ≡ true
this_is v is = rw is refl

other_is : (v : ℕ) → v ≢ record_version_1 → eqb v record_version_1 ≡ false
other_is v other = grind (arith, nat_tests)

pub version_is_the_first_byte : VersionIsTheFirstByte
unfolding decode_record
version_is_the_first_byte [] = ((λ e. cc), (λ none. absurd none))
version_is_the_first_byte (v ∷ bytes) = (
  (λ e is. let read = rw (this_is v is) at e in ended_version (front_fields bytes) read),
  (λ other. rw (other_is v other) refl),
)

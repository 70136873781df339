-- What bytes read as stays so with others after them, unless the bytes end within a field.
use Rattle.std.proofs.Common.{◌≡◌, ℕ, zero, suc, ◌+◌, ◌≤◌, Bool, true, false, cond, leb, ltb, List, [], ◌∷◌, ◌++◌, length, Result, Ok, Err, refl, inl, inr, length-append, arith}
use Rattle.std.specs.Prelude.{◌&&◌, ◌||◌}
use Rattle.std.proofs.lemmas.Bool.{cases_Bool, le-ltb, ltb-false}
use Rattle.std.proofs.lemmas.List.{drop-append-le, get_or_append_left}
use Rattle.byteorder.specs.Endian.{big_from}
use Rattle.r2_base.specs.declared.entry.Kind.{Kind}
use Rattle.r2_base.specs.declared.entry.Kind.TheVariants.{Blank, Write, Read}
use Rattle.r2_base.specs.Entry.{is_no_rid, is_request}
use Rattle.r2_base.specs.Limits.{greatest_member, no_replier}
use Rattle.hc_message.specs.declared.field_fault.FieldFault.{FieldFault}
use Rattle.hc_message.specs.declared.field_fault.FieldFault.TheVariants.{Short, Range}
use Rattle.hc_message.specs.Fields.{◌>>=◌, front_byte, front_entry, front_flag, front_kind, front_number, front_replier, front_rid, front_rid_of_kind, front_small, front_u16, front_u32, front_u64, front_wide, within}

-- the reading of longer bytes, by that of their prefix
abbrev pub Stays : {A : Type 0} → Result (A × List ℕ) FieldFault → List ℕ → Result (A × List ℕ) FieldFault → Type 0
Stays (Ok x) rest longer = longer ≡ Ok (x.0, x.1 ++ rest)
Stays (Err Range) rest longer = longer ≡ Err Range
Stays (Err Short) rest longer = Unit {0}

-- what a reader makes of bytes stays so
abbrev pub IsSteady : {A : Type 0} → (List ℕ → Result (A × List ℕ) FieldFault) → Type 0
IsSteady read = (bytes rest : List ℕ) → Stays (read bytes) rest (read (bytes ++ rest))

-- one step, and then another
pub stays_then : {A B : Type 0} (r longer : Result (A × List ℕ) FieldFault) (f : A × List ℕ → Result (B × List ℕ) FieldFault) (rest : List ℕ) → Stays r rest longer
    → ((x : A × List ℕ) → Stays (f x) rest (f (x.0, x.1 ++ rest))) → Stays (r >>= f) rest (longer >>= f)
stays_then (Ok x) longer f rest same next = rw same (next x)
stays_then (Err Range) longer f rest same next = rw same refl
stays_then (Err Short) longer f rest same next = tt

-- a test of the value
pub test_stays : {A : Type 0} (b : Bool) (x : A × List ℕ) (rest : List ℕ) → Stays (cond b (Ok x) (Err Range)) rest (cond b (Ok (x.0, x.1 ++ rest)) (Err Range))
test_stays true x rest = refl
test_stays false x rest = refl

pub byte_stays : IsSteady front_byte
byte_stays [] rest = tt
byte_stays (b ∷ bytes) rest = refl

-- the first bytes alone make the number
big_from-append : (i n : ℕ) (xs ys : List ℕ) → i + n ≤ length xs → big_from i n (xs ++ ys) ≡ big_from i n xs
big_from-append i zero xs ys within = refl
big_from-append i (suc n) xs ys within =
    rw (get_or_append_left xs ys 0 i (omega arith), big_from-append (suc i) n xs ys (omega arith)) refl

wide_stays : (size : ℕ) → IsSteady (front_wide size)
wide_stays size bytes rest =
    elim (cases_Bool (ltb (length bytes) size)) [
      | inl few ↦ rw few tt
      | inr enough ↦
          let long : size ≤ length bytes = ltb-false _ _ enough in
          let longer : ltb (length (bytes ++ rest)) size ≡ false = le-ltb _ _ (omega (arith, length-append bytes rest)) in
          rw (enough, longer, big_from-append 0 size bytes rest (omega arith), drop-append-le size bytes rest long) refl
    ]

pub u16_stays : IsSteady front_u16
unfolding front_u16
u16_stays = wide_stays 2

pub u32_stays : IsSteady front_u32
unfolding front_u32
u32_stays = wide_stays 4

pub u64_stays : IsSteady front_u64
unfolding front_u64
u64_stays = wide_stays 8

pub within_stays : (least most : ℕ) (x : ℕ × List ℕ) (rest : List ℕ) → Stays (within least most x) rest (within least most (x.0, x.1 ++ rest))
within_stays least most x rest = test_stays (leb least x.0 && leb x.0 most) x rest

pub number_stays : (least most : ℕ) → IsSteady (front_number least most)
unfolding front_number
number_stays least most bytes rest =
    stays_then (front_u64 bytes) (front_u64 (bytes ++ rest)) (λ n. within least most n) rest (u64_stays bytes rest) (λ x. within_stays least most x rest)

pub small_stays : (least most : ℕ) → IsSteady (front_small least most)
unfolding front_small
small_stays least most bytes rest =
    stays_then (front_byte bytes) (front_byte (bytes ++ rest)) (λ n. within least most n) rest (byte_stays bytes rest) (λ x. within_stays least most x rest)

pub flag_stays : IsSteady front_flag
unfolding front_flag
flag_stays bytes rest =
    stays_then (front_small 0 1 bytes) (front_small 0 1 (bytes ++ rest)) _ rest (small_stays 0 1 bytes rest) (λ x. refl)

pub kind_stays : (least : ℕ) → IsSteady (front_kind least)
unfolding front_kind
kind_stays least bytes rest =
    stays_then (front_small least 2 bytes) (front_small least 2 (bytes ++ rest)) _ rest (small_stays least 2 bytes rest) (λ x. refl)

rid_stays : IsSteady front_rid
unfolding front_rid
rid_stays bytes rest =
    stays_then _ _ _ rest (u32_stays bytes rest) (λ ip. stays_then _ _ _ rest (u16_stays ip.1 rest) (λ port. stays_then _ _ _ rest (u16_stays port.1 rest) (λ id. refl)))

rid_of_kind_stays : (kind : Kind) → IsSteady (front_rid_of_kind kind)
unfolding front_rid_of_kind
rid_of_kind_stays kind bytes rest =
    stays_then (front_rid bytes) (front_rid (bytes ++ rest)) _ rest (rid_stays bytes rest) (λ x. test_stays (is_request kind || is_no_rid x.0) x rest)

replier_stays : (kind : Kind) → IsSteady (front_replier kind)
unfolding front_replier
replier_stays Blank = small_stays no_replier no_replier
replier_stays Write = small_stays 0 greatest_member
replier_stays Read = small_stays 0 greatest_member

pub entry_stays : (least most : ℕ) → IsSteady (front_entry least most)
unfolding front_entry
entry_stays least most bytes rest =
    stays_then _ _ _ rest (number_stays least most bytes rest) (λ term. stays_then _ _ _ rest (kind_stays 0 term.1 rest) (λ kind. stays_then _ _ _ rest (rid_of_kind_stays kind.0 kind.1 rest) (λ rid. stays_then _ _ _ rest (replier_stays kind.0 rid.1 rest) (λ replier. refl))))

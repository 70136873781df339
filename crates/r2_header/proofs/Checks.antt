-- The checks in their order: none fails exactly where each is passed.
use Rattle.std.proofs.Common.{◌≡◌, if◌then◌else◌, ◌%◌, ◌/◌, ◌==◌, ◌++◌, ℕ, Bool, true, false, ◌&&◌, List, [], ◌∷◌, Option, Some, None, Ok, length, slice_index, nat_le, refl}
use Rattle.r2_header.specs.declared.header.Header.{Header}
use Rattle.r2_header.specs.declared.header_fault.HeaderFault.{HeaderFault}
use Rattle.r2_header.specs.Header.{magic}
use Rattle.r2_header.specs.Reading.{Check, field_checks, first_fault, flags_fit, form_checks, is_zero_padded, is_in_table, is_size, last_fits, ok_unless}
use Rattle.r2_header.specs.Span.{is_within}
use Rattle.r2_header.specs.Table.{numbers}

-- each check is passed
pub record PassesAll (bytes : List ℕ) (h : Header) : Type 0 where
  pub least : nat_le 8 (length bytes) ≡ true
  pub first_byte : (slice_index bytes 0 == magic) ≡ true
  pub size : is_size (slice_index bytes 1) ≡ true
  pub room : nat_le (slice_index bytes 1) (length bytes) ≡ true
  pub table : is_in_table (slice_index bytes 2 / 16) h ≡ true
  pub flags : (slice_index bytes 3 % 0x40 == 0 && flags_fit h.packet h.first h.last) ≡ true
  pub count : (is_within (numbers h.packet h.first) h.number && last_fits h.first h.last h.number) ≡ true
  pub extension : is_zero_padded bytes ≡ true

-- each check of a list is passed
abbrev pub EachPasses : List Check → Type 0
EachPasses [] = Unit {0}
EachPasses (c ∷ cs) = (c.passes ≡ true) × EachPasses cs

-- no check of a list fails where each is passed
no_fault : (cs : List Check) → EachPasses cs → first_fault cs ≡ None
no_fault [] p = refl
no_fault (c ∷ cs) p = rw p.0 (no_fault cs p.1)

-- a check that has no fault is passed, and none after it has one
passes_here : (passes : Bool) (fault : HeaderFault) (rest : Option HeaderFault) → (if passes then rest else Some fault) ≡ None → (passes ≡ true) × (rest ≡ None)
passes_here true fault rest e = (refl, e)
passes_here false fault rest e = cc

-- and the other way round
each_passes : (cs : List Check) → first_fault cs ≡ None → EachPasses cs
each_passes [] e = tt
each_passes (c ∷ cs) e =
    let here = passes_here c.passes c.fault (first_fault cs) e in
    (here.0, each_passes cs here.1)

-- no check fails where each is passed
pub none_fails : (bytes : List ℕ) (h : Header) → PassesAll bytes h → first_fault (form_checks bytes ++ field_checks bytes h) ≡ None
none_fails bytes h p =
    no_fault (form_checks bytes ++ field_checks bytes h)
    (p.least, (p.first_byte, (p.size, (p.room, (p.table, (p.flags, (p.count, (p.extension, tt))))))))

-- and the other way round
pub all_pass : (bytes : List ℕ) (h : Header) → first_fault (form_checks bytes ++ field_checks bytes h) ≡ None → PassesAll bytes h
all_pass bytes h e =
    let p = each_passes (form_checks bytes ++ field_checks bytes h) e in
    record {
      least = p.0;
      first_byte = p.1.0;
      size = p.1.1.0;
      room = p.1.1.1.0;
      table = p.1.1.1.1.0;
      flags = p.1.1.1.1.1.0;
      count = p.1.1.1.1.1.1.0;
      extension = p.1.1.1.1.1.1.1.0;
    }

-- a value comes back only where there is no fault
pub ok_unless-ok : {A : Type 0} (o : Option HeaderFault) (v w : A) → ok_unless o v ≡ Ok w → (o ≡ None) × (v ≡ w)
ok_unless-ok (Some fault) v w e = cc
ok_unless-ok None v w e = (refl, cc)

-- A body is read as a command exactly where it encodes it.
use Rattle.std.proofs.Common.{◌≡◌, ℕ, zero, suc, ◌<◌, ◌^◌, Bool, true, false, List, [], ◌∷◌, ◌++◌, length, take, drop, refl, sym, ap, subst, ◌∙◌, arith, append-nil, length-append, if◌then◌else◌}
use Rattle.std.specs.Prelude.{Option, Some, None, nat_le, All, ◌==◌, option_and_then}
use Rattle.std.specs.Int.{byte_at}
use Rattle.std.proofs.Math.Seq.{take-append_seam, drop-append_seam}
use Rattle.std.proofs.lemmas.List.{length-take-le, take-append-drop}
use Rattle.std.proofs.lemmas.List.Elements.{All-head, All-tail}
use Rattle.std.proofs.lemmas.Bool.{leb-true, le-leb, eqb-true}
use Rattle.r2_base.specs.Numbers.{u16_bytes}
use Rattle.hc_store.specs.Command.{Command, Get, Put, Del, Cas, Scan, Count, two_bytes, sized_field, get_command, put_command, del_command, exchange, cas_command, scan_command, count_command, tagged_command, command_of}
use Rattle.hc_store.specs.Spelling.{FitsCommand, sized, spelling}
use Rattle.hc_store.specs.Laws.{SpellingIsRead, WhatIsReadIsSpelled}

-- two bytes of a number give it back
two_bytes_of : (n : ℕ) → n < 2 ^ 16 → two_bytes (byte_at 1 n) (byte_at 0 n) ≡ n
two_bytes_of n fits = omega arith

-- a field is read, whatever follows it
sized-read : (field rest : List ℕ) → length field < 2 ^ 16 → sized_field (sized field ++ rest) ≡ Some (field, rest)
unfolding u16_bytes
sized-read field rest fits =
    ap (λ (n : ℕ). if nat_le n (length (field ++ rest)) then Some (take n (field ++ rest), drop n (field ++ rest)) else None) (two_bytes_of (length field) fits)
    ∙ ap (λ b. if b then Some (take (length field) (field ++ rest), drop (length field) (field ++ rest)) else None)
    (le-leb (length field) (length (field ++ rest)) (omega (arith, length-append field rest)))
    ∙ (λ i. Some (take-append_seam field rest i, drop-append_seam field rest i))

sized-alone : (field : List ℕ) → length field < 2 ^ 16 → sized_field (sized field) ≡ Some (field, [])
sized-alone field fits = ap sized_field (sym (append-nil (sized field))) ∙ sized-read field [] fits

limit-read : (key : List ℕ) (limit : ℕ) → limit < 2 ^ 16 → scan_command (key, u16_bytes limit) ≡ Some (Scan key limit)
unfolding u16_bytes
limit-read key limit fits = ap (λ n. Some (Scan key n)) (two_bytes_of limit fits)

pub a_spelling_is_read : SpellingIsRead
unfolding spelling command_of
a_spelling_is_read (Get key) fits = ap (option_and_then get_command) (sized-alone key fits)
a_spelling_is_read (Put key value) fits = ap (option_and_then put_command) (sized-read key value fits)
a_spelling_is_read (Del key) fits = ap (option_and_then del_command) (sized-alone key fits)
a_spelling_is_read (Cas key old new) fits =
    ap (option_and_then cas_command) (sized-read key (sized old ++ new) fits.0) ∙ ap (option_and_then (exchange key)) (sized-read old new fits.1)
a_spelling_is_read (Scan key limit) fits = ap (option_and_then scan_command) (sized-read key (u16_bytes limit) fits.0) ∙ limit-read key limit fits.1
a_spelling_is_read Count fits = refl

-- the bytes of a number below 2^16 from its two halves
bytes_of_two : (high low : ℕ) → high < 256 → low < 256 → u16_bytes (two_bytes high low) ≡ high ∷ low ∷ []
unfolding u16_bytes
bytes_of_two high low h l =
    (let upper : byte_at 1 (two_bytes high low) ≡ high = omega arith in
    let lower : byte_at 0 (two_bytes high low) ≡ low = omega arith in
    λ i. upper i ∷ lower i ∷ [])

-- what was read as a field
record IsField (bytes field rest : List ℕ) : Type 0 where
  spelled : bytes ≡ sized field ++ rest
  fits : length field < 2 ^ 16
  small : All (λ b. b < 256) rest

All-drop : (n : ℕ) (xs : List ℕ) → All (λ b. b < 256) xs → All (λ b. b < 256) (drop n xs)
All-drop zero xs small = small
All-drop (suc n) [] small = small
All-drop (suc n) (x ∷ xs) small = All-drop n xs (All-tail (λ b. b < 256) x xs small)

-- so many bytes, and those after them
abbrev cut : ℕ → List ℕ → Option (List ℕ × List ℕ)
cut n bytes = Some (take n bytes, drop n bytes)

field-read : (bytes field rest : List ℕ) → All (λ b. b < 256) bytes → sized_field bytes ≡ Some (field, rest) → IsField bytes field rest
field-read [] field rest small is = cc
field-read (b ∷ []) field rest small is = cc
field-read (high ∷ low ∷ more) field rest small is = by (nat_le (two_bytes high low) (length more)) refl is
  where
    by : (t : Bool) → nat_le (two_bytes high low) (length more) ≡ t
        → (if t then cut (two_bytes high low) more else None) ≡ Some (field, rest) → IsField (high ∷ low ∷ more) field rest
    by false e is = cc
    by true e is =
        let parts : ◌≡◌ {A = List ℕ × List ℕ} (take (two_bytes high low) more, drop (two_bytes high low) more) (field, rest) = cc in
        let front = ap (λ (p : List ℕ × List ℕ). p.0) parts in
        let back = ap (λ (p : List ℕ × List ℕ). p.1) parts in
        let h : high < 256 = All-head (λ b. b < 256) high (low ∷ more) small in
        let tail : All (λ b. b < 256) (low ∷ more) = All-tail (λ b. b < 256) high (low ∷ more) small in
        let l : low < 256 = All-head (λ b. b < 256) low more tail in
        let size : length field ≡ two_bytes high low = ap length (sym front) ∙ length-take-le (two_bytes high low) more (leb-true _ _ e) in
        record {
          spelled =
              sym (ap (λ n. (u16_bytes n ++ field) ++ rest) size
              ∙ ap (λ bs. (bs ++ field) ++ rest) (bytes_of_two high low h l)
              ∙ (let front_is = sym front in let back_is = sym back in λ i. high ∷ low ∷ (front_is i ++ back_is i))
              ∙ ap (λ xs. high ∷ low ∷ xs) (take-append-drop (two_bytes high low) more));
          fits = omega (arith, size, h, l);
          small = subst (All (λ b. b < 256)) back (All-drop (two_bytes high low) more (All-tail (λ b. b < 256) low more tail));
        }

-- the bytes of a command, which fits its fields
record IsSpelled (body : List ℕ) (command : Command) : Type 0 where
  spelled : body ≡ spelling command
  fits : FitsCommand command

-- a field that goes to the end
field-alone : (bytes field : List ℕ) → IsField bytes field [] → bytes ≡ sized field
field-alone bytes field f = f.spelled ∙ append-nil (sized field)

get-spelled : (rest : List ℕ) (command : Command) → All (λ b. b < 256) rest → option_and_then get_command (sized_field rest) ≡ Some command → IsSpelled (0x47 ∷ rest) command
unfolding spelling
get-spelled rest command small is = by (sized_field rest) refl is
  where
    by : (o : Option (List ℕ × List ℕ)) → sized_field rest ≡ o → option_and_then get_command o ≡ Some command → IsSpelled (0x47 ∷ rest) command
    by None e is = cc
    by (Some (key, [])) e is =
        let f = field-read rest key [] small e in
        let same : Get key ≡ command = cc in
        subst (IsSpelled (0x47 ∷ rest)) same (record { spelled = ap (λ bs. 0x47 ∷ bs) (field-alone rest key f); fits = f.fits })
    by (Some (key, b ∷ bs)) e is = cc

del-spelled : (rest : List ℕ) (command : Command) → All (λ b. b < 256) rest → option_and_then del_command (sized_field rest) ≡ Some command → IsSpelled (0x44 ∷ rest) command
unfolding spelling
del-spelled rest command small is = by (sized_field rest) refl is
  where
    by : (o : Option (List ℕ × List ℕ)) → sized_field rest ≡ o → option_and_then del_command o ≡ Some command → IsSpelled (0x44 ∷ rest) command
    by None e is = cc
    by (Some (key, [])) e is =
        let f = field-read rest key [] small e in
        let same : Del key ≡ command = cc in
        subst (IsSpelled (0x44 ∷ rest)) same (record { spelled = ap (λ bs. 0x44 ∷ bs) (field-alone rest key f); fits = f.fits })
    by (Some (key, b ∷ bs)) e is = cc

put-spelled : (rest : List ℕ) (command : Command) → All (λ b. b < 256) rest → option_and_then put_command (sized_field rest) ≡ Some command → IsSpelled (0x50 ∷ rest) command
unfolding spelling
put-spelled rest command small is = by (sized_field rest) refl is
  where
    by : (o : Option (List ℕ × List ℕ)) → sized_field rest ≡ o → option_and_then put_command o ≡ Some command → IsSpelled (0x50 ∷ rest) command
    by None e is = cc
    by (Some (key, value)) e is =
        let f = field-read rest key value small e in
        let same : Put key value ≡ command = cc in
        subst (IsSpelled (0x50 ∷ rest)) same (record { spelled = ap (λ bs. 0x50 ∷ bs) f.spelled; fits = f.fits })

cas-spelled : (rest : List ℕ) (command : Command) → All (λ b. b < 256) rest → option_and_then cas_command (sized_field rest) ≡ Some command → IsSpelled (0x43 ∷ rest) command
unfolding spelling
cas-spelled rest command small is = by (sized_field rest) refl is
  where
    inner : (key more : List ℕ) → IsField rest key more → (o : Option (List ℕ × List ℕ)) → sized_field more ≡ o → option_and_then (exchange key) o ≡ Some command → IsSpelled (0x43 ∷ rest) command
    inner key more f None e is = cc
    inner key more f (Some (old, new)) e is =
        let g = field-read more old new f.small e in
        let same : Cas key old new ≡ command = cc in
        subst (IsSpelled (0x43 ∷ rest)) same (record { spelled = ap (λ bs. 0x43 ∷ bs) (f.spelled ∙ ap (λ bs. sized key ++ bs) g.spelled); fits = (f.fits, g.fits) })

    by : (o : Option (List ℕ × List ℕ)) → sized_field rest ≡ o → option_and_then cas_command o ≡ Some command → IsSpelled (0x43 ∷ rest) command
    by None e is = cc
    by (Some (key, more)) e is = inner key more (field-read rest key more small e) (sized_field more) refl is

scan-spelled : (rest : List ℕ) (command : Command) → All (λ b. b < 256) rest → option_and_then scan_command (sized_field rest) ≡ Some command → IsSpelled (0x53 ∷ rest) command
unfolding spelling
scan-spelled rest command small is = by (sized_field rest) refl is
  where
    by : (o : Option (List ℕ × List ℕ)) → sized_field rest ≡ o → option_and_then scan_command o ≡ Some command → IsSpelled (0x53 ∷ rest) command
    by None e is = cc
    by (Some (key, [])) e is = cc
    by (Some (key, b ∷ [])) e is = cc
    by (Some (key, high ∷ low ∷ [])) e is =
        let f = field-read rest key (high ∷ low ∷ []) small e in
        let h : high < 256 = All-head (λ b. b < 256) high (low ∷ []) f.small in
        let l : low < 256 = All-head (λ b. b < 256) low [] (All-tail (λ b. b < 256) high (low ∷ []) f.small) in
        let same : Scan key (two_bytes high low) ≡ command = cc in
        subst (IsSpelled (0x53 ∷ rest)) same (record {
          spelled = ap (λ bs. 0x53 ∷ bs) (f.spelled ∙ ap (λ bs. sized key ++ bs) (sym (bytes_of_two high low h l)));
          fits = (f.fits, omega arith);
        })
    by (Some (key, a ∷ b ∷ c ∷ bs)) e is = cc

count-spelled : (rest : List ℕ) (command : Command) → count_command rest ≡ Some command → IsSpelled (0x4E ∷ rest) command
unfolding spelling
count-spelled [] command is =
    let same : Count ≡ command = cc in
    subst (IsSpelled (0x4E ∷ [])) same (record { spelled = refl; fits = tt })
count-spelled (b ∷ bs) command is = cc

-- the first byte is the one that was looked for
at-tag : (tag n : ℕ) (rest : List ℕ) (command : Command) → (tag == n) ≡ true → IsSpelled (n ∷ rest) command → IsSpelled (tag ∷ rest) command
at-tag tag n rest command e s = subst (λ t. IsSpelled (t ∷ rest) command) (sym (eqb-true tag n e)) s

tagged-spelled : (tag : ℕ) (rest : List ℕ) (command : Command) → All (λ b. b < 256) rest → tagged_command tag rest ≡ Some command → IsSpelled (tag ∷ rest) command
tagged-spelled tag rest command small is = get_or_next (tag == 0x47) refl is
  where
    count_or_none : (b : Bool) → (tag == 0x4E) ≡ b → (if b then count_command rest else None) ≡ Some command → IsSpelled (tag ∷ rest) command
    count_or_none true e is = at-tag tag 0x4E rest command e (count-spelled rest command is)
    count_or_none false e is = cc

    scan_or_next : (b : Bool) → (tag == 0x53) ≡ b
        → (if b then option_and_then scan_command (sized_field rest) else if tag == 0x4E then count_command rest else None) ≡ Some command → IsSpelled (tag ∷ rest) command
    scan_or_next true e is = at-tag tag 0x53 rest command e (scan-spelled rest command small is)
    scan_or_next false e is = count_or_none (tag == 0x4E) refl is

    cas_or_next : (b : Bool) → (tag == 0x43) ≡ b
        → (if b then option_and_then cas_command (sized_field rest) else if tag == 0x53 then option_and_then scan_command (sized_field rest) else if tag == 0x4E then count_command rest else None) ≡ Some command → IsSpelled (tag ∷ rest) command
    cas_or_next true e is = at-tag tag 0x43 rest command e (cas-spelled rest command small is)
    cas_or_next false e is = scan_or_next (tag == 0x53) refl is

    del_or_next : (b : Bool) → (tag == 0x44) ≡ b
        → (if b then option_and_then del_command (sized_field rest) else if tag == 0x43 then option_and_then cas_command (sized_field rest) else if tag == 0x53 then option_and_then scan_command (sized_field rest) else if tag == 0x4E then count_command rest else None) ≡ Some command → IsSpelled (tag ∷ rest) command
    del_or_next true e is = at-tag tag 0x44 rest command e (del-spelled rest command small is)
    del_or_next false e is = cas_or_next (tag == 0x43) refl is

    put_or_next : (b : Bool) → (tag == 0x50) ≡ b
        → (if b then option_and_then put_command (sized_field rest) else if tag == 0x44 then option_and_then del_command (sized_field rest) else if tag == 0x43 then option_and_then cas_command (sized_field rest) else if tag == 0x53 then option_and_then scan_command (sized_field rest) else if tag == 0x4E then count_command rest else None) ≡ Some command → IsSpelled (tag ∷ rest) command
    put_or_next true e is = at-tag tag 0x50 rest command e (put-spelled rest command small is)
    put_or_next false e is = del_or_next (tag == 0x44) refl is

    get_or_next : (b : Bool) → (tag == 0x47) ≡ b
        → (if b then option_and_then get_command (sized_field rest) else if tag == 0x50 then option_and_then put_command (sized_field rest) else if tag == 0x44 then option_and_then del_command (sized_field rest) else if tag == 0x43 then option_and_then cas_command (sized_field rest) else if tag == 0x53 then option_and_then scan_command (sized_field rest) else if tag == 0x4E then count_command rest else None) ≡ Some command → IsSpelled (tag ∷ rest) command
    get_or_next true e is = at-tag tag 0x47 rest command e (get-spelled rest command small is)
    get_or_next false e is = put_or_next (tag == 0x50) refl is

pub what_is_read_is_spelled : WhatIsReadIsSpelled
unfolding command_of
what_is_read_is_spelled command [] small is = cc
what_is_read_is_spelled command (tag ∷ rest) small is =
    let s = tagged-spelled tag rest command (All-tail (λ b. b < 256) tag rest small) is in
    (s.spelled, s.fits)

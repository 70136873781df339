-- The digits of a decimal number.
use Rattle.std.proofs.Common.{◌≡◌, ◌≢◌, ℕ, ◌+◌, ◌-◌, ◌*◌, ◌<◌, ◌≤◌, ◌^◌, List, length, get_or, take, arith, inl, inr, sym, ap, ◌∙◌, false, decimal, All}
use Rattle.std.proofs.lemmas.Bool.{cases_lt}
use Rattle.std.proofs.lemmas.Fmt.{decimal_is_IsNumeral, decimal_nonempty, first_decimal, decimal_digit, decimal-digits_value}
use Rattle.std.proofs.lemmas.Grind.{get_or_default_zero}
use Rattle.std.proofs.lemmas.Int.Digits.{digits_value_more, digits_more}
use Rattle.std.proofs.lemmas.Str.{digit_value_digit}
use Rattle.std.proofs.lemmas.Str.Parse.{numerals_by_value, tells_digits, digit_at, digits_value-take-le}
use Rattle.std.specs.Char.{is_ascii_digit}
use Rattle.std.specs.Str.Parse.{AllDigits, digits_value}

-- another byte isn't among the digits of a number
pub decimal_without : (byte n : ℕ) → n < 2 ^ 64 → is_ascii_digit byte ≡ false → All (λ b. b ≢ byte) (decimal n)
decimal_without byte n fits other k d inside =
    let digit = digit_at (decimal n) k (decimal_is_IsNumeral n fits).0.1 inside in
    rw (get_or_default_zero (decimal n) k d inside) (λ same. let among = rw same at digit in grind arith)

-- the bytes are digits that write the value
pub record IsRead (value : ℕ) (digits : List ℕ) : Type 0 where
  pub all_digits : AllDigits 10 digits
  pub worth : digits_value 10 digits ≡ value

-- one digit more
pub read_more : (value i : ℕ) (text : List ℕ) → IsRead value (take i text) → i < length text → 48 ≤ get_or text i 0 → get_or text i 0 ≤ 57
    → IsRead (value * 10 + (get_or text i 0 - 48)) (take (i + 1) text)
read_more value i text read inside low high =
    let worth_here = digit_value_digit (get_or text i 0) (low, high) in
    record {
      all_digits = digits_more 10 text i inside read.all_digits (omega arith);
      worth = digits_value_more 10 text i inside ∙ omega (arith, read.worth);
    }

-- digits with no leading zero are the text of what they write
pub read_whole : (value : ℕ) (text : List ℕ) → IsRead value text → 0 < length text → (1 < length text → get_or text 0 0 ≢ 48) → value < 2 ^ 64
    → text ≡ decimal value
read_whole value text read some leading fits =
    let alone : get_or text 0 0 ≡ 48 → length text ≡ 1 = λ zero_first.
    elim (cases_lt 1 (length text)) [
      | inl more ↦ absurd (leading more zero_first)
      | inr one ↦ omega arith
    ] in
    let small : digits_value 10 text < 2 ^ 64 = omega (arith, read.worth) in
    sym (decimal-digits_value (numerals_by_value _ tells_digits) text read.all_digits some alone small) ∙ ap decimal read.worth

-- the digits of a decimal number write it
pub decimal_value : (value n : ℕ) (text : List ℕ) → IsRead value text → n < 2 ^ 64 → text ≡ decimal n → value ≡ n
decimal_value value n text read fits same =
    sym read.worth ∙ ap (digits_value 10) same ∙ (decimal_is_IsNumeral n fits).1

pub decimal_is_some : (n : ℕ) (text : List ℕ) → n < 2 ^ 64 → text ≡ decimal n → 0 < length text
decimal_is_some n text fits same = rw same (decimal_nonempty n fits)

-- a decimal number of two digits or more doesn't begin with 0
pub decimal_leads : (n : ℕ) (text : List ℕ) → n < 2 ^ 64 → text ≡ decimal n → 1 < length text → get_or text 0 0 ≢ 48
decimal_leads n text fits same more zero_first =
    elim (cases_lt n 10) [
      | inl one ↦ omega (arith, ap length (same ∙ decimal_digit n one))
      | inr above ↦ omega (arith, first_decimal n (omega arith) fits, ap (λ t. get_or t 0 0) same)
    ]

-- each next byte of a decimal number is a digit that keeps what is read within the number
pub decimal_goes_on : (value i n : ℕ) (text : List ℕ) → IsRead value (take i text) → i < length text → n < 2 ^ 64 → text ≡ decimal n
    → (48 ≤ get_or text i 0) × (get_or text i 0 ≤ 57) × (value * 10 + (get_or text i 0 - 48) ≤ n)
decimal_goes_on value i n text read inside fits same =
    let numeral = decimal_is_IsNumeral n fits in
    let all : AllDigits 10 text = rw same numeral.0.1 in
    let digit = digit_at text i all inside in
    let more = read_more value i text read inside digit.0 digit.1 in
    let below = digits_value-take-le 10 text (i + 1) (omega arith) in
    (digit.0, digit.1, omega (arith, more.worth, ap (digits_value 10) same, numeral.1))

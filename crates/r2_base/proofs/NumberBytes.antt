-- The bytes of a number and the number of bytes are each other's inverse, for each width.
use Rattle.std.proofs.Common.{◌≡◌, ℕ, zero, suc, ◌+◌, ◌<◌, ◌^◌, ◌≤◌, List, ◌++◌, length, take, drop, arith, inl, inr, refl, sym, ap, ◌∙◌}
use Rattle.std.proofs.lemmas.Nat.{be_bytes_2, be_bytes_4, be_bytes_8, from_be_bytes-to_be_bytes_2, from_be_bytes-to_be_bytes_4, from_be_bytes-to_be_bytes_8}
use Rattle.std.proofs.lemmas.Bool.{cases_lt}
use Rattle.std.proofs.lemmas.List.{get_or-take, get_or_append_left, get_or_past, drop_at, take-append-drop, length-append, length-take}
use Rattle.std.specs.Int.{byte_at}
use Rattle.byteorder.specs.Endian.{big_bytes, big_from, big_number}
use Rattle.r2_base.specs.Numbers.{u16_bytes, u32_bytes, u64_bytes, AreBytes}

pub byte_at-lt : (place n : ℕ) → byte_at place n < 256
byte_at-lt zero n = omega arith
byte_at-lt (suc place) n = omega arith

-- the first bytes alone make the number
big_from-append : (i n : ℕ) (xs ys : List ℕ) → i + n ≤ length xs → big_from i n (xs ++ ys) ≡ big_from i n xs
big_from-append i zero xs ys within = refl
big_from-append i (suc n) xs ys within =
    rw (get_or_append_left xs ys 0 i (omega arith), big_from-append (suc i) n xs ys (omega arith)) refl

pub AreBytes-take : (n : ℕ) (bytes : List ℕ) → AreBytes bytes → AreBytes (take n bytes)
AreBytes-take n bytes are i =
    elim (cases_lt i n) [
      | inl lt ↦ rw (get_or-take n bytes i 0 lt) (are i)
      | inr le ↦ rw (get_or_past (take n bytes) i 0 (omega (arith, length-take n bytes))) (omega arith)
    ]

-- each of a number's bytes is a byte
AreBytes-big_bytes : (size n : ℕ) → AreBytes (big_bytes size n)
AreBytes-big_bytes zero n i = omega arith
AreBytes-big_bytes (suc size) n zero = byte_at-lt size n
AreBytes-big_bytes (suc size) n (suc i) = AreBytes-big_bytes size n i

-- numbers below a limit have so many bytes, which give them back
pub record IsWide (size limit : ℕ) (text : ℕ → List ℕ) : Type 0 where
  pub len : (n : ℕ) → length (text n) ≡ size
  pub are_bytes : (n : ℕ) → AreBytes (text n)
  pub again : (n : ℕ) → n < limit → big_number size (text n) ≡ n
  pub back : (bytes : List ℕ) → length bytes ≡ size → AreBytes bytes → text (big_number size bytes) ≡ bytes
  pub below : (bytes : List ℕ) → AreBytes bytes → big_number size bytes < limit

pub wide16 : IsWide 2 (2 ^ 16) u16_bytes
unfolding u16_bytes
wide16 = record {
  len = λ n. refl;
  are_bytes = AreBytes-big_bytes 2;
  again = λ n fits. omega (arith, from_be_bytes-to_be_bytes_2 n fits);
  back = λ bytes len small. be_bytes_2 bytes (big_number 2 bytes) len small (omega arith);
  below = λ bytes small. omega (arith, small 0, small 1);
}

pub wide32 : IsWide 4 (2 ^ 32) u32_bytes
unfolding u32_bytes
wide32 = record {
  len = λ n. refl;
  are_bytes = AreBytes-big_bytes 4;
  again = λ n fits. omega (arith, from_be_bytes-to_be_bytes_4 n fits);
  back = λ bytes len small. be_bytes_4 bytes (big_number 4 bytes) len small (omega arith);
  below = λ bytes small. omega (arith, small 0, small 1, small 2, small 3);
}

pub wide64 : IsWide 8 (2 ^ 64) u64_bytes
unfolding u64_bytes
wide64 = record {
  len = λ n. refl;
  are_bytes = AreBytes-big_bytes 8;
  again = λ n fits. omega (arith, from_be_bytes-to_be_bytes_8 n fits);
  back = λ bytes len small. be_bytes_8 bytes (big_number 8 bytes) len small (omega arith);
  below = λ bytes small. omega (arith, small 0, small 1, small 2, small 3, small 4, small 5, small 6, small 7);
}

-- a number's bytes, whatever follows them, give it back
pub wide-again : (size limit : ℕ) (text : ℕ → List ℕ) → IsWide size limit text → (n : ℕ) (rest : List ℕ) → n < limit → big_number size (text n ++ rest) ≡ n
wide-again size limit text wide n rest fits =
    big_from-append 0 size (text n) rest (omega (arith, wide.len n)) ∙ wide.again n fits

-- bytes begin with those of the number that the first of them give
pub wide-begin : (size limit : ℕ) (text : ℕ → List ℕ) → IsWide size limit text → (bytes : List ℕ) → AreBytes bytes → size ≤ length bytes
    → bytes ≡ text (big_number size bytes) ++ drop size bytes
wide-begin size limit text wide bytes small long =
    let prefix = take size bytes in
    let len : length prefix ≡ size = omega (arith, length-take size bytes) in
    let whole : prefix ++ drop size bytes ≡ bytes = take-append-drop size bytes in
    let number : big_number size bytes ≡ big_number size prefix =
    sym (ap (big_number size) whole) ∙ big_from-append 0 size prefix (drop size bytes) (omega arith) in
    let same : text (big_number size bytes) ≡ prefix = ap text number ∙ wide.back prefix len (AreBytes-take size bytes small) in
    sym whole ∙ ap (λ (p : List ℕ). p ++ drop size bytes) (sym same)

-- what is known of bytes that begin with those of a number
pub record Begins (size n : ℕ) (bytes rest : List ℕ) : Type 0 where
  pub long : size ≤ length bytes
  pub number : big_number size bytes ≡ n
  pub after : drop size bytes ≡ rest

-- bytes that begin with a number's give it, and the rest after it
pub wide-first : (size limit : ℕ) (text : ℕ → List ℕ) → IsWide size limit text → (bytes : List ℕ) (n : ℕ) (rest : List ℕ) → n < limit → bytes ≡ text n ++ rest
    → Begins size n bytes rest
wide-first size limit text wide bytes n rest fits same =
    record {
      long = omega (arith, ap length same, length-append (text n) rest, wide.len n);
      number = ap (big_number size) same ∙ wide-again size limit text wide n rest fits;
      after = ap (drop size) same ∙ drop_at (text n) rest size (wide.len n);
    }

-- numbers of one width with the same bytes are the same
pub wide-injective : (size limit : ℕ) (text : ℕ → List ℕ) → IsWide size limit text → (m n : ℕ) → m < limit → n < limit → text m ≡ text n → m ≡ n
wide-injective size limit text wide m n fits_m fits_n same = sym (wide.again m fits_m) ∙ ap (big_number size) same ∙ wide.again n fits_n

pub length-u16_bytes : (n : ℕ) → length (u16_bytes n) ≡ 2
length-u16_bytes = wide16.len

pub length-u32_bytes : (n : ℕ) → length (u32_bytes n) ≡ 4
length-u32_bytes = wide32.len

pub length-u64_bytes : (n : ℕ) → length (u64_bytes n) ≡ 8
length-u64_bytes = wide64.len

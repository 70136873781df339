-- The parts of a reply that isn't short.
use Rattle.std.proofs.Common.{◌≡◌, ℕ, ◌<◌, ◌^◌, List, ◌∷◌, ◌++◌, length, drop, refl, ap, ◌∙◌, arith, length-append, codes, lt-ltb, le-ltb, ◌≤◌}
use Rattle.std.specs.Prelude.{slice_index}
use Rattle.byteorder.specs.Endian.{big_number}
use Rattle.r2_base.specs.Numbers.{u64_bytes}
use Rattle.r2_base.proofs.NumberBytes.{length-u64_bytes, wide64}
use Rattle.hc_text.specs.End.{hex_or_dash, reply_text, served_text}

pub reply_text-short : (payload : List ℕ) → length payload < 9 → reply_text payload ≡ codes "short " ++ hex_or_dash payload
unfolding reply_text
reply_text-short payload short = rw (lt-ltb (length payload) 9 short) refl

-- the places of the parts
parts : (index status : ℕ) (value : List ℕ)
    → served_text (big_number 8 (u64_bytes index ++ status ∷ value)) (slice_index (u64_bytes index ++ status ∷ value) 8) (drop 9 (u64_bytes index ++ status ∷ value))
    ≡ served_text (big_number 8 (u64_bytes index)) status value
unfolding u64_bytes
parts index status value = refl

pub reply_text-whole : (index status : ℕ) (value : List ℕ) → index < 2 ^ 64 → reply_text (u64_bytes index ++ status ∷ value) ≡ served_text index status value
unfolding reply_text
reply_text-whole index status value fits =
    let bytes = u64_bytes index in
    let eight : length bytes ≡ 8 = length-u64_bytes index in
    let long : 9 ≤ length (bytes ++ status ∷ value) = omega (arith, length-append bytes (status ∷ value)) in
    rw (le-ltb _ 9 long) (parts index status value ∙ ap (λ n. served_text n status value) (wide64.again index fits))

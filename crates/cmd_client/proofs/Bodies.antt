-- The body of a call is no longer than its line.
use Rattle.std.proofs.Common.{◌≡◌, inl, inr, ℕ, ◌+◌, ◌≤◌, List, ◌∷◌, ◌++◌, length, ap, arith, length-append}
use Rattle.std.specs.Prelude.{codes}
use Rattle.r2_base.specs.Numbers.{u16_bytes}
use Rattle.r2_base.proofs.NumberBytes.{length-u16_bytes}
use Rattle.hex.proofs.HexLemmas.{decode_of-ok}
use Rattle.hc_store.specs.Command.{Command, Get, Put, Del, Cas, Scan, Count}
use Rattle.hc_store.specs.Spelling.{sized, spelling}
use Rattle.hc_text.specs.declared.call.Call.{Call}
use Rattle.hc_text.specs.Call.{Is, IsCallLine, IsLimitText, IsValueText, Says, Spaced}

value-short : (value text : List ℕ) → IsValueText value text → length value ≤ length text
value-short value text (inl plain) = let e = ap (λ (l : List ℕ). length l) plain.same in omega (arith, e)
value-short value text (inr hex) =
    let d = decode_of-ok hex.digits value hex.decoded in
    let e = ap (λ (l : List ℕ). length l) hex.marked in
    let f = length-append (codes "x:") hex.digits in
    omega (arith, d.2, e, f)

-- a word of so many bytes, one space and the rest
spaced-long : (First Rest : List ℕ → Type 0) (text : List ℕ) (s : Spaced First Rest text) → length text ≡ length s.word + (1 + length s.rest)
spaced-long First Rest text s = let e = ap (λ (l : List ℕ). length l) s.joined in let f = length-append s.word (32 ∷ s.rest) in omega (arith, e, f)

sized-long : (field : List ℕ) → length (sized field) ≡ 2 + length field
sized-long field = omega (arith, length-append (u16_bytes (length field)) field, length-u16_bytes (length field))

said-short : (command : Command) (line : List ℕ) → Says command line → length (spelling command) ≤ length line
unfolding spelling
said-short (Get key) line s =
    omega (arith, spaced-long (Is (codes "get")) (IsValueText key) line s, ap (λ (l : List ℕ). length l) s.first, value-short key s.rest s.behind, sized-long key)
said-short (Put key value) line s =
    let t = s.behind in
    omega (
      arith,
      spaced-long (Is (codes "put")) (Spaced (IsValueText key) (IsValueText value)) line s,
      ap (λ (l : List ℕ). length l) s.first,
      spaced-long (IsValueText key) (IsValueText value) s.rest t,
      value-short key t.word t.first,
      value-short value t.rest t.behind,
      sized-long key,
      length-append (sized key) value,
    )
said-short (Del key) line s =
    omega (arith, spaced-long (Is (codes "del")) (IsValueText key) line s, ap (λ (l : List ℕ). length l) s.first, value-short key s.rest s.behind, sized-long key)
said-short (Cas key old new) line s =
    let t = s.behind in
    let u = t.behind in
    omega (
      arith,
      spaced-long (Is (codes "cas")) (Spaced (IsValueText key) (Spaced (IsValueText old) (IsValueText new))) line s,
      ap (λ (l : List ℕ). length l) s.first,
      spaced-long (IsValueText key) (Spaced (IsValueText old) (IsValueText new)) s.rest t,
      spaced-long (IsValueText old) (IsValueText new) t.rest u,
      value-short key t.word t.first,
      value-short old u.word u.first,
      value-short new u.rest u.behind,
      sized-long key,
      sized-long old,
      length-append (sized key) (sized old ++ new),
      length-append (sized old) new,
    )
said-short (Scan key limit) line s =
    let t = s.behind in
    omega (
      arith,
      spaced-long (Is (codes "scan")) (Spaced (IsValueText key) (IsLimitText limit)) line s,
      ap (λ (l : List ℕ). length l) s.first,
      spaced-long (IsValueText key) (IsLimitText limit) s.rest t,
      value-short key t.word t.first,
      sized-long key,
      length-append (sized key) (u16_bytes limit),
      length-u16_bytes limit,
    )
said-short Count line s = omega (arith, ap (λ (l : List ℕ). length l) s)

pub body-short : (line : List ℕ) (call : Call) → IsCallLine line call → length call.body ≤ length line
body-short line call (inl service) =
    omega (arith, ap (λ (c : Call). length c.body) service.asked, said-short service.command line service.said)
body-short line call (inr s) =
    let t = s.behind in
    omega (arith, spaced-long _ _ line s, spaced-long _ _ s.rest t, value-short call.body t.rest t.behind)

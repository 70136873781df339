-- Where the line of a datagram is cut: an address has no space.
use Rattle.std.proofs.Common.{◌≡◌, ◌≢◌, ◌<◌, ◌^◌, ◌/◌, ◌%◌, ℕ, zero, suc, List, [], ◌∷◌, ◌++◌, All, codes, refl, subst, sym, ◌∙◌, append_assoc, arith, decimal}
use Rattle.std.specs.Int.{byte_at}
use Rattle.std.proofs.lemmas.List.Elements.{All-append}
use Rattle.r2_base.specs.declared.addr.Addr.{Addr}
use Rattle.r2_base.specs.Addr.{IsAddrText, addr_text, ip_text}
use Rattle.r2_base.specs.Text.{IsSplit}
use Rattle.r2_base.proofs.Decimals.{decimal_without}
use Rattle.cmd_script.specs.Line.{IsIncoming, IsSentBy}

abbrev NoSpace : List ℕ → Type 0
NoSpace text = All (λ b. b ≢ 32) text

both : (x y : List ℕ) → NoSpace x → NoSpace y → NoSpace (x ++ y)
both x y first second = All-append (λ b. b ≢ 32) x y first second

one_other : (b : ℕ) → b ≢ 32 → NoSpace (b ∷ [])
one_other b other zero d inside same = other same
one_other b other (suc k) d inside same = absurd (omega arith)

number_has_no_space : (n : ℕ) → n < 2 ^ 64 → NoSpace (decimal n)
number_has_no_space n fits = decimal_without 32 n fits refl

byte_has_no_space : (below n : ℕ) → NoSpace (decimal (byte_at below n))
byte_has_no_space zero n = number_has_no_space (n % 256) (omega arith)
byte_has_no_space (suc below) n = number_has_no_space (n / 256 ^ suc below % 256) (omega arith)

ip_has_no_space : (ip : ℕ) → NoSpace (ip_text ip)
unfolding ip_text
ip_has_no_space ip =
    let dot = one_other 46 (λ (same : 46 ≡ 32). absurd (omega arith)) in
    let first = both _ _ (byte_has_no_space 3 ip) dot in
    let second = both _ _ (both _ _ first (byte_has_no_space 2 ip)) dot in
    let third = both _ _ (both _ _ second (byte_has_no_space 1 ip)) dot in
    both _ _ third (byte_has_no_space 0 ip)

address_has_no_space : (from : Addr) (text : List ℕ) → IsAddrText from text → NoSpace text
unfolding addr_text
address_has_no_space from text named =
    let colon = one_other 58 (λ (same : 58 ≡ 32). absurd (omega arith)) in
    let front = both _ _ (ip_has_no_space from.ip) colon in
    subst NoSpace (sym named.spelled) (both _ _ front (number_has_no_space from.port (omega arith)))

pub behind_in : (text : List ℕ) (from : Addr) (digits : List ℕ) (sent : IsSentBy text from digits) → text ≡ codes "in " ++ (sent.address ++ 32 ∷ digits)
behind_in text from digits sent = sent.spelled ∙ simp append_assoc

pub address_is_split : (from : Addr) (address rest digits : List ℕ) → IsAddrText from address → rest ≡ address ++ 32 ∷ digits → IsSplit 32 rest address digits
address_is_split from address rest digits named joined =
    record { joined = joined; first = address_has_no_space from address named }

pub is_sent : (text : List ℕ) (from : Addr) (bytes : List ℕ) (said : IsIncoming text from bytes) → IsSentBy text from said.digits
is_sent text from bytes said = record { address = said.address; named = said.named; spelled = said.spelled }

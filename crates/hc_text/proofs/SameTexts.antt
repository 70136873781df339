-- A text is that of one number, one address, one policy, one list of addresses and one list of bounds.
use Rattle.std.proofs.Common.{◌≡◌, ℕ, ◌<◌, ◌≤◌, ◌^◌, List, [], ◌∷◌, ◌++◌, length, map, get_or, decimal, false, inl, inr, refl, sym, ap, subst, ◌∙◌, arith}
use Rattle.std.specs.Char.{is_ascii_digit}
use Rattle.std.proofs.Math.ListN.{replicate}
use Rattle.std.proofs.Math.Seq.{get_or-append_seam}
use Rattle.std.proofs.lemmas.List.{get_or-replicate, get_or_append_left, length-replicate}
use Rattle.std.proofs.lemmas.List.Elements.{All-cons, All-nil, All-replicate}
use Rattle.std.proofs.lemmas.Fmt.{decimal_injective}
use Rattle.r2_base.specs.declared.addr.Addr.{Addr}
use Rattle.r2_base.specs.Addr.{IsAddrText, addr_text}
use Rattle.r2_base.specs.Text.{IsSplit}
use Rattle.r2_base.proofs.AddrTexts.{from_b, from_c, from_d, addr_from_parts, addr_text-parts, ip_from_bytes, octet_split}
use Rattle.r2_base.proofs.NumberBytes.{byte_at-lt}
use Rattle.r2_base.proofs.Splits.{NoneBefore, split-only}
use Rattle.hc_replier.specs.Bounds.{AreBounds}
use Rattle.hc_text.specs.declared.policy.Policy.{Policy}
use Rattle.hc_text.specs.declared.policy.Policy.TheVariants.{Fixed, Jbsq, Replicated}
use Rattle.hc_text.specs.Texts.{IsAddrList, IsBoundList, IsBoundsText, IsMemberText, IsNameText, IsNumberText, IsOneBound, IsPolicyText}
use Rattle.hc_text.proofs.Lists.{FitsBound, IsNamed, parts, parts-addrs, parts-bounds, parts-number, same_items}

pub same_number : (least most a b : ℕ) (text : List ℕ) → most < 2 ^ 64 → IsNumberText least most a text → IsNumberText least most b text → a ≡ b
same_number least most a b text fits one other =
    decimal_injective a b (omega (arith, one.to_most, fits)) (omega (arith, other.to_most, fits)) (sym one.spelled ∙ other.spelled)

pub same_policy : (a b : Policy) (text : List ℕ) → IsPolicyText a text → IsPolicyText b text → a ≡ b
same_policy Fixed Fixed text one other = refl
same_policy Jbsq Jbsq text one other = refl
same_policy Replicated Replicated text one other = refl
same_policy Fixed Jbsq text one other = absurd (omega (arith, ap length (sym one ∙ other)))
same_policy Fixed Replicated text one other = absurd (omega (arith, ap length (sym one ∙ other)))
same_policy Jbsq Fixed text one other = absurd (omega (arith, ap length (sym one ∙ other)))
same_policy Jbsq Replicated text one other = absurd (omega (arith, ap length (sym one ∙ other)))
same_policy Replicated Fixed text one other = absurd (omega (arith, ap length (sym one ∙ other)))
same_policy Replicated Jbsq text one other = absurd (omega (arith, ap length (sym one ∙ other)))

pub same_file_name : (a b text : List ℕ) → IsNameText a text → IsNameText b text → a ≡ b
same_file_name a b text one other = sym one.1 ∙ other.1

-- ---- addresses

-- a text is split at a byte in one way
same_split : (byte : ℕ) (text front rest front' rest' : List ℕ) → IsSplit byte text front rest → IsSplit byte text front' rest' → (front ≡ front') × (rest ≡ rest')
same_split byte text front rest front' rest' one other =
    let here : get_or text (length front) 0 ≡ byte = rw one.joined (get_or-append_seam front byte rest 0) in
    let before : NoneBefore byte (length front) text = λ k below. rw (one.joined, get_or_append_left front (byte ∷ rest) 0 k below) (one.first k 0 below) in
    let cut = split-only byte (length front) text front rest before here one in
    let cut' = split-only byte (length front) text front' rest' before here other in
    (sym cut.0 ∙ cut'.0, sym cut.1 ∙ cut'.1)

-- numbers below 256 that end at the same byte of a text are the same, and so is what follows
same_octet : (byte m n : ℕ) (text rest rest' : List ℕ) → is_ascii_digit byte ≡ false → m < 256 → n < 256 → text ≡ decimal m ++ byte ∷ rest → text ≡ decimal n ++ byte ∷ rest'
    → (m ≡ n) × (rest ≡ rest')
same_octet byte m n text rest rest' other fits fits' is is' =
    let cut = same_split byte text _ _ _ _ (octet_split byte m text rest other fits is) (octet_split byte n text rest' other fits' is') in
    (decimal_injective m n (omega (arith, fits)) (omega (arith, fits')) cut.0, cut.1)

pub same_addr : (a b : Addr) (text : List ℕ) → IsAddrText a text → IsAddrText b text → a ≡ b
same_addr a b text one other =
    let first = same_octet 46 _ _ text (from_b a) (from_b b) refl (byte_at-lt 3 a.ip) (byte_at-lt 3 b.ip) (one.spelled ∙ addr_text-parts a) (other.spelled ∙ addr_text-parts b) in
    let second = same_octet 46 _ _ (from_b a) (from_c a) (from_c b) refl (byte_at-lt 2 a.ip) (byte_at-lt 2 b.ip) refl first.1 in
    let third = same_octet 46 _ _ (from_c a) (from_d a) (from_d b) refl (byte_at-lt 1 a.ip) (byte_at-lt 1 b.ip) refl second.1 in
    let fourth = same_octet 58 _ _ (from_d a) (decimal a.port) (decimal b.port) refl (byte_at-lt 0 a.ip) (byte_at-lt 0 b.ip) refl third.1 in
    let port = decimal_injective a.port b.port (omega (arith, one.port_fits)) (omega (arith, other.port_fits)) fourth.1 in
    addr_from_parts b _ _ _ _ a.ip a.port other.ip_fits first.0 second.0 third.0 fourth.0 (sym (ip_from_bytes a.ip one.ip_fits)) port

pub addr_known : (a b : Addr) → IsNamed a → IsNamed b → addr_text a ≡ addr_text b → a ≡ b
addr_known a b one other same =
    same_addr a b (addr_text a) one (record { ip_fits = other.ip_fits; port_is_set = other.port_is_set; port_fits = other.port_fits; spelled = same })

pub same_addrs : (most : ℕ) (xs ys : List Addr) (text : List ℕ) → IsAddrList most xs text → IsAddrList most ys text → xs ≡ ys
same_addrs most xs ys text one other =
    same_items IsNamed addr_text addr_known xs ys one.named other.named (sym (parts-addrs xs text one) ∙ parts-addrs ys text other)

pub same_member : (members : List Addr) (a b : ℕ) (text : List ℕ) → length members < 2 ^ 64 → IsMemberText members a text → IsMemberText members b text → a ≡ b
same_member members a b text fits one other =
    decimal_injective a b (omega (arith, one.is_member, fits)) (omega (arith, other.is_member, fits)) (sym one.spelled ∙ other.spelled)

-- ---- bounds

pub bound_known : (a b : ℕ) → FitsBound a → FitsBound b → decimal a ≡ decimal b → a ≡ b
bound_known a b one other same = decimal_injective a b (omega (arith, one)) (omega (arith, other)) same

-- one bound for each of one member is a list of one
pub one_of_one : {members : ℕ} (bounds each text : List ℕ) → IsOneBound members bounds text → IsBoundList members each text → bounds ≡ each
one_of_one bounds each text one list =
    let whole : map decimal each ≡ map decimal (one.bound ∷ []) =
    sym (parts-bounds each text list) ∙ ap parts one.number.spelled ∙ parts-number one.bound (omega (arith, one.number.to_most)) in
    let single : each ≡ one.bound ∷ [] =
    same_items FitsBound decimal bound_known each (one.bound ∷ []) list.valid.each (All-cons FitsBound one.bound [] one.number.to_most (All-nil FitsBound)) whole in
    one.for_all ∙ ap (λ n. replicate n one.bound) (sym list.one_each ∙ ap length single) ∙ sym single

pub same_bounds : (members : ℕ) (xs ys text : List ℕ) → IsBoundsText members xs text → IsBoundsText members ys text → xs ≡ ys
same_bounds members xs ys text (inl one) (inl other) =
    one.for_all ∙ ap (replicate members) (same_number 1 1024 one.bound other.bound text (omega arith) one.number other.number) ∙ sym other.for_all
same_bounds members xs ys text (inl one) (inr other) = one_of_one xs ys text one other
same_bounds members xs ys text (inr one) (inl other) = sym (one_of_one ys xs text other one)
same_bounds members xs ys text (inr one) (inr other) =
    same_items FitsBound decimal bound_known xs ys one.valid.each other.valid.each (sym (parts-bounds xs text one) ∙ parts-bounds ys text other)

-- bounds of a group are such as it may have, one for each member
pub bounds_valid : (members : ℕ) (bounds text : List ℕ) → 1 ≤ members → members ≤ 7 → IsBoundsText members bounds text → AreBounds bounds × (length bounds ≡ members)
bounds_valid members bounds text some few (inr list) = (list.valid, list.one_each)
bounds_valid members bounds text some few (inl one) = subst (λ bounds. AreBounds bounds × (length bounds ≡ members)) (sym one.for_all) (valid, size)
  where
    size : length (replicate members one.bound) ≡ members
    size = length-replicate members one.bound

    valid : AreBounds (replicate members one.bound)
    valid = record {
      few = omega (arith, size);
      each = All-replicate FitsBound members one.bound one.number.to_most;
      some = (0, one.bound, omega (arith, size), get_or-replicate members 0 one.bound one.bound (omega arith), omega (arith, one.number.from_least));
    }

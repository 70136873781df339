-- Datagrams that are sent one after another, up to a fault.
use Rattle.std.proofs.Common.{◌≡◌, ℕ, List, [], ◌∷◌, ◌++◌, refl, sym, ap, ◌∙◌, append_assoc, ◌<◌, ◌+◌, suc, length, get_or, take, drop, drop-cons, take-append-drop, arith, inl, inr}
use Rattle.r2_base.specs.declared.datagram.Datagram.{Datagram}
use Rattle.r2_link.specs.Links.{LinkPasses, LinkTold, SendsAtMost}
use Rattle.r2_link.proofs.Links.{LinkPasses-then}
use Rattle.cmd_loop.specs.Sending.{SendsPrefix}

-- sending goes on to the next, or stops at it
pub prefix-begun : (a b : LinkTold) (d : Datagram) (ds : List Datagram) → SendsAtMost a b d → SendsPrefix a b (d ∷ ds)
prefix-begun a b d ds (inl none) = record { sent = []; unsent = d ∷ ds; split = refl; passed = none }
prefix-begun a b d ds (inr gave) = record { sent = d ∷ []; unsent = ds; split = refl; passed = gave }

-- some were sent whole, and of the rest a prefix
pub prefix-then : (a b c : LinkTold) (xs ys : List Datagram) → LinkPasses a b [] xs → SendsPrefix b c ys → SendsPrefix a c (xs ++ ys)
prefix-then a b c xs ys p q = record {
  sent = xs ++ q.sent;
  unsent = q.unsent;
  split = ap (λ l. xs ++ l) q.split ∙ sym (append_assoc xs q.sent q.unsent);
  passed = LinkPasses-then a b c [] [] xs q.sent p q.passed;
}

-- a prefix of the first of them was sent
pub prefix-longer : (a b : LinkTold) (xs ys : List Datagram) → SendsPrefix a b xs → SendsPrefix a b (xs ++ ys)
prefix-longer a b xs ys p = record {
  sent = p.sent;
  unsent = p.unsent ++ ys;
  split = ap (λ l. l ++ ys) p.split ∙ append_assoc p.sent p.unsent ys;
  passed = p.passed;
}

-- a list around one of its places
pub around : (xs : List Datagram) (i : ℕ) (d : Datagram) → i < length xs → d ≡ get_or xs i d → take i xs ++ d ∷ drop (i + 1) xs ≡ xs
around xs i d within is =
    let e : drop i xs ≡ get_or xs i d ∷ drop (suc i) xs = drop-cons xs i d within in
    let at : suc i ≡ i + 1 = omega arith in
    ap (λ l. take i xs ++ l) (ap (λ (x : Datagram). x ∷ drop (i + 1) xs) is ∙ ap (λ (n : ℕ). get_or xs i d ∷ drop n xs) (sym at) ∙ sym e) ∙ take-append-drop i xs

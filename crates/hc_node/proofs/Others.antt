-- What is sent to the other members, one after another.
use Rattle.std.proofs.Common.{◌≡◌, ℕ, sym, append_assoc, ◌+◌, zero, suc, Bool, true, false, List, [], ◌∷◌, ◌++◌, map, refl, ap, ◌∙◌, append-nil, add-one, arith}
use Rattle.std.specs.List.{filter, flat_map, range_with_len}
use Rattle.std.proofs.lemmas.Grind.{flat_map-append}
use Rattle.std.proofs.lemmas.List.{map-append}
use Rattle.std.proofs.lemmas.List.Elements.{filter-append}
use Rattle.r2_base.specs.declared.datagram.Datagram.{Datagram}
use Rattle.hc_member.specs.declared.setup.Setup.{Setup}
use Rattle.hc_member.specs.Setup.{is_other}
use Rattle.hc_member.specs.Sending.{Sending, datagrams_of, datagrams_of_all}

-- one number more
range-more : (a n j : ℕ) → a + n ≡ j → range_with_len a (suc n) ≡ range_with_len a n ++ j ∷ []
range-more a zero j e = ap (λ (k : ℕ). k ∷ []) (let same : a ≡ j = omega (arith, e) in same)
range-more a (suc n) j e = ap (λ (ks : List ℕ). a ∷ ks) (range-more (a + 1) n j (omega (arith, e)))

module _ {A B : Type 0} (g : A → List B) (f : ℕ → A) (p : ℕ → Bool) where
  -- what comes of the numbers below one that pass
  abbrev of_those : ℕ → List B
  of_those n = flat_map g (map f (filter p (range_with_len 0 n)))

  split : (n : ℕ) → of_those (suc n) ≡ of_those n ++ flat_map g (map f (filter p (n ∷ [])))
  split n =
      let below = range_with_len 0 n in
      ap (λ (ks : List ℕ). flat_map g (map f (filter p ks))) (range-more 0 n n (omega arith))
      ∙ ap (λ (ks : List ℕ). flat_map g (map f ks)) (filter-append p below (n ∷ []))
      ∙ ap (λ (xs : List A). flat_map g xs) (map-append f (filter p below) (filter p (n ∷ [])))
      ∙ flat_map-append g (map f (filter p below)) (map f (filter p (n ∷ [])))

  passes : (n : ℕ) → p n ≡ true → flat_map g (map f (filter p (n ∷ []))) ≡ g (f n)
  passes n e = rw e (append-nil (g (f n)))

  fails : (n : ℕ) → p n ≡ false → flat_map g (map f (filter p (n ∷ []))) ≡ []
  fails n e = rw e refl

  those-next : (n : ℕ) → p n ≡ true → of_those (suc n) ≡ of_those n ++ g (f n)
  those-next n e = split n ∙ ap (λ (bs : List B). of_those n ++ bs) (passes n e)

  those-passed : (n : ℕ) → p n ≡ false → of_those (suc n) ≡ of_those n
  those-passed n e = split n ∙ ap (λ (bs : List B). of_those n ++ bs) (fails n e) ∙ append-nil (of_those n)

-- to the other members below a number
abbrev pub sent_below : Setup → (ℕ → Sending) → ℕ → List Datagram
sent_below s f n = datagrams_of_all s (map f (filter (is_other s) (range_with_len 0 n)))

-- to one more of them
pub sent-next : (s : Setup) (f : ℕ → Sending) (n : ℕ) → is_other s n ≡ true → sent_below s f (n + 1) ≡ sent_below s f n ++ datagrams_of s (f n)
sent-next s f n e = rw add-one (those-next (datagrams_of s) f (is_other s) n e)

-- not to the member itself
pub sent-passed : (s : Setup) (f : ℕ → Sending) (n : ℕ) → is_other s n ≡ false → sent_below s f (n + 1) ≡ sent_below s f n
sent-passed s f n e = rw add-one (those-passed (datagrams_of s) f (is_other s) n e)

-- what was sent so far, with what one more member is sent
pub step-next : (s : Setup) (f : ℕ → Sending) (n : ℕ) (first before after : List Datagram) → before ≡ first ++ sent_below s f n → is_other s n ≡ true
    → after ≡ before ++ datagrams_of s (f n) → after ≡ first ++ sent_below s f (n + 1)
step-next s f n first before after so_far other more =
    more
    ∙ ap (λ (ds : List Datagram). ds ++ datagrams_of s (f n)) so_far
    ∙ append_assoc first (sent_below s f n) (datagrams_of s (f n))
    ∙ ap (λ (ds : List Datagram). first ++ ds) (sym (sent-next s f n other))

pub step-passed : (s : Setup) (f : ℕ → Sending) (n : ℕ) (first before after : List Datagram) → before ≡ first ++ sent_below s f n → is_other s n ≡ false
    → after ≡ before → after ≡ first ++ sent_below s f (n + 1)
step-passed s f n first before after so_far own same =
    same ∙ so_far ∙ ap (λ (ds : List Datagram). first ++ ds) (sym (sent-passed s f n own))

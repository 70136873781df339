-- Lists that share a prefix.
use Rattle.std.proofs.Common.{◌≡◌, ℕ, suc, ◌<◌, ◌≤◌, List, [], ◌∷◌, ◌++◌, length, take, get_or, refl, sym, ap, ◌∙◌, arith, length-append, length-take, get_or-take, take-take}
use Rattle.std.proofs.lemmas.List.{take-append-le}
use Rattle.r2_base.specs.declared.entry.Entry.{Entry}
use Rattle.r2_base.specs.Entry.{blank_entry}
use Rattle.hc_rules.specs.Log.{Share, entry_at, term_at}

module _ {A : Type 0} where
  pub share_none : (xs ys : List A) → Share 0 xs ys
  share_none xs ys = record { here = omega arith; there = omega arith; same = refl }

  pub share_self : (n : ℕ) (xs : List A) → n ≤ length xs → Share n xs xs
  share_self n xs h = record { here = h; there = h; same = refl }

  pub share-sym : (n : ℕ) (xs ys : List A) → Share n xs ys → Share n ys xs
  share-sym n xs ys s = record { here = s.there; there = s.here; same = sym s.same }

  pub share-trans : (n : ℕ) (xs ys zs : List A) → Share n xs ys → Share n ys zs → Share n xs zs
  share-trans n xs ys zs s r = record { here = s.here; there = r.there; same = s.same ∙ r.same }

  pub share_less : (m n : ℕ) (xs ys : List A) → m ≤ n → Share n xs ys → Share m xs ys
  share_less m n xs ys h s =
      record {
        here = omega (arith, s.here);
        there = omega (arith, s.there);
        same = sym (take-take m n xs h) ∙ ap (take m) s.same ∙ take-take m n ys h;
      }

  pub share_behind : (n : ℕ) (xs ys zs : List A) → Share n xs ys → Share n xs (ys ++ zs)
  share_behind n xs ys zs s =
      record {
        here = s.here;
        there = omega (arith, s.there, length-append ys zs);
        same = s.same ∙ sym (take-append-le n ys zs s.there);
      }

  pub share_before : (n : ℕ) (xs ys zs : List A) → Share n xs ys → Share n (xs ++ zs) ys
  share_before n xs ys zs s = share-sym n ys (xs ++ zs) (share_behind n ys xs zs (share-sym n xs ys s))

  pub share_within : (n : ℕ) (xs ys zs : List A) → n ≤ length ys → Share n xs (ys ++ zs) → Share n xs ys
  share_within n xs ys zs h s = record { here = s.here; there = h; same = s.same ∙ take-append-le n ys zs h }

  pub share_get : (n k : ℕ) (d : A) (xs ys : List A) → k < n → Share n xs ys → get_or xs k d ≡ get_or ys k d
  share_get n k d xs ys h s =
      sym (get_or-take n xs k d h) ∙ ap (λ (zs : List A). get_or zs k d) s.same ∙ get_or-take n ys k d h

  pub share_take : (m n : ℕ) (xs : List A) → m ≤ n → m ≤ length xs → Share m (take n xs) xs
  share_take m n xs h l =
      record { here = omega (arith, length-take n xs); there = l; same = take-take m n xs h }

  pub share_whole : (xs ys : List A) → Share (length xs) xs ys → xs ≡ take (length xs) ys
  share_whole xs ys s = sym (take-length xs) ∙ s.same
    where
      take-length : (zs : List A) → take (length zs) zs ≡ zs
      take-length [] = refl
      take-length (z ∷ zs) = ap (z ∷◌) (take-length zs)

pub entry_same : (n k : ℕ) (xs ys : List Entry) → k < n → Share n xs ys → entry_at xs (suc k) ≡ entry_at ys (suc k)
entry_same n k xs ys h s = share_get n k (blank_entry 0) xs ys h s

pub term_same : (n k : ℕ) (xs ys : List Entry) → k < n → Share n xs ys → term_at xs (suc k) ≡ term_at ys (suc k)
term_same n k xs ys h s = ap (λ (e : Entry). e.term) (entry_same n k xs ys h s)

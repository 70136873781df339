-- Where a message is found, and what is left without it or with another in its place.
use Rattle.std.proofs.Common.{◌≡◌, ◌<◌, ◌⊎◌, inl, inr, ℕ, zero, suc, true, false, List, [], ◌∷◌, Some, None, length, get_or, set, ltb, refl, ap, ◌∙◌, arith}
use Rattle.std.specs.List.{find, position, position_or_len, remove}
use Rattle.std.proofs.lemmas.Bool.{cases_Bool, ltb-false}
use Rattle.std.proofs.lemmas.List.Folds.{find_at}
use Rattle.std.proofs.lemmas.List.Quantifiers.{position-Some}
use Rattle.std.proofs.lemmas.Option.{slice_get_past}
use Rattle.r2_frag.specs.declared.key.Key.{Key}
use Rattle.r2_frag.specs.declared.unfinished.Unfinished.{Unfinished}
use Rattle.r2_frag.specs.Assembly.{begun, is_of, put, without}

-- the first message with the key is at this place
pub record IsFirst (key : Key) (messages : List Unfinished) (place : ℕ) (d : Unfinished) : Type 0 where
  pub has : is_of key (get_or messages place d) ≡ true
  pub found : find (is_of key) messages ≡ Some (get_or messages place d)
  pub left : without key messages ≡ remove messages place
  pub replaced : (next : Unfinished) → next.key ≡ key → put next messages ≡ set messages place next

-- none has it
pub record IsAbsent (key : Key) (messages : List Unfinished) : Type 0 where
  pub found : find (is_of key) messages ≡ None
  pub left : without key messages ≡ messages

-- a first message that hasn't the key changes nothing
absent-more : (key : Key) (m : Unfinished) (rest : List Unfinished) → is_of key m ≡ false → IsAbsent key rest → IsAbsent key (m ∷ rest)
unfolding without
absent-more key m rest e a =
    record { found = rw e a.found; left = rw e (ap (λ (xs : List Unfinished). m ∷ xs) a.left) }

-- where the first message has the key, it is found at place 0
first-here : (key : Key) (m : Unfinished) (rest : List Unfinished) (d : Unfinished) → is_of key m ≡ true → IsFirst key (m ∷ rest) 0 d
unfolding without put
first-here key m rest d e =
    record {
      has = e;
      found = rw e refl;
      left = rw e refl;
      replaced = λ next same. let here : is_of next.key m ≡ true = ap (λ (k : Key). is_of k m) same ∙ e in rw here refl;
    }

-- and one that hasn't moves it
first-more : (key : Key) (m : Unfinished) (rest : List Unfinished) (place : ℕ) (d : Unfinished) → is_of key m ≡ false → IsFirst key rest place d → IsFirst key (m ∷ rest) (suc place) d
unfolding without put
first-more key m rest place d e f =
    record {
      has = f.has;
      found = rw e f.found;
      left = rw e (ap (λ (xs : List Unfinished). m ∷ xs) f.left);
      replaced =
          λ next same.
          let there : is_of next.key m ≡ false = ap (λ (k : Key). is_of k m) same ∙ e in
          rw there (ap (λ (xs : List Unfinished). m ∷ xs) (f.replaced next same));
    }

-- a place at which the key is had, and before which it isn't, is that of the first
first-at : (key : Key) (messages : List Unfinished) (place : ℕ) (d : Unfinished) → place < length messages → is_of key (get_or messages place d) ≡ true → ((k : ℕ) → k < place → is_of key (get_or messages k d) ≡ false) → IsFirst key messages place d
first-at key [] place d h e before = absurd (omega arith)
first-at key (m ∷ rest) zero d h e before = first-here key m rest d e
first-at key (m ∷ rest) (suc place) d h e before =
    first-more key m rest place d (before 0 (omega arith)) (first-at key rest place d (omega arith) e (λ k below. before (suc k) (omega arith)))

-- the position that is found is that of the first
pub IsFirst-position : (key : Key) (messages : List Unfinished) (place : ℕ) (d : Unfinished) → position (is_of key) messages ≡ Some place → IsFirst key messages place d
IsFirst-position key messages place d e =
    let p = position-Some (is_of key) messages place d e in
    first-at key messages place d p.0 p.1 p.2

-- either some message has the key or none
pub first_or_absent : (key : Key) (messages : List Unfinished) (d : Unfinished) → ((place : ℕ) × (place < length messages) × IsFirst key messages place d) ⊎ IsAbsent key messages
unfolding without
first_or_absent key [] d = inr (record { found = refl; left = refl })
first_or_absent key (m ∷ rest) d =
    elim (cases_Bool (is_of key m)) [
      | inl e ↦ inl (0, omega arith, first-here key m rest d e)
      | inr e ↦
          elim (first_or_absent key rest d) [
            | inl f ↦ inl (suc f.0, omega (arith, f.1), first-more key m rest f.0 d e f.2)
            | inr a ↦ inr (absent-more key m rest e a)
          ]
    ]

-- where none is found none has the key
pub IsAbsent-find : (key : Key) (messages : List Unfinished) → find (is_of key) messages ≡ None → IsAbsent key messages
IsAbsent-find key messages e =
    elim (first_or_absent key messages (begun key)) [ inl f ↦ (let found = f.2.found in cc) | inr a ↦ a ]

-- nor where no position is
pub IsAbsent-position : (key : Key) (messages : List Unfinished) → position (is_of key) messages ≡ None → IsAbsent key messages
IsAbsent-position key messages e =
    IsAbsent-find key messages (elim (cases_Bool (ltb (position_or_len (is_of key) messages) (length messages))) [
      | inl t ↦ (let some = rw t at e in cc)
      | inr f ↦
          find_at (is_of key) messages ∙ slice_get_past messages (position_or_len (is_of key) messages) (ltb-false _ _ f)
    ])

-- Whose message is found after a change, where no key has two.
use Rattle.std.proofs.Common.{◌≡◌, inl, inr, Bool, true, false, is_some, List, [], ◌∷◌, ◌++◌, Option, Some, None, refl, sym, ◌∙◌, subst}
use Rattle.std.specs.List.{find}
use Rattle.std.specs.Option.{option_or}
use Rattle.std.proofs.lemmas.Bool.{cases_Bool, false_from_ne_true}
use Rattle.std.proofs.lemmas.List.Folds.{find-append}
use Rattle.r2_frag.specs.declared.key.Key.{Key}
use Rattle.r2_frag.specs.declared.unfinished.Unfinished.{Unfinished}
use Rattle.r2_frag.specs.Assembly.{is_of, put, without}
use Rattle.r2_frag.specs.Keys.{same_key}
use Rattle.r2_frag.specs.Pending.{AreDistinct}
use Rattle.r2_frag.proofs.SameKeys.{same_key-same, same_key-true}

-- keys that aren't the same, the other way round
pub same_key-comm : (a b : Key) → same_key a b ≡ false → same_key b a ≡ false
same_key-comm a b e =
    false_from_ne_true (same_key b a) (λ t. let same = same_key-true b a t in
    let here : same_key a b ≡ true = subst (λ (k : Key). same_key a k ≡ true) (sym same) (same_key-same a) in
    let clash : true ≡ false = sym here ∙ e in
    cc)

-- or nothing
or_none : {X : Type 0} (o : Option X) → option_or o None ≡ o
or_none (Some x) = refl
or_none None = refl

module _ (p : Unfinished → Bool) where
  -- what isn't there isn't there without another
  pub none-without : (key : Key) (messages : List Unfinished) → find p messages ≡ None → find p (without key messages) ≡ None
  unfolding without
  none-without key [] e = refl
  none-without key (m ∷ rest) e =
      elim (cases_Bool (p m)) [
        | inl t ↦ (let some = rw t at e in cc)
        | inr f ↦
            (let tail : find p rest ≡ None = rw f at e in
            elim (cases_Bool (is_of key m)) [
              | inl t ↦ rw t tail
              | inr g ↦ rw (g, f) (none-without key rest tail)
            ])
      ]

  -- nor with one that isn't it
  pub none-put : (next : Unfinished) (messages : List Unfinished) → p next ≡ false → find p messages ≡ None → find p (put next messages) ≡ None
  unfolding put
  none-put next [] h e = refl
  none-put next (m ∷ rest) h e =
      elim (cases_Bool (p m)) [
        | inl t ↦ (let some = rw t at e in cc)
        | inr f ↦
            (let tail : find p rest ≡ None = rw f at e in
            elim (cases_Bool (is_of next.key m)) [
              | inl t ↦ rw (t, h) tail
              | inr g ↦ rw (g, f) (none-put next rest h tail)
            ])
      ]

  -- nor where one that isn't is added last
  pub none-push : (messages : List Unfinished) (next : Unfinished) → p next ≡ false → find p messages ≡ None → find p (messages ++ next ∷ []) ≡ None
  none-push messages next h e = find-append p messages (next ∷ []) ∙ rw (e, h) refl

  -- a last one that isn't changes nothing of what is found
  pub find-push_other : (messages : List Unfinished) (next : Unfinished) → p next ≡ false → find p (messages ++ next ∷ []) ≡ find p messages
  find-push_other messages next h =
      find-append p messages (next ∷ []) ∙ rw h (or_none (find p messages))

  -- and one that is is found, where none was
  pub find-push_same : (messages : List Unfinished) (next : Unfinished) → p next ≡ true → find p messages ≡ None → find p (messages ++ next ∷ []) ≡ Some next
  find-push_same messages next h e = find-append p messages (next ∷ []) ∙ rw (e, h) refl

-- a key without its message has none
pub find-without_same : (key : Key) (messages : List Unfinished) → AreDistinct messages → find (is_of key) (without key messages) ≡ None
unfolding without
find-without_same key [] d = refl
find-without_same key (m ∷ rest) d =
    elim (cases_Bool (is_of key m)) [
      | inl t ↦ (let same = same_key-true m.key key t in let gone : find (is_of key) rest ≡ None = subst (λ (k : Key). find (is_of k) rest ≡ None) same d.0 in rw t gone)
      | inr f ↦ rw (f, f) (find-without_same key rest d.1)
    ]

-- another key keeps its own
pub find-without_other : (key other : Key) (messages : List Unfinished) → same_key other key ≡ false → find (is_of key) (without other messages) ≡ find (is_of key) messages
unfolding without
find-without_other key other [] e = refl
find-without_other key other (m ∷ rest) e =
    elim (cases_Bool (is_of other m)) [
      | inl t ↦
          (let same = same_key-true m.key other t in
          let apart : is_of key m ≡ false = subst (λ (k : Key). same_key k key ≡ false) (sym same) e in
          rw (t, apart) refl)
      | inr f ↦
          elim (cases_Bool (is_of key m)) [
            | inl t ↦ rw (f, t) refl
            | inr g ↦ rw (f, g) (find-without_other key other rest e)
          ]
    ]

-- a message that is put is found
pub find-put_same : (key : Key) (next : Unfinished) (messages : List Unfinished) → next.key ≡ key → is_some (find (is_of key) messages) ≡ true → find (is_of key) (put next messages) ≡ Some next
unfolding put
find-put_same key next [] same e = cc
find-put_same key next (m ∷ rest) same e =
    let here : is_of key next ≡ true = subst (λ (k : Key). same_key k key ≡ true) (sym same) (same_key-same key) in
    elim (cases_Bool (is_of next.key m)) [
      | inl t ↦ rw t (rw here refl)
      | inr f ↦
          (let other : is_of key m ≡ false = subst (λ (k : Key). same_key m.key k ≡ false) same f in
          rw f (rw other (find-put_same key next rest same (rw other at e))))
    ]

-- and another key keeps its own
pub find-put_other : (key : Key) (next : Unfinished) (messages : List Unfinished) → same_key next.key key ≡ false → find (is_of key) (put next messages) ≡ find (is_of key) messages
unfolding put
find-put_other key next [] e = refl
find-put_other key next (m ∷ rest) e =
    elim (cases_Bool (is_of next.key m)) [
      | inl t ↦
          (let same = same_key-true m.key next.key t in
          let apart : is_of key m ≡ false = subst (λ (k : Key). same_key k key ≡ false) (sym same) e in
          rw (t, e, apart) refl)
      | inr f ↦
          elim (cases_Bool (is_of key m)) [
            | inl t ↦ rw f (rw t refl)
            | inr g ↦ rw f (rw g (find-put_other key next rest e))
          ]
    ]

-- distinct messages are so without one
pub AreDistinct-without : (key : Key) (messages : List Unfinished) → AreDistinct messages → AreDistinct (without key messages)
unfolding without
AreDistinct-without key [] d = tt
AreDistinct-without key (m ∷ rest) d =
    elim (cases_Bool (is_of key m)) [
      | inl t ↦ rw t d.1
      | inr f ↦ rw f (none-without (is_of m.key) key rest d.0, AreDistinct-without key rest d.1)
    ]

-- with one in the place of that with its key
pub AreDistinct-put : (next : Unfinished) (messages : List Unfinished) → AreDistinct messages → AreDistinct (put next messages)
unfolding put
AreDistinct-put next [] d = tt
AreDistinct-put next (m ∷ rest) d =
    elim (cases_Bool (is_of next.key m)) [
      | inl t ↦
          (let same = same_key-true m.key next.key t in
          rw t (subst (λ (k : Key). find (is_of k) rest ≡ None) same d.0, d.1))
      | inr f ↦
          rw f (none-put (is_of m.key) next rest (same_key-comm m.key next.key f) d.0, AreDistinct-put next rest d.1)
    ]

-- and with one added last, whose key none has
pub AreDistinct-push : (messages : List Unfinished) (next : Unfinished) → find (is_of next.key) messages ≡ None → AreDistinct messages → AreDistinct (messages ++ next ∷ [])
AreDistinct-push [] next e d = (refl, tt)
AreDistinct-push (m ∷ rest) next e d =
    elim (cases_Bool (is_of next.key m)) [
      | inl t ↦ (let some = rw t at e in cc)
      | inr f ↦
          (let tail : find (is_of next.key) rest ≡ None = rw f at e in
          (none-push (is_of m.key) rest next (same_key-comm m.key next.key f) d.0, AreDistinct-push rest next tail d.1))
    ]

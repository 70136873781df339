-- Functions with one value changed, lists with one item more, and the cases that come with them.
use Rattle.std.proofs.Common.{◌≡◌, ◌≢◌, ℕ, ◌+◌, ◌≤◌, ◌⊎◌, inl, inr, max, Bool, true, false, ◌==◌, ◌&&◌, if◌then◌else◌, List, ◌∷◌, length, Option, Some, refl, sym, ap, subst, arith}
use Rattle.std.specs.Option.{unwrap_or}
use Rattle.std.proofs.lemmas.Bool.{eqb-true, eq-eqb, ne_eqb}
use Rattle.hc_rules.specs.Log.{In}
use Rattle.hc_rules.specs.Message.{Grant, Ack, Order}
use Rattle.hc_rules.specs.Protocol.{acked, put, told}
use Rattle.hc_rules.specs.Rules.{with_grant}

-- a number is itself
pub self : (v : ℕ) → (v == v) ≡ true
self v = eq-eqb v v refl

pub other : (u v : ℕ) → u ≢ v → (u == v) ≡ false
other u v h = ne_eqb u v h

-- what holds at a number and at all others holds at each
pub split : (v : ℕ) {G : ℕ → Type 0} → G v → ((u : ℕ) → (u == v) ≡ false → G u) → (u : ℕ) → G u
split v {G} here there u = by (u == v) refl
  where
    by : (b : Bool) → (u == v) ≡ b → G u
    by true e = subst G (sym (eqb-true u v e)) here
    by false e = there u e

-- the test of a number and its equation
pub same_or_not : (u v : ℕ) → (u ≡ v) ⊎ ((u == v) ≡ false)
same_or_not u v = by (u == v) refl
  where
    by : (b : Bool) → (u == v) ≡ b → (u ≡ v) ⊎ ((u == v) ≡ false)
    by true e = inl (eqb-true u v e)
    by false e = inr e

module _ {A : Type 0} (f : ℕ → A) (v : ℕ) (x : A) where
  pub put_same : put f v x v ≡ x
  put_same = rw (self v) refl

  pub put_other : (u : ℕ) → (u == v) ≡ false → put f v x u ≡ f u
  put_other u e = rw e refl

-- what holds of the first item and of all others holds of each
pub in_more : {A : Type 0} (ys : List A) {y : A} {P : A → Type 0} → P y → ((x : A) → In x ys → P x) → (x : A) → In x (y ∷ ys) → P x
in_more ys {P = P} here there x (inl e) = subst P (sym e) here
in_more ys here there x (inr h) = there x h

-- a vote that is kept stays, whatever grant is added
pub with_grant-keeps : (granted : ℕ → ℕ → Option Grant) (t v : ℕ) (new : Grant) (s u : ℕ) (g : Grant) → granted s u ≡ Some g → with_grant granted t v new s u ≡ Some g
with_grant-keeps granted t v new s u g h = by (same_or_not s t) (same_or_not u v)
  where
    by : (s ≡ t) ⊎ ((s == t) ≡ false) → (u ≡ v) ⊎ ((u == v) ≡ false) → with_grant granted t v new s u ≡ Some g
    by (inr e) f = rw e h
    by (inl e) (inr f) =
        let row = subst (λ (x : ℕ). granted x u ≡ Some g) e h in
        subst (λ (x : ℕ). with_grant granted t v new x u ≡ Some g) (sym e) (rw (self t) (rw f row))
    by (inl e) (inl f) =
        let one = subst (λ (x : ℕ). granted x u ≡ Some g) e h in
        let two = subst (λ (x : ℕ). granted t x ≡ Some g) f one in
        let here : with_grant granted t v new t v ≡ Some g = rw (self t) (rw (self v) (ap (λ (o : Option Grant). Some (unwrap_or o new)) two)) in
        subst (λ (x : ℕ). with_grant granted t v new x u ≡ Some g) (sym e) (subst (λ (x : ℕ). with_grant granted t v new t x ≡ Some g) (sym f) here)

-- the greatest index only grows
pub larger : (b : Bool) (x y : ℕ) → y ≤ (if b then max x y else y)
larger true x y = omega arith
larger false x y = omega arith

pub acked_more : (a : Ack) (acks : List Ack) (t v : ℕ) → acked acks t v ≤ acked (a ∷ acks) t v
acked_more a acks t v = larger ((t == a.term) && (v == a.member)) a.index (acked acks t v)

pub told_more : (o : Order) (orders : List Order) (t v : ℕ) → told orders t v ≤ told (o ∷ orders) t v
told_more o orders t v = larger ((t == o.term) && (v == o.leader)) (o.previous + length o.entries) (told orders t v)

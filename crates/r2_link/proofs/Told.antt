-- What several calls did to what an object tells, one after the other.
use Rattle.std.proofs.Common.{ℕ, List, [], ◌∷◌, ◌++◌, Option, Some, None, refl, sym, ap, ◌∙◌, subst, append_assoc, append-nil}
use Rattle.r2_link.specs.Told.{IsKept, Gains, HasNone, Joins, RanDry, Takes}
use Rattle.r2_link.specs.Moments.{Tells, moments_after}

pub IsKept-refl : {A : Type 0} (a : Option A) → IsKept a a
IsKept-refl None = tt
IsKept-refl (Some x) = refl

pub IsKept-trans : {A : Type 0} (a b c : Option A) → IsKept a b → IsKept b c → IsKept a c
IsKept-trans None b c p q = tt
IsKept-trans (Some x) None c p q = absurd p
IsKept-trans (Some x) (Some y) None p q = absurd q
IsKept-trans (Some x) (Some y) (Some z) p q = q ∙ p

pub Gains-nil : {A : Type 0} (a : Option (List A)) → Gains a a []
Gains-nil None = tt
Gains-nil (Some x) = sym (append-nil x)

pub Gains-then : {A : Type 0} (a b c : Option (List A)) (xs ys : List A) → Gains a b xs → Gains b c ys → Gains a c (xs ++ ys)
Gains-then None b c xs ys p q = tt
Gains-then (Some x) None c xs ys p q = absurd p
Gains-then (Some x) (Some y) None xs ys p q = absurd q
Gains-then (Some x) (Some y) (Some z) xs ys p q = q ∙ ap (λ l. l ++ ys) p ∙ append_assoc x xs ys

pub Takes-nil : {A : Type 0} (a : Option (List A)) → Takes a a []
Takes-nil None = tt
Takes-nil (Some x) = refl

pub Takes-then : {A : Type 0} (a b c : Option (List A)) (xs ys : List A) → Takes a b xs → Takes b c ys → Takes a c (xs ++ ys)
Takes-then None b c xs ys p q = tt
Takes-then (Some x) None c xs ys p q = absurd p
Takes-then (Some x) (Some y) None xs ys p q = absurd q
Takes-then (Some x) (Some y) (Some z) xs ys p q = p ∙ ap (λ l. xs ++ l) q ∙ sym (append_assoc xs ys z)

pub Tells-nil : (a : Option (List ℕ)) → Tells a a []
Tells-nil None = tt
Tells-nil (Some x) = refl

pub Tells-then : (a b c : Option (List ℕ)) (xs ys : List ℕ) → Tells a b xs → Tells b c ys → Tells a c (xs ++ ys)
Tells-then None b c xs ys p q = tt
Tells-then (Some x) None c xs ys p q = absurd p
Tells-then (Some x) (Some y) None xs ys p q = absurd q
Tells-then (Some x) (Some y) (Some z) [] ys p q = subst (λ (l : List ℕ). Tells (Some l) (Some z) ys) p q
Tells-then (Some x) (Some y) (Some z) (m ∷ ms) ys p q = (p.0, Tells-then (Some (moments_after x)) (Some y) (Some z) ms ys p.1 q)

-- it was dry from the beginning on, and stays so
pub RanDry-from : {A : Type 0} (a b c : Option (List A)) (xs : List A) → Takes a b xs → RanDry b c → RanDry a c
RanDry-from None b c xs p q = tt
RanDry-from (Some x) None c xs p q = absurd p
RanDry-from (Some x) (Some y) None xs p q = absurd q
RanDry-from (Some x) (Some y) (Some z) xs p q = q

pub RanDry-on : {A : Type 0} (a b c : Option (List A)) → RanDry a b → Takes b c [] → RanDry a c
RanDry-on None b c p q = tt
RanDry-on (Some x) None c p q = absurd p
RanDry-on (Some x) (Some y) None p q = absurd q
RanDry-on (Some x) (Some y) (Some z) p q = sym q ∙ p

-- what a twin sent that had sent nothing, the link sent that took it back
pub Gains-joined : {A : Type 0} (old first last new : Option (List A)) (xs : List A) → HasNone old first → Gains first last xs → Joins old new last → Gains old new xs
Gains-joined None first last new xs none gave joined = tt
Gains-joined (Some x) None last new xs none gave joined = absurd none
Gains-joined (Some x) (Some y) None new xs none gave joined = absurd gave
Gains-joined (Some x) (Some y) (Some z) None xs none gave joined = absurd joined
Gains-joined (Some x) (Some y) (Some z) (Some w) xs none gave joined =
    joined ∙ ap (λ l. x ++ l) (gave ∙ ap (λ l. l ++ xs) none)

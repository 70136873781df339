-- The test of keys, and their equality.
use Rattle.std.proofs.Common.{◌≡◌, true, refl, arith}
use Rattle.std.proofs.lemmas.Bool.{and_parts, eqb-true}
use Rattle.std.proofs.lemmas.Grind.{common_steps}
use Rattle.r2_base.proofs.SameNames.{same_addr-true, same_rid-same, same_rid-true}
use Rattle.r2_frag.specs.declared.class.Class.{Class}
use Rattle.r2_frag.specs.declared.class.Class.TheVariants.{Request, Reply, Recover}
use Rattle.r2_frag.specs.declared.key.Key.{Key}
use Rattle.r2_frag.specs.Keys.{same_class, same_key}

-- the test of classes passes at equal ones alone
same_class-true : (a b : Class) → same_class a b ≡ true → a ≡ b
same_class-true Request Request e = refl
same_class-true Request Reply e = cc
same_class-true Request Recover e = cc
same_class-true Reply Request e = cc
same_class-true Reply Reply e = refl
same_class-true Reply Recover e = cc
same_class-true Recover Request e = cc
same_class-true Recover Reply e = cc
same_class-true Recover Recover e = refl

-- and at these
same_class-same : (a : Class) → same_class a a ≡ true
same_class-same Request = refl
same_class-same Reply = refl
same_class-same Recover = refl

-- keys of the same parts
same_key_parts : (a b : Key) → a.class ≡ b.class → a.policy ≡ b.policy → a.from ≡ b.from → a.rid ≡ b.rid → a ≡ b
same_key_parts a b p q r s = λ k. record { class = p k; policy = q k; from = r k; rid = s k }

-- the test of keys passes at equal ones alone
pub same_key-true : (a b : Key) → same_key a b ≡ true → a ≡ b
unfolding same_key
same_key-true a b e =
    let outer = and_parts _ _ e in
    let middle = and_parts _ _ outer.0 in
    let inner = and_parts _ _ middle.0 in
    same_key_parts a b (same_class-true a.class b.class inner.0) (eqb-true a.policy b.policy inner.1) (same_addr-true a.from b.from middle.1) (same_rid-true a.rid b.rid outer.1)

-- and at these
pub same_key-same : (a : Key) → same_key a a ≡ true
unfolding same_key
same_key-same a = rw (same_class-same a.class, same_rid-same a.rid) (grind (arith, common_steps))

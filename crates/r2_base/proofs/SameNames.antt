-- The tests of addresses and of request ids are their equality.
use Rattle.std.proofs.Common.{◌≡◌, true, arith}
use Rattle.std.proofs.lemmas.Grind.{common_steps}
use Rattle.r2_base.specs.declared.addr.Addr.{Addr}
use Rattle.r2_base.specs.declared.rid.Rid.{Rid}
use Rattle.r2_base.specs.Names.{same_addr, same_rid}

same_parts : (a b : Addr) → a.ip ≡ b.ip → a.port ≡ b.port → a ≡ b
same_parts a b p q = λ k. record { ip = p k; port = q k }

-- the test passes at equal addresses alone
pub same_addr-true : (a b : Addr) → same_addr a b ≡ true → a ≡ b
same_addr-true a b h = grind (arith, common_steps, same_parts)

-- the test passes at equal addresses
pub same_addr-same : (a : Addr) → same_addr a a ≡ true
same_addr-same a = grind (arith, common_steps)

same_id_parts : (a b : Rid) → a.id ≡ b.id → a.client ≡ b.client → a ≡ b
same_id_parts a b p q = λ k. record { id = p k; client = q k }

-- the test passes at equal request ids alone
pub same_rid-true : (a b : Rid) → same_rid a b ≡ true → a ≡ b
same_rid-true a b h = grind (arith, common_steps, same_id_parts, same_addr-true)

-- the test passes at equal request ids
pub same_rid-same : (a : Rid) → same_rid a a ≡ true
same_rid-same a = grind (arith, common_steps)

-- the order of the two is of no matter
pub same_rid-sym : (a b : Rid) → same_rid a b ≡ same_rid b a
same_rid-sym a b = grind (arith, common_steps)

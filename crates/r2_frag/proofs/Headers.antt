-- The headers of parts are valid.
use Rattle.std.proofs.Common.{◌≡◌, ◌<◌, ◌≤◌, ◌+◌, ◌==◌, ◌++◌, [], ◌∷◌, map, ℕ, zero, suc, Bool, true, false, is_some, if◌then◌else◌, List, length, refl, arith}
use Rattle.std.proofs.lemmas.Bool.{ne_eqb}
use Rattle.std.proofs.lemmas.Bool.Decides.{nat_tests}
use Rattle.r2_header.specs.Header.{IdFits, IsValid, LastFits}
use Rattle.r2_header.specs.Span.{IsWithin, from_to}
use Rattle.r2_header.specs.Table.{numbers, policies}
use Rattle.r2_frag.specs.declared.class.Class.{Class}
use Rattle.r2_frag.specs.declared.class.Class.TheVariants.{Request, Reply, Recover}
use Rattle.r2_frag.specs.declared.part_spec.PartSpec.{PartSpec}
use Rattle.r2_frag.specs.Parts.{IsSendable, body_limit, carried, part_count, part_datagram, part_header, part_type}
use Rattle.std.specs.List.{range_with_len}
use Rattle.std.proofs.lemmas.List.FromFn.{map-range_with_len_more}

-- the most parts that a message of a class has
abbrev most_of : Class → ℕ
most_of Request = 60
most_of Reply = 64
most_of Recover = 64

-- a body within its limit has as many parts at most
pub part_count-most : (class : Class) (body : List ℕ) → length body ≤ body_limit class → part_count body ≤ most_of class
unfolding part_count
part_count-most Request body h = omega arith
part_count-most Reply body h = omega arith
part_count-most Recover body h = omega arith

-- each body has a part
pub part_count-least : (body : List ℕ) → 1 ≤ part_count body
unfolding part_count
part_count-least body = omega arith

-- no class has bodies of more than 65,536 bytes
body_limit-most : (class : Class) → body_limit class ≤ 65536
body_limit-most Request = omega arith
body_limit-most Reply = omega arith
body_limit-most Recover = omega arith

-- or of more than 64 parts
most_of-most : (class : Class) → most_of class ≤ 64
most_of-most Request = omega arith
most_of-most Reply = omega arith
most_of-most Recover = omega arith

-- the client's address is carried where it is asked for
is_some-carried : (spec : PartSpec) (b : Bool) → spec.extended ≡ b → is_some (carried spec) ≡ b
is_some-carried spec true e = rw e refl
is_some-carried spec false e = rw e refl

-- a number above 0 isn't 0
pub suc-other : (n : ℕ) → (suc n == 0) ≡ false
suc-other n = ne_eqb (suc n) 0 (λ (e : suc n ≡ 0). absurd (omega arith))

-- a count or a number in the table
between : (low high n : ℕ) → low ≤ n → n ≤ high → IsWithin (from_to low high) n
between low high n h k = record { low = h; high = k }

-- the number of a part is in the table
number-valid : (class : Class) (count n : ℕ) → n < count → count ≤ most_of class → IsWithin (numbers (part_type class n) (n == 0)) (if n == 0 then count else n)
number-valid Request count zero h k = between 1 60 count (omega arith) k
number-valid Request count (suc n) h k = rw (suc-other n) (between 1 59 (suc n) (omega arith) (omega arith))
number-valid Reply count zero h k = between 1 64 count (omega arith) k
number-valid Reply count (suc n) h k = rw (suc-other n) (between 1 63 (suc n) (omega arith) (omega arith))
number-valid Recover count zero h k = between 1 64 count (omega arith) k
number-valid Recover count (suc n) h k = rw (suc-other n) (between 1 63 (suc n) (omega arith) (omega arith))

-- a test of two numbers, turned around
eqb-comm : (a b : ℕ) → (a == b) ≡ (b == a)
eqb-comm a b = grind (arith, nat_tests)

-- the flag of the last part goes with the count
last-valid : (count n : ℕ) → LastFits (n == 0) (n + 1 == count) (if n == 0 then count else n)
last-valid count zero = eqb-comm 1 count
last-valid count (suc n) = rw (suc-other n) tt

-- no part is an ordering message
id-valid : (class : Class) (n id : ℕ) → IdFits (part_type class n) id
id-valid Request zero id = tt
id-valid Request (suc n) id = tt
id-valid Reply n id = tt
id-valid Recover n id = tt

-- the policy goes with each type
policy-valid : (class : Class) (extended : Bool) (policy count n : ℕ) → IsWithin (policies (part_type class 0) extended) policy → (1 < count → IsWithin (policies (part_type class 1) extended) policy) → n < count → IsWithin (policies (part_type class n) extended) policy
policy-valid Request extended policy count zero first later h = first
policy-valid Request extended policy count (suc n) first later h = later (omega arith)
policy-valid Reply extended policy count n first later h = first
policy-valid Recover extended policy count n first later h = first

-- the header of each part of a body that may be sent is valid
pub IsValid-part_header : (spec : PartSpec) (body : List ℕ) (n : ℕ) → IsSendable spec body → n < part_count body → IsValid (part_header spec (part_count body) n)
unfolding part_header
IsValid-part_header spec body n sendable h =
    record {
      policy =
          rw (is_some-carried spec spec.extended refl) (policy-valid spec.key.class spec.extended spec.key.policy (part_count body) n sendable.first sendable.later h);
      id = id-valid spec.key.class n spec.key.rid.id;
      number =
          number-valid spec.key.class (part_count body) n h (part_count-most spec.key.class body sendable.limit);
      last = last-valid (part_count body) n;
    }

-- a body that may be sent has 64 parts at most
pub part_count-sendable : (spec : PartSpec) (body : List ℕ) → IsSendable spec body → part_count body ≤ 64
part_count-sendable spec body sendable =
    omega (arith, part_count-most spec.key.class body sendable.limit, most_of-most spec.key.class)

-- and 65,536 bytes at most
pub length-sendable : (spec : PartSpec) (body : List ℕ) → IsSendable spec body → length body ≤ 65536
length-sendable spec body sendable = omega (arith, sendable.limit, body_limit-most spec.key.class)

-- the datagrams of the first parts, and one more
pub part_datagrams-more : (spec : PartSpec) (body : List ℕ) (n : ℕ) → map (part_datagram spec body) (range_with_len 0 (n + 1)) ≡ map (part_datagram spec body) (range_with_len 0 n) ++ part_datagram spec body n ∷ []
part_datagrams-more spec body n = map-range_with_len_more (part_datagram spec body) 0 n n (omega arith)

pub ruleset datagram_steps = (part_datagrams-more, length-sendable)

-- What the tests of the table's rows mean.
use Rattle.std.proofs.Common.{◌≡◌, ◌∙◌, ◌≤◌, ℕ, Bool, true, false, ◌&&◌, ◌==◌, nat_le, refl, arith}
use Rattle.std.proofs.lemmas.Bool.Decides.{nat_tests}
use Rattle.r2_header.specs.declared.packet.Packet.{Packet}
use Rattle.r2_header.specs.declared.packet.Packet.TheVariants.{Req0, Reply, ReqRdy, ReqN, Feedback, Reject, Ordering, Recover}
use Rattle.r2_header.specs.declared.span.Span.{Span}
use Rattle.r2_header.specs.Header.{IdFits, LastFits}
use Rattle.r2_header.specs.Reading.{flags_fit, id_fits, last_fits}
use Rattle.r2_header.specs.Span.{IsWithin, is_within}
use Rattle.r2_header.specs.Table.{numbers, policies}

-- both parts of a conjunction
pub and_parts : (a b : Bool) → (a && b) ≡ true → (a ≡ true) × (b ≡ true)
and_parts true b e = (refl, e)
and_parts false b e = (e, cc)

-- a number that passes the test is in the span
pub is_within-true : (s : Span) (n : ℕ) → is_within s n ≡ true → IsWithin s n
is_within-true s n e =
    let parts = and_parts (nat_le s.least n) (nat_le n s.most) e in
    record { low = grind (arith, nat_tests); high = grind (arith, nat_tests) }

-- and the other way round
pub true-is_within : (s : Span) (n : ℕ) → IsWithin s n → is_within s n ≡ true
true-is_within s n w =
    let low : nat_le s.least n ≡ true = grind (arith, nat_tests, w.low) in
    let high : nat_le n s.most ≡ true = grind (arith, nat_tests, w.high) in
    rw (low, high) refl

-- an id that passes the test fits the type
pub id_fits-true : (p : Packet) (id : ℕ) → id_fits p id ≡ true → IdFits p id
id_fits-true Ordering id e = grind (arith, nat_tests)
id_fits-true Req0 id e = tt
id_fits-true Reply id e = tt
id_fits-true ReqRdy id e = tt
id_fits-true ReqN id e = tt
id_fits-true Feedback id e = tt
id_fits-true Reject id e = tt
id_fits-true Recover id e = tt

-- and the other way round
pub true-id_fits : (p : Packet) (id : ℕ) → IdFits p id → id_fits p id ≡ true
true-id_fits Ordering id e = rw e refl
true-id_fits Req0 id e = refl
true-id_fits Reply id e = refl
true-id_fits ReqRdy id e = refl
true-id_fits ReqN id e = refl
true-id_fits Feedback id e = refl
true-id_fits Reject id e = refl
true-id_fits Recover id e = refl

-- a flag of the last part that passes the test goes with the number
pub last_fits-true : (first last : Bool) (n : ℕ) → last_fits first last n ≡ true → LastFits first last n
last_fits-true true true n e = grind (arith, nat_tests)
last_fits-true true false n e = grind (arith, nat_tests)
last_fits-true false last n e = tt

-- and the other way round
pub true-last_fits : (first last : Bool) (n : ℕ) → LastFits first last n → last_fits first last n ≡ true
true-last_fits true true n e = cc
true-last_fits true false n e = rw (← e) refl
true-last_fits false last n e = refl

-- no policy is above 3
pub policies-most : (p : Packet) (b : Bool) → (policies p b).most ≤ 3
policies-most Req0 true = omega arith
policies-most Req0 false = omega arith
policies-most Reply true = omega arith
policies-most Reply false = omega arith
policies-most ReqRdy true = omega arith
policies-most ReqRdy false = omega arith
policies-most ReqN true = omega arith
policies-most ReqN false = omega arith
policies-most Feedback true = omega arith
policies-most Feedback false = omega arith
policies-most Reject true = omega arith
policies-most Reject false = omega arith
policies-most Ordering true = omega arith
policies-most Ordering false = omega arith
policies-most Recover true = omega arith
policies-most Recover false = omega arith

-- no count is above 64
pub numbers-most : (p : Packet) (b : Bool) → (numbers p b).most ≤ 64
numbers-most Req0 true = omega arith
numbers-most Req0 false = omega arith
numbers-most Reply true = omega arith
numbers-most Reply false = omega arith
numbers-most ReqRdy true = omega arith
numbers-most ReqRdy false = omega arith
numbers-most ReqN true = omega arith
numbers-most ReqN false = omega arith
numbers-most Feedback true = omega arith
numbers-most Feedback false = omega arith
numbers-most Reject true = omega arith
numbers-most Reject false = omega arith
numbers-most Ordering true = omega arith
numbers-most Ordering false = omega arith
numbers-most Recover true = omega arith
numbers-most Recover false = omega arith

-- a number in no span
no_part : {A : Type 0} (n : ℕ) → 1 ≤ n → n ≤ 0 → A
no_part n low high = absurd (omega arith)

-- a part of the only part's count is the last
only_part : (last : Bool) (n : ℕ) → 1 ≤ n → n ≤ 1 → last ≡ (n == 1) → last ≡ true
only_part last n low high e =
    let one : n ≡ 1 = omega arith in
    e ∙ rw one refl

-- the flags of a part whose number is in the table are in the table
pub flags_fit-valid : (p : Packet) (first last : Bool) (n : ℕ) → IsWithin (numbers p first) n → LastFits first last n → flags_fit p first last ≡ true
flags_fit-valid Req0 true last n w e = refl
flags_fit-valid Req0 false last n w e = no_part n w.low w.high
flags_fit-valid Reply true last n w e = refl
flags_fit-valid Reply false last n w e = refl
flags_fit-valid ReqRdy true last n w e = only_part last n w.low w.high e
flags_fit-valid ReqRdy false last n w e = no_part n w.low w.high
flags_fit-valid ReqN true last n w e = no_part n w.low w.high
flags_fit-valid ReqN false last n w e = refl
flags_fit-valid Feedback true last n w e = only_part last n w.low w.high e
flags_fit-valid Feedback false last n w e = no_part n w.low w.high
flags_fit-valid Reject true last n w e = only_part last n w.low w.high e
flags_fit-valid Reject false last n w e = no_part n w.low w.high
flags_fit-valid Ordering true last n w e = only_part last n w.low w.high e
flags_fit-valid Ordering false last n w e = no_part n w.low w.high
flags_fit-valid Recover true last n w e = refl
flags_fit-valid Recover false last n w e = refl

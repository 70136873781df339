-- What fields read as is encoded so, and what is encoded so is read again.
use Rattle.std.proofs.Common.{◌≡◌, ℕ, zero, suc, ◌^◌, ◌<◌, ◌≤◌, ◌==◌, ◌&&◌, ◌||◌, Bool, true, false, leb, List, [], ◌∷◌, ◌++◌, Ok, refl, ap, subst, ◌∙◌, append_assoc, arith}
use Rattle.std.proofs.lemmas.Bool.{le-leb, leb-true}
use Rattle.std.proofs.lemmas.Bool.Decides.{nat_tests}
use Rattle.r2_base.specs.declared.rid.Rid.{Rid}
use Rattle.r2_base.specs.declared.entry.Kind.{Kind}
use Rattle.r2_base.specs.declared.entry.Kind.TheVariants.{Blank, Write, Read}
use Rattle.r2_base.specs.declared.entry.Entry.{Entry}
use Rattle.r2_base.specs.Numbers.{u16_bytes, u32_bytes, u64_bytes, AreBytes}
use Rattle.r2_base.specs.Entry.{NamesReplier, is_no_rid, is_request, no_rid}
use Rattle.r2_base.specs.Limits.{greatest_member, no_replier}
use Rattle.hc_message.specs.declared.field_fault.FieldFault.TheVariants.{Range}
use Rattle.hc_message.specs.Entry.{IsMember, narrow_entry_bytes, flag_number, kind_number, narrow_rid_bytes}
use Rattle.r2_base.specs.Names.{FitsRid}
use Rattle.hc_message.specs.Fields.{front_byte, front_entry, front_flag, front_kind, kind_of, front_number, front_replier, front_rid, front_rid_of_kind, front_small, within}
use Rattle.hc_message.proofs.Takes.{AreBytes-behind, Takes, Takes-then, bind_ok, ok_is, test_ok}
use Rattle.hc_message.proofs.Numbers.{u16_again, u16_takes, u32_again, u32_takes, u64_again, u64_takes}

-- both parts of a conjunction
and_parts : (a b : Bool) → (a && b) ≡ true → (a ≡ true) × (b ≡ true)
and_parts true b e = (refl, e)
and_parts false b e = (e, cc)

both_true : (a b : Bool) → a ≡ true → b ≡ true → (a && b) ≡ true
both_true a b p q = rw (p, q) refl

-- a value that was let through is in its range
pub record IsLet (least most : ℕ) (field x : ℕ × List ℕ) : Type 0 where
  pub same : field ≡ x
  pub low : least ≤ x.0
  pub high : x.0 ≤ most

pub within_ok : (least most : ℕ) (field x : ℕ × List ℕ) → within least most field ≡ Ok x → IsLet least most field x
within_ok least most field x e =
    let g = test_ok (leb least field.0 && leb field.0 most) Range field x e in
    let parts = and_parts _ _ g.0 in
    let value = ap (λ (p : ℕ × List ℕ). p.0) g.1 in
    record {
      same = g.1;
      low = rw value at (leb-true least field.0 parts.0);
      high = rw value at (leb-true field.0 most parts.1);
    }

pub within_again : (least most n : ℕ) (rest : List ℕ) → least ≤ n → n ≤ most → within least most (n, rest) ≡ Ok (n, rest)
within_again least most n rest low high = rw (le-leb least n low, le-leb n most high) refl

-- a number in eight bytes
pub number_takes : (least most : ℕ) (bytes : List ℕ) (x : ℕ × List ℕ) → AreBytes bytes → front_number least most bytes ≡ Ok x → Takes bytes (u64_bytes x.0) x.1 × (least ≤ x.0) × (x.0 ≤ most)
unfolding front_number
number_takes least most bytes x are e =
    let a = bind_ok _ _ _ e in
    let t = u64_takes bytes a.0 are a.1 in
    let w = within_ok least most a.0 x a.2 in
    (subst (λ (y : ℕ × List ℕ). Takes bytes (u64_bytes y.0) y.1) w.same t.0, w.low, w.high)

pub number_again : (least most n : ℕ) (rest : List ℕ) → least ≤ n → n ≤ most → n < 2 ^ 64 → front_number least most (u64_bytes n ++ rest) ≡ Ok (n, rest)
unfolding front_number
number_again least most n rest low high fits =
    rw (u64_again n rest fits, within_again least most n rest low high) refl

-- a number in one byte
pub byte_takes : (bytes : List ℕ) (x : ℕ × List ℕ) → AreBytes bytes → front_byte bytes ≡ Ok x → Takes bytes (x.0 ∷ []) x.1
byte_takes [] x are e = absurd cc
byte_takes (b ∷ rest) x are e =
    subst (λ (y : ℕ × List ℕ). Takes (b ∷ rest) (y.0 ∷ []) y.1) (ok_is (b, rest) x e) (record { parts = refl; rest_are = AreBytes-behind b rest are })

pub small_takes : (least most : ℕ) (bytes : List ℕ) (x : ℕ × List ℕ) → AreBytes bytes → front_small least most bytes ≡ Ok x → Takes bytes (x.0 ∷ []) x.1 × (least ≤ x.0) × (x.0 ≤ most)
unfolding front_small
small_takes least most bytes x are e =
    let a = bind_ok _ _ _ e in
    let w = within_ok least most a.0 x a.2 in
    (subst (λ (y : ℕ × List ℕ). Takes bytes (y.0 ∷ []) y.1) w.same (byte_takes bytes a.0 are a.1), w.low, w.high)

pub small_again : (least most n : ℕ) (rest : List ℕ) → least ≤ n → n ≤ most → front_small least most (n ∷ rest) ≡ Ok (n, rest)
unfolding front_small
small_again least most n rest low high = within_again least most n rest low high

-- no or yes
flag_number-test : (n : ℕ) → n ≤ 1 → flag_number (n == 1) ≡ n
flag_number-test zero h = refl
flag_number-test (suc zero) h = refl
flag_number-test (suc (suc n)) h = absurd (omega arith)

pub flag_takes : (bytes : List ℕ) (x : Bool × List ℕ) → AreBytes bytes → front_flag bytes ≡ Ok x → Takes bytes (flag_number x.0 ∷ []) x.1
unfolding front_flag
flag_takes bytes x are e =
    let a = bind_ok _ _ _ e in
    let t = small_takes 0 1 bytes a.0 are a.1 in
    let here : Takes bytes (flag_number (a.0.0 == 1) ∷ []) a.0.1 = rw (flag_number-test a.0.0 t.2) t.0 in
    subst (λ (y : Bool × List ℕ). Takes bytes (flag_number y.0 ∷ []) y.1) (ok_is (a.0.0 == 1, a.0.1) x a.2) here

pub flag_again : (flag : Bool) (rest : List ℕ) → front_flag (flag_number flag ∷ rest) ≡ Ok (flag, rest)
unfolding front_flag front_small
flag_again true rest = refl
flag_again false rest = refl

-- a kind
kind_number-kind_of : (n : ℕ) → n ≤ 2 → kind_number (kind_of n) ≡ n
kind_number-kind_of zero h = refl
kind_number-kind_of (suc zero) h = refl
kind_number-kind_of (suc (suc zero)) h = refl
kind_number-kind_of (suc (suc (suc n))) h = absurd (omega arith)

kind_of-kind_number : (k : Kind) → kind_of (kind_number k) ≡ k
kind_of-kind_number Blank = refl
kind_of-kind_number Write = refl
kind_of-kind_number Read = refl

kind_number-most : (k : Kind) → kind_number k ≤ 2
kind_number-most Blank = omega arith
kind_number-most Write = omega arith
kind_number-most Read = omega arith

pub kind_takes : (least : ℕ) (bytes : List ℕ) (x : Kind × List ℕ) → AreBytes bytes → front_kind least bytes ≡ Ok x → Takes bytes (kind_number x.0 ∷ []) x.1 × (least ≤ kind_number x.0)
unfolding front_kind
kind_takes least bytes x are e =
    let a = bind_ok _ _ _ e in
    let t = small_takes least 2 bytes a.0 are a.1 in
    let number = kind_number-kind_of a.0.0 t.2 in
    let here : Takes bytes (kind_number (kind_of a.0.0) ∷ []) a.0.1 × (least ≤ kind_number (kind_of a.0.0)) = rw number (t.0, t.1) in
    subst (λ (y : Kind × List ℕ). Takes bytes (kind_number y.0 ∷ []) y.1 × (least ≤ kind_number y.0)) (ok_is (kind_of a.0.0, a.0.1) x a.2) here

pub kind_again : (least : ℕ) (k : Kind) (rest : List ℕ) → least ≤ kind_number k → front_kind least (kind_number k ∷ rest) ≡ Ok (k, rest)
unfolding front_kind
kind_again least k rest low =
    rw (small_again least 2 (kind_number k) rest low (kind_number-most k), kind_of-kind_number k) refl

-- a request id
pub rid_takes : (bytes : List ℕ) (x : Rid × List ℕ) → AreBytes bytes → front_rid bytes ≡ Ok x → Takes bytes (narrow_rid_bytes x.0) x.1 × FitsRid x.0
unfolding front_rid narrow_rid_bytes
rid_takes bytes x are e =
    let a = bind_ok _ _ _ e in
    let b = bind_ok _ _ _ a.2 in
    let c = bind_ok _ _ _ b.2 in
    let ip = u32_takes bytes a.0 are a.1 in
    let port = u16_takes a.0.1 b.0 ip.0.rest_are b.1 in
    let id = u16_takes b.0.1 c.0 port.0.rest_are c.1 in
    let address = Takes-then bytes (u32_bytes a.0.0) a.0.1 (u16_bytes b.0.0) b.0.1 ip.0 port.0 in
    let made : Rid × List ℕ = (record { id = c.0.0; client = record { ip = a.0.0; port = b.0.0 } }, c.0.1) in
    let whole : Takes bytes (narrow_rid_bytes made.0) made.1 = Takes-then bytes (u32_bytes a.0.0 ++ u16_bytes b.0.0) b.0.1 (u16_bytes c.0.0) c.0.1 address id.0 in
    subst (λ (y : Rid × List ℕ). Takes bytes (narrow_rid_bytes y.0) y.1 × FitsRid y.0) (ok_is made x c.2) (whole, record { id = id.1; client = record { ip = ip.1; port = port.1 } })

pub rid_again : (r : Rid) (rest : List ℕ) → FitsRid r → front_rid (narrow_rid_bytes r ++ rest) ≡ Ok (r, rest)
unfolding front_rid narrow_rid_bytes
rid_again r rest fits =
    let regrouped : narrow_rid_bytes r ++ rest ≡ u32_bytes r.client.ip ++ (u16_bytes r.client.port ++ (u16_bytes r.id ++ rest)) = simp append_assoc in
    ap front_rid regrouped ∙ rw (u32_again r.client.ip (u16_bytes r.client.port ++ (u16_bytes r.id ++ rest)) fits.client.ip, u16_again r.client.port (u16_bytes r.id ++ rest) fits.client.port, u16_again r.id rest fits.id) refl

-- a request id of these numbers
abbrev rid_of : ℕ → ℕ → ℕ → Rid
rid_of ip port id = record { id = id; client = record { ip = ip; port = port } }

-- request ids of the same numbers are the same
same_rid : (a a' b b' c c' : ℕ) → a ≡ a' → b ≡ b' → c ≡ c' → rid_of a b c ≡ rid_of a' b' c'
same_rid a a' b b' c c' p q r = cc

eqb_is : (n m : ℕ) → (n == m) ≡ true → n ≡ m
eqb_is n m e = grind (arith, nat_tests)

-- a request id that passes the test is all zeros
is_no_rid-true : (r : Rid) → is_no_rid r ≡ true → r ≡ no_rid
is_no_rid-true r e =
    let front = and_parts _ _ e in
    let address = and_parts _ _ front.0 in
    same_rid r.client.ip 0 r.client.port 0 r.id 0 (eqb_is _ _ address.0) (eqb_is _ _ address.1) (eqb_is _ _ front.1)

-- the replier of an entry of this kind
abbrev IsReplier : Kind → ℕ → Type 0
IsReplier Blank n = n ≡ no_replier
IsReplier Write n = IsMember n
IsReplier Read n = IsMember n

-- what the tests of a request id and of a replier say together
NamesReplier-tests : (kind : Kind) (rid : Rid) (replier : ℕ) → (is_request kind || is_no_rid rid) ≡ true → IsReplier kind replier → NamesReplier kind rid replier
NamesReplier-tests Blank rid replier e fits = (is_no_rid-true rid e, fits)
NamesReplier-tests Write rid replier e fits = fits
NamesReplier-tests Read rid replier e fits = fits

-- and the other way round
tests-NamesReplier : (kind : Kind) (rid : Rid) (replier : ℕ) → NamesReplier kind rid replier → ((is_request kind || is_no_rid rid) ≡ true) × IsReplier kind replier
tests-NamesReplier Blank rid replier form = (rw form.0 refl, form.1)
tests-NamesReplier Write rid replier form = (refl, form)
tests-NamesReplier Read rid replier form = (refl, form)

rid_of_kind_takes : (kind : Kind) (bytes : List ℕ) (x : Rid × List ℕ) → AreBytes bytes → front_rid_of_kind kind bytes ≡ Ok x → Takes bytes (narrow_rid_bytes x.0) x.1 × FitsRid x.0 × ((is_request kind || is_no_rid x.0) ≡ true)
unfolding front_rid_of_kind
rid_of_kind_takes kind bytes x are e =
    let a = bind_ok _ _ _ e in
    let t = rid_takes bytes a.0 are a.1 in
    let g = test_ok (is_request kind || is_no_rid a.0.0) Range a.0 x a.2 in
    subst (λ (y : Rid × List ℕ). Takes bytes (narrow_rid_bytes y.0) y.1 × FitsRid y.0 × ((is_request kind || is_no_rid y.0) ≡ true)) g.1 (t.0, t.1, g.0)

rid_of_kind_again : (kind : Kind) (r : Rid) (rest : List ℕ) → FitsRid r → (is_request kind || is_no_rid r) ≡ true → front_rid_of_kind kind (narrow_rid_bytes r ++ rest) ≡ Ok (r, rest)
unfolding front_rid_of_kind
rid_of_kind_again kind r rest fits passes = rw (rid_again r rest fits, passes) refl

replier_takes : (kind : Kind) (bytes : List ℕ) (x : ℕ × List ℕ) → AreBytes bytes → front_replier kind bytes ≡ Ok x → Takes bytes (x.0 ∷ []) x.1 × IsReplier kind x.0
unfolding front_replier
replier_takes Blank bytes x are e =
    let t = small_takes no_replier no_replier bytes x are e in
    (t.0, omega (arith, t.1, t.2))
replier_takes Write bytes x are e = let t = small_takes 0 greatest_member bytes x are e in (t.0, t.2)
replier_takes Read bytes x are e = let t = small_takes 0 greatest_member bytes x are e in (t.0, t.2)

replier_again : (kind : Kind) (n : ℕ) (rest : List ℕ) → IsReplier kind n → front_replier kind (n ∷ rest) ≡ Ok (n, rest)
unfolding front_replier
replier_again Blank n rest is = small_again no_replier no_replier n rest (omega (arith, is)) (omega (arith, is))
replier_again Write n rest is = small_again 0 greatest_member n rest (omega arith) is
replier_again Read n rest is = small_again 0 greatest_member n rest (omega arith) is

-- an entry whose term is from least to most
pub record IsWithin (least most : ℕ) (e : Entry) : Type 0 where
  pub low : least ≤ e.term
  pub high : e.term ≤ most
  pub replier : NamesReplier e.kind e.rid e.replier
  pub fits : FitsRid e.rid

pub entry_takes : (least most : ℕ) (bytes : List ℕ) (x : Entry × List ℕ) → AreBytes bytes → front_entry least most bytes ≡ Ok x → Takes bytes (narrow_entry_bytes x.0) x.1 × IsWithin least most x.0
unfolding front_entry narrow_entry_bytes
entry_takes least most bytes x are e =
    let a = bind_ok _ _ _ e in
    let b = bind_ok _ _ _ a.2 in
    let c = bind_ok _ _ _ b.2 in
    let d = bind_ok _ _ _ c.2 in
    let term = number_takes least most bytes a.0 are a.1 in
    let kind = kind_takes 0 a.0.1 b.0 term.0.rest_are b.1 in
    let rid = rid_of_kind_takes b.0.0 b.0.1 c.0 kind.0.rest_are c.1 in
    let replier = replier_takes b.0.0 c.0.1 d.0 rid.0.rest_are d.1 in
    let made : Entry × List ℕ = (record { term = a.0.0; kind = b.0.0; rid = c.0.0; replier = d.0.0 }, d.0.1) in
    let behind = Takes-then a.0.1 (kind_number b.0.0 ∷ []) b.0.1 (narrow_rid_bytes c.0.0) c.0.1 kind.0 rid.0 in
    let front = Takes-then bytes (u64_bytes a.0.0) a.0.1 (kind_number b.0.0 ∷ narrow_rid_bytes c.0.0) c.0.1 term.0 behind in
    let whole : Takes bytes (narrow_entry_bytes made.0) made.1 = Takes-then bytes (u64_bytes a.0.0 ++ kind_number b.0.0 ∷ narrow_rid_bytes c.0.0) c.0.1 (d.0.0 ∷ []) d.0.1 front replier.0 in
    subst (λ (y : Entry × List ℕ). Takes bytes (narrow_entry_bytes y.0) y.1 × IsWithin least most y.0) (ok_is made x d.2) (
      whole,
      record { low = term.1; high = term.2; replier = NamesReplier-tests b.0.0 c.0.0 d.0.0 rid.2 replier.1; fits = rid.1 },
    )

pub entry_again : (least most : ℕ) (e : Entry) (rest : List ℕ) → most < 2 ^ 64 → IsWithin least most e → front_entry least most (narrow_entry_bytes e ++ rest) ≡ Ok (e, rest)
unfolding front_entry narrow_entry_bytes
entry_again least most e rest below within =
    let tests = tests-NamesReplier e.kind e.rid e.replier within.replier in
    let high = within.high in
    let behind = e.replier ∷ rest in
    let regrouped : narrow_entry_bytes e ++ rest ≡ u64_bytes e.term ++ (kind_number e.kind ∷ (narrow_rid_bytes e.rid ++ (e.replier ∷ rest))) = simp append_assoc in
    ap (front_entry least most) regrouped ∙ rw (number_again least most e.term (kind_number e.kind ∷ (narrow_rid_bytes e.rid ++ (e.replier ∷ rest))) within.low within.high (omega arith), kind_again 0 e.kind (narrow_rid_bytes e.rid ++ (e.replier ∷ rest)) (omega arith), rid_of_kind_again e.kind e.rid (e.replier ∷ rest) within.fits tests.0, replier_again e.kind e.replier rest tests.1) refl

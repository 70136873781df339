-- Bodies by the table of requests.
use Rattle.std.proofs.Common.{◌≡◌, ℕ, zero, suc, Bool, true, false, List, [], ◌∷◌, refl, sym, ap, arith, inl, inr}
use Rattle.std.specs.Prelude.{All, if◌then◌else◌}
use Rattle.std.proofs.lemmas.List.Elements.{All-head, All-tail}
use Rattle.r2_base.specs.declared.entry.Kind.{Kind}
use Rattle.r2_base.specs.declared.entry.Kind.TheVariants.{Blank, Write, Read}
use Rattle.r2_base.specs.Entry.{is_request}
use Rattle.r2_base.specs.Names.{same_rid}
use Rattle.r2_base.proofs.SameNames.{same_rid-same, same_rid-true}
use Rattle.hc_log.specs.declared.stored.Stored.{Stored}
use Rattle.hc_log.specs.Log.{metas_of}
use Rattle.hc_log.specs.Ranges.{FitsKind, IsStored}
use Rattle.hc_service.specs.Entries.{operations}
use Rattle.hc_rules.specs.Log.{In}
use Rattle.hc_rules.specs.Message.{Request}
use Rattle.hc_rules.specs.Requests.{At, body_of, entry_body, operations as world_operations}
use Rattle.hc_run.specs.Held.{IsStoredOf, IsWhole}

-- no request id is found twice in a table
abbrev pub IsDistinct : List Request → Type 0
IsDistinct table = (i k : ℕ) (q r : Request) → At table i q → At table k r → q.rid ≡ r.rid → i ≡ k

pub at-in : (table : List Request) (q : Request) → In q table → (place : ℕ) × At table place q
at-in [] q there = absurd there
at-in (r ∷ more) q (inl same) = (zero, sym same)
at-in (r ∷ more) q (inr later) = let found = at-in more q later in (suc found.0, found.1)

pub distinct-rest : (r : Request) (more : List Request) → IsDistinct (r ∷ more) → IsDistinct more
distinct-rest r more distinct i k q p a b same = let e = distinct (suc i) (suc k) q p a b same in omega (arith, e)

pub body-in : (table : List Request) (q : Request) → IsDistinct table → In q table → body_of table q.rid ≡ q.body
body-in [] q distinct there = absurd there
body-in (r ∷ more) q distinct (inl same) =
    let found : same_rid q.rid r.rid ≡ true = rw same (same_rid-same r.rid) in
    rw found (ap (λ (x : Request). x.body) (sym same))
body-in (r ∷ more) q distinct (inr later) = by (same_rid q.rid r.rid) refl (body-in more q (distinct-rest r more distinct) later)
  where
    by : (b : Bool) → same_rid q.rid r.rid ≡ b → body_of more q.rid ≡ q.body → (if b then r.body else body_of more q.rid) ≡ q.body
    by true e rest =
        let found = at-in more q later in
        let clash = distinct zero (suc found.0) r q refl found.1 (sym (same_rid-true q.rid r.rid e)) in
        absurd (omega (arith, clash))
    by false e rest = rest

-- an entry of a valid log
pub whole-stored : (table : List Request) (x : Stored) → IsStoredOf table x → IsStored x → IsWhole table x
whole-stored table x of is = record { listed = of; blank = by x.entry.kind is.body }
  where
    by : (k : Kind) → FitsKind k x.body → is_request k ≡ false → x.body ≡ []
    by Blank fits e = fits
    by Write fits e = absurd cc
    by Read fits e = absurd cc

-- the body of an entry is the table's
pub body-of : (table : List Request) (x : Stored) → IsDistinct table → IsWhole table x → entry_body table x.entry ≡ x.body
body-of table x distinct whole = by (is_request x.entry.kind) refl
  where
    by : (b : Bool) → is_request x.entry.kind ≡ b → entry_body table x.entry ≡ x.body
    by true e = rw e (body-in table _ distinct (whole.listed e))
    by false e = rw e (sym (whole.blank e))

-- a list as the service sees it is the same with the bodies of the table
pub operations-whole : (table : List Request) (log : List Stored) → IsDistinct table → All (IsWhole table) log → world_operations table (metas_of log) ≡ operations log
unfolding operations
operations-whole table [] distinct whole = refl
operations-whole table (x ∷ log) distinct whole =
    let rest = operations-whole table log distinct (All-tail (IsWhole table) x log whole) in
    let here = body-of table x distinct (All-head (IsWhole table) x log whole) in
    rw (here, rest) refl

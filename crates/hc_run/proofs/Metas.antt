-- Logs without bodies, and the index in a reply.
use Rattle.std.proofs.Common.{◌≡◌, ℕ, zero, suc, ◌-◌, ◌^◌, ◌<◌, ◌==◌, false, List, ◌∷◌, ◌++◌, length, drop, get_or, Option, None, Some, refl, ap, subst, ◌∙◌, arith}
use Rattle.std.specs.Prelude.{slice_get, option_and_then}
use Rattle.std.proofs.lemmas.Bool.{ne_eqb}
use Rattle.std.proofs.lemmas.List.{length-map}
use Rattle.std.proofs.Math.ListN.{get_or-map}
use Rattle.std.proofs.lemmas.Option.{get_or_from_slice_get}
use Rattle.byteorder.specs.Endian.{big_number}
use Rattle.r2_base.specs.declared.entry.Entry.{Entry}
use Rattle.r2_base.specs.declared.entry.Kind.{Kind}
use Rattle.r2_base.specs.declared.entry.Kind.TheVariants.{Blank, Write, Read}
use Rattle.r2_base.specs.Numbers.{u64_bytes}
use Rattle.hc_log.specs.declared.stored.Stored.{Stored}
use Rattle.hc_log.specs.Log.{blank_of, last_term, metas_of, term_at}
use Rattle.hc_message.specs.declared.field_fault.FieldFault.TheVariants.{Short}
use Rattle.hc_message.specs.Fields.{front_u64}
use Rattle.hc_message.proofs.Numbers.{u64_again}
use Rattle.hc_message.proofs.Takes.{guard_ok}
use Rattle.hc_store.specs.Replies.{Operation, entry_reply, payload_of, reply_at}
use Rattle.hc_store.specs.Service.{Contents, serve}
use Rattle.hc_rules.specs.Log as world
use Rattle.hc_run.specs.Steps.{index_in}

-- Logs --

pub length-metas : (log : List Stored) → length (metas_of log) ≡ length log
length-metas log = simp length-map

pub entry-metas : (log : List Stored) (k : ℕ) → world.entry_at (metas_of log) (suc k) ≡ (get_or log k (blank_of 0)).entry
entry-metas log k = get_or-map (λ (s : Stored). s.entry) log k (blank_of 0)

pub term-metas : (log : List Stored) (index : ℕ) → world.term_at (metas_of log) index ≡ term_at log index
term-metas log zero = refl
term-metas log (suc k) =
    let e : suc k - 1 ≡ k = omega arith in
    let f : (suc k == 0) ≡ false = ne_eqb (suc k) 0 (λ (h : suc k ≡ 0). omega (arith, h)) in
    rw (f, e) (ap (λ (x : Entry). x.term) (entry-metas log k))

pub last-metas : (log : List Stored) → world.last_term (metas_of log) ≡ last_term log
last-metas log = rw (length-metas log) (term-metas log (length log))

pub get-metas : (log : List Stored) (k : ℕ) (stored : Stored) → slice_get log k ≡ Some stored → world.entry_at (metas_of log) (suc k) ≡ stored.entry
get-metas log k stored e =
    entry-metas log k ∙ ap (λ (s : Stored). s.entry) (get_or_from_slice_get log k stored (blank_of 0) e)

-- The index in a reply --

pub index-payload : (index status : ℕ) (value : List ℕ) → index < 2 ^ 64 → index_in (payload_of index status value) ≡ index
unfolding index_in payload_of front_u64
index-payload index status value fits =
    let bytes = u64_bytes index ++ status ∷ value in
    let read = guard_ok _ Short (big_number 8 bytes, drop 8 bytes) (index, status ∷ value) (u64_again index (status ∷ value) fits) in
    ap (λ (p : ℕ × List ℕ). p.0) read.1

index-entry : (contents : Contents) (index : ℕ) (kind : Kind) (body payload : List ℕ) → index < 2 ^ 64 → entry_reply contents index kind body ≡ Some payload
    → index_in payload ≡ index
index-entry contents index Blank body payload fits e = absurd cc
index-entry contents index Write body payload fits e =
    let served = serve contents Write body in
    let same : payload_of index served.status served.value ≡ payload = cc in
    subst (λ (p : List ℕ). index_in p ≡ index) same (index-payload index served.status served.value fits)
index-entry contents index Read body payload fits e =
    let served = serve contents Read body in
    let same : payload_of index served.status served.value ≡ payload = cc in
    subst (λ (p : List ℕ). index_in p ≡ index) same (index-payload index served.status served.value fits)

-- what is there of something
there : {A B : Type 0} (o : Option A) (f : A → Option B) (b : B) → option_and_then f o ≡ Some b → (a : A) × (f a ≡ Some b)
there (Some a) f b e = (a, e)
there None f b e = absurd cc

-- a reply to an entry begins with its index
pub index-reply : (log : List Operation) (index : ℕ) (payload : List ℕ) → index < 2 ^ 64 → reply_at log index ≡ Some payload → index_in payload ≡ index
unfolding reply_at
index-reply log zero payload fits e = absurd cc
index-reply log (suc before) payload fits e =
    let found = there (slice_get log before) _ payload e in
    index-entry _ (suc before) found.0.kind found.0.body payload fits found.1

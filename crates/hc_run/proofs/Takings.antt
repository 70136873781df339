-- What a member takes of an Order, as the protocol has it.
use Rattle.std.proofs.Common.{◌≡◌, ℕ, zero, suc, ◌+◌, ◌<◌, ◌≤◌, ◌==◌, ◌&&◌, Bool, true, false, not, List, [], ◌∷◌, ◌++◌, length, map, take, drop, get_or, Option, None, Some, refl, sym, ap, subst, ◌∙◌, arith, inl, inr}
use Rattle.std.specs.Prelude.{All, filter, fold, if◌then◌else◌}
use Rattle.std.specs.List.{common_prefix_len, find, list_any}
use Rattle.std.proofs.lemmas.Bool.{and_parts, cases_Bool, eqb-true}
use Rattle.std.proofs.lemmas.List.{get_or-drop, length-take}
use Rattle.std.proofs.lemmas.List.Elements.{All-append, All-cons, All-drop, All-filter, All-head, All-nil, All-push, All-tail, All-take}
use Rattle.r2_base.specs.declared.entry.Entry.{Entry}
use Rattle.r2_base.specs.declared.entry.Kind.{Kind}
use Rattle.r2_base.specs.declared.entry.Kind.TheVariants.{Blank, Write, Read}
use Rattle.r2_base.specs.declared.rid.Rid.{Rid}
use Rattle.r2_base.specs.Entry.{blank_entry, is_request}
use Rattle.r2_base.specs.Names.{same_rid}
use Rattle.r2_base.proofs.SameNames.{same_rid-true}
use Rattle.hc_log.specs.declared.stored.Stored.{Stored}
use Rattle.hc_log.specs.Log.{blank_of, has_room, metas_of, stands_in}
use Rattle.hc_pool.specs.declared.request.Request.{Request}
use Rattle.hc_pool.specs.Pool.{has_rid, request_of as waiting_of, waits_in, without}
use Rattle.hc_order.specs.Taking.{Grown, after_end, agreeing, agrees, appending, cut_at, grown_by, is_missing, may_append, missing, next_stored, pool_left, released, same_kind, taken, with_body, with_missing}
use Rattle.hc_member.proofs.Answers.{find-All, find-passes}
use Rattle.hc_rules.specs.Log.{In}
use Rattle.hc_rules.specs.Log as world
use Rattle.hc_rules.specs.Message as message
use Rattle.hc_rules.specs.Requests.{IsKnown}
use Rattle.hc_run.specs.Held.{IsAskedIn, IsStoredOf}
use Rattle.hc_run.specs.Tied.{request_of}
use Rattle.hc_run.proofs.Metas.{entry-metas}

-- Bodies --

-- each entry of a log and each request of a pool is the table's
abbrev pub AreOf : List message.Request → List Stored → List Request → Type 0
AreOf table log pool = All (IsStoredOf table) log × All (IsAskedIn table) pool

same_kind-true : (a b : Kind) → same_kind a b ≡ true → a ≡ b
same_kind-true Blank Blank e = refl
same_kind-true Write Write e = refl
same_kind-true Read Read e = refl
same_kind-true Blank Write e = absurd cc
same_kind-true Blank Read e = absurd cc
same_kind-true Write Blank e = absurd cc
same_kind-true Write Read e = absurd cc
same_kind-true Read Blank e = absurd cc
same_kind-true Read Write e = absurd cc

-- an entry with the body of a request that waits
stored-with : (table : List message.Request) (log : List Stored) (e : Entry) (pool : List Request) (found : Option Request) (s : Stored) → All (IsAskedIn table) pool
    → find (has_rid e.rid) pool ≡ found → with_body log e found ≡ Some s → IsStoredOf table s
stored-with table log e pool None s all is made = absurd cc
stored-with table log e pool (Some r) s all is made = by (may_append log e r) refl made
  where
    by : (b : Bool) → may_append log e r ≡ b → (if b then Some (record { entry = e; body = r.body }) else None) ≡ Some s → IsStoredOf table s
    by false f made = absurd cc
    by true f made =
        let same : (record { entry = e; body = r.body }) ≡ s = cc in
        let outer = and_parts (same_kind r.kind e.kind && not (stands_in e.rid log)) (has_room log r.body) f in
        let inner = and_parts (same_kind r.kind e.kind) (not (stands_in e.rid log)) outer.0 in
        let kind = same_kind-true r.kind e.kind inner.0 in
        let rid = same_rid-true e.rid r.rid (find-passes (has_rid e.rid) pool r is) in
        let here : In (request_of r.rid r.kind r.body) table = find-All (IsAskedIn table) (has_rid e.rid) pool r all is in
        let there : In (request_of e.rid e.kind r.body) table =
        subst (λ (x : Rid). In (request_of x e.kind r.body) table) (sym rid) (subst (λ (k : Kind). In (request_of r.rid k r.body) table) kind here) in
        subst (IsStoredOf table) same (λ asks. there)

stored-next : (table : List message.Request) (log : List Stored) (pool : List Request) (e : Entry) (s : Stored) (k : Kind) → e.kind ≡ k → All (IsAskedIn table) pool
    → next_stored log pool e k ≡ Some s → IsStoredOf table s
unfolding waiting_of
stored-next table log pool e s Blank kind all made =
    let same : (record { entry = e; body = [] }) ≡ s = cc in
    subst (IsStoredOf table) same (λ asks. absurd (let f = rw kind at asks in cc))
stored-next table log pool e s Write kind all made = stored-with table log e pool (find (has_rid e.rid) pool) s all refl made
stored-next table log pool e s Read kind all made = stored-with table log e pool (find (has_rid e.rid) pool) s all refl made

left-of : (table : List message.Request) (pool : List Request) (e : Entry) (k : Kind) → All (IsAskedIn table) pool → All (IsAskedIn table) (pool_left pool e k)
unfolding without
left-of table pool e Blank all = all
left-of table pool e Write all = All-filter (λ r. not (has_rid e.rid r)) (IsAskedIn table) pool all
left-of table pool e Read all = All-filter (λ r. not (has_rid e.rid r)) (IsAskedIn table) pool all

grown-of : (table : List message.Request) (later : List Stored → List Request → Grown) (log : List Stored) (pool : List Request) (e : Entry) (o : Option Stored)
    → next_stored log pool e e.kind ≡ o → AreOf table log pool → ((l : List Stored) (p : List Request) → AreOf table l p → AreOf table (later l p).log (later l p).pool)
    → AreOf table (grown_by later log pool e o).log (grown_by later log pool e o).pool
grown-of table later log pool e None is are go = are
grown-of table later log pool e (Some s) is are go =
    go (log ++ s ∷ []) (pool_left pool e e.kind)
    (All-push (IsStoredOf table) log s are.0 (stored-next table log pool e s e.kind refl are.1 is), left-of table pool e e.kind are.1)

pub appending-of : (table : List message.Request) (entries : List Entry) (log : List Stored) (pool : List Request) → AreOf table log pool
    → AreOf table (appending log pool entries).log (appending log pool entries).pool
unfolding appending
appending-of table [] log pool are = are
appending-of table (e ∷ later) log pool are =
    grown-of table (λ l p. appending l p later) log pool e (next_stored log pool e e.kind) refl are (λ l p more. appending-of table later l p more)

-- the requests of entries that are cut
released-of : (table : List message.Request) (cut : List Stored) → All (IsStoredOf table) cut → All (IsAskedIn table) (released cut)
unfolding released
released-of table [] all = All-nil (IsAskedIn table)
released-of table (s ∷ cut) all = by (is_request s.entry.kind) refl (All-head (IsStoredOf table) s cut all) (released-of table cut (All-tail (IsStoredOf table) s cut all))
  where
    by : (b : Bool) → is_request s.entry.kind ≡ b → IsStoredOf table s → All (IsAskedIn table) (released cut)
        → All (IsAskedIn table) (map (λ (x : Stored). record { rid = x.entry.rid; kind = x.entry.kind; body = x.body }) (if b then s ∷ filter (λ (x : Stored). is_request x.entry.kind) cut else filter (λ (x : Stored). is_request x.entry.kind) cut))
    by true e here rest =
        All-cons (IsAskedIn table) (record { rid = s.entry.rid; kind = s.entry.kind; body = s.body }) (released cut) (here e) rest
    by false e here rest = rest

pub taken-of : (table : List message.Request) (log : List Stored) (pool : List Request) (at : ℕ) (entries : List Entry) (fixed : ℕ) → AreOf table log pool
    → AreOf table (taken log pool at entries fixed).log (taken log pool at entries fixed).pool
unfolding taken
taken-of table log pool at entries fixed are =
    let reach = at + agreeing log at entries in
    let rest = drop (agreeing log at entries) entries in
    let keep = cut_at log fixed reach rest in
    appending-of table (after_end keep reach rest) (take keep log) (pool ++ released (drop keep log))
    (All-take (IsStoredOf table) keep log are.0, All-append (IsAskedIn table) pool (released (drop keep log)) are.1 (released-of table (drop keep log) (All-drop (IsStoredOf table) keep log are.0)))

-- How many were appended --

appending-few : (entries : List Entry) (log : List Stored) (pool : List Request) → (appending log pool entries).count ≤ length entries
unfolding appending
appending-few [] log pool = omega arith
appending-few (e ∷ later) log pool = by (next_stored log pool e e.kind) (λ l p. appending-few later l p)
  where
    by : (o : Option Stored) → ((l : List Stored) (p : List Request) → (appending l p later).count ≤ length later)
        → (grown_by (λ l p. appending l p later) log pool e o).count ≤ suc (length later)
    by None go = omega arith
    by (Some s) go = let few = go (log ++ s ∷ []) (pool_left pool e e.kind) in omega (arith, few)

-- where nothing was appended, the log has of the Order what stood
pub upto-stood : (log : List Stored) (pool : List Request) (at : ℕ) (entries : List Entry) (fixed : ℕ) → (taken log pool at entries fixed).entries ≡ []
    → (taken log pool at entries fixed).upto ≡ at + agreeing log at entries
unfolding taken
upto-stood log pool at entries fixed none =
    let reach = at + agreeing log at entries in
    let rest = drop (agreeing log at entries) entries in
    let keep = cut_at log fixed reach rest in
    let g = appending (take keep log) (pool ++ released (drop keep log)) (after_end keep reach rest) in
    let few = appending-few (after_end keep reach rest) (take keep log) (pool ++ released (drop keep log)) in
    let most = end-few (keep == reach) rest in
    let size = ap length none in
    let short = length-take g.count rest in
    omega (arith, few, most, size, short)
  where
    end-few : (b : Bool) (rest : List Entry) → length (if b then rest else []) ≤ length rest
    end-few true rest = omega arith
    end-few false rest = omega arith

-- Terms that agree --

agreed-same : (xs : List Stored) (ys : List Entry) (j : ℕ) (c : Stored) (d : Entry) → j < common_prefix_len agrees xs ys → (get_or xs j c).entry.term ≡ (get_or ys j d).term
agreed-same [] ys j c d h = absurd (omega arith)
agreed-same (x ∷ xs) [] j c d h = absurd (omega arith)
agreed-same (x ∷ xs) (y ∷ ys) zero c d h =
    elim (cases_Bool (agrees x y)) [
      | inl t ↦ eqb-true x.entry.term y.term t
      | inr f ↦ (let none = rw f at h in absurd (omega (arith, none)))
    ]
agreed-same (x ∷ xs) (y ∷ ys) (suc j) c d h =
    elim (cases_Bool (agrees x y)) [
      | inl t ↦ (let more = rw t at h in agreed-same xs ys j c d (omega (arith, more)))
      | inr f ↦ (let none = rw f at h in absurd (omega (arith, none)))
    ]

pub agreed-terms : (log : List Stored) (at : ℕ) (entries : List Entry) → world.HaveTerms (agreeing log at entries) at (metas_of log) entries
unfolding agreeing
agreed-terms log at entries k inside =
    let read : get_or (drop at log) k (blank_of 0) ≡ get_or log (at + k) (blank_of 0) = get_or-drop at log k (blank_of 0) in
    let same = agreed-same (drop at log) entries k (blank_of 0) (blank_entry 0) inside in
    ap (λ (e : Entry). e.term) (entry-metas log (at + k)) ∙ sym (ap (λ (x : Stored). x.entry.term) read) ∙ same

-- What is known --

-- the ids of the requests among entries
abbrev pub requests_in : List Entry → List Rid
requests_in [] = []
requests_in (e ∷ more) = if is_request e.kind then e.rid ∷ requests_in more else requests_in more

-- an entry's request is one of the table
abbrev pub IsKnownEntry : List message.Request → Entry → Type 0
IsKnownEntry table e = is_request e.kind ≡ true → IsKnown table e.rid

pub requests-known : (table : List message.Request) (entries : List Entry) → All (IsKnownEntry table) entries → (rid : Rid) → In rid (requests_in entries) → IsKnown table rid
requests-known table [] all rid there = absurd there
requests-known table (e ∷ more) all rid there = by (is_request e.kind) refl there (λ later. requests-known table more (All-tail (IsKnownEntry table) e more all) rid later)
  where
    by : (b : Bool) → is_request e.kind ≡ b → In rid (if b then e.rid ∷ requests_in more else requests_in more) → (In rid (requests_in more) → IsKnown table rid) → IsKnown table rid
    by true f (inl same) go = subst (IsKnown table) (sym same) (All-head (IsKnownEntry table) e more all f)
    by true f (inr later) go = go later
    by false f later go = go later

pub requests-in : (entries : List Entry) (k : ℕ) (d : Entry) → k < length entries → is_request (get_or entries k d).kind ≡ true → In (get_or entries k d).rid (requests_in entries)
requests-in [] k d inside asks = absurd (omega arith)
requests-in (e ∷ more) zero d inside asks = rw asks (inl refl)
requests-in (e ∷ more) (suc k) d inside asks = by (is_request e.kind) (requests-in more k d (omega (arith, inside)) asks)
  where
    by : (b : Bool) → In (get_or more k d).rid (requests_in more) → In (get_or more k d).rid (if b then e.rid ∷ requests_in more else requests_in more)
    by true there = inr there
    by false there = there

-- what is missing is known
pub missing-known : (table : List message.Request) (log : List Stored) (pool : List Request) (entries : List Entry) → All (IsKnownEntry table) entries → All (IsKnown table) (missing log pool entries)
unfolding missing
missing-known table log pool entries all = each entries [] all (All-nil (IsKnown table))
  where
    one : (b c : Bool) (e : Entry) (ids : List Rid) → (b ≡ true → IsKnown table e.rid) → All (IsKnown table) ids → All (IsKnown table) (if b && c then ids ++ e.rid ∷ [] else ids)
    one true true e ids known all = All-push (IsKnown table) ids e.rid all (known refl)
    one true false e ids known all = all
    one false c e ids known all = all

    asks : (e : Entry) → IsKnownEntry table e → is_missing log pool e ≡ true → IsKnown table e.rid
    asks e known f =
        let outer = and_parts (is_request e.kind && not (stands_in e.rid log)) (not (waits_in e.rid pool)) f in
        let inner = and_parts (is_request e.kind) (not (stands_in e.rid log)) outer.0 in
        known inner.0

    each : (es : List Entry) (ids : List Rid) → All (IsKnownEntry table) es → All (IsKnown table) ids → All (IsKnown table) (fold (with_missing log pool) ids es)
    each [] ids known all = all
    each (e ∷ more) ids known all =
        each more (with_missing log pool ids e) (All-tail (IsKnownEntry table) e more known)
        (one (is_missing log pool e) (not (list_any (same_rid e.rid) ids)) e ids (asks e (All-head (IsKnownEntry table) e more known)) all)

pub taken-missing : (table : List message.Request) (log : List Stored) (pool : List Request) (at : ℕ) (entries : List Entry) (fixed : ℕ) → All (IsKnownEntry table) entries
    → All (IsKnown table) (taken log pool at entries fixed).missing
unfolding taken
taken-missing table log pool at entries fixed all =
    missing-known table _ _ (drop _ (drop (agreeing log at entries) entries))
    (All-drop (IsKnownEntry table) _ (drop (agreeing log at entries) entries) (All-drop (IsKnownEntry table) (agreeing log at entries) entries all))

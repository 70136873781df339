-- What a taking leaves.
use Rattle.std.proofs.Common.{◌≡◌, ◌<◌, ◌≤◌, inl, inr, ℕ, zero, suc, ◌+◌, ◌-◌, Bool, true, false, List, [], ◌∷◌, ◌++◌, length, get_or, take, drop, refl, sym, ap, subst, ◌∙◌, arith, append-nil, append_assoc, length-append, length-drop}
use Rattle.std.specs.Prelude.{◌==◌, if◌then◌else◌, nat_lt}
use Rattle.std.specs.List.{common_prefix_len}
use Rattle.std.proofs.lemmas.Bool.{cases_Bool, eqb-true, ltb-true, ltb-false}
use Rattle.std.proofs.lemmas.Grind.{common_steps}
use Rattle.std.proofs.lemmas.List.{drop_all, drop-take, get_or-drop, length-map, length-take-le, take_all}
use Rattle.r2_base.specs.declared.entry.Entry.{Entry}
use Rattle.r2_base.specs.declared.entry.Kind.{Kind}
use Rattle.r2_base.specs.declared.entry.Kind.TheVariants.{Blank, Write, Read}
use Rattle.r2_base.specs.Entry.{is_request}
use Rattle.r2_base.specs.Limits.{most_body}
use Rattle.hc_log.specs.declared.stored.Stored.{Stored}
use Rattle.hc_log.specs.Ranges.{FitsKind}
use Rattle.hc_log.specs.Log.{term_at}
use Rattle.hc_log.proofs.Logs.{IsLog-take}
use Rattle.hc_pool.specs.declared.request.Request.{Request}
use Rattle.hc_pool.specs.Pool.{IsPool}
use Rattle.hc_pool.proofs.Requests.{IsPool-push}
use Rattle.hc_order.specs.Taking.{AreNext, Grown, MayReturn, MayTakeAfter, after_end, agreeing, agrees, appending, not_grown, released, taken, taken_after_cut, taken_from, taken_with}
use Rattle.hc_order.specs.Laws.{AreBeside, Differ, IsTaken, TakingsAreRight}
use Rattle.hc_order.proofs.Agreed.{agreed-inside, agreed-next}
use Rattle.hc_order.proofs.Apart.{may-return, may-return-later, nothing-released, released-append, released-none, released-one, share-released}
use Rattle.hc_order.proofs.Grown.{IsGrown, is-grown}

-- a request's body is short
short-body : (k : Kind) (body : List ℕ) → is_request k ≡ true → FitsKind k body → length body ≤ most_body
short-body Blank body asks fits = cc
short-body Write body asks fits = fits
short-body Read body asks fits = fits

-- a pool with the requests that were cut
pool-released : (cut : List Stored) (pool : List Request) → IsPool pool → MayReturn pool cut → IsPool (pool ++ released cut)
pool-released [] pool is_pool may = subst IsPool (sym (append-nil pool) ∙ ap (λ rs. pool ++ rs) (sym nothing-released)) is_pool
pool-released (s ∷ later) pool is_pool may =
    let both : (pool ++ released (s ∷ [])) ++ released later ≡ pool ++ released (s ∷ later) =
    append_assoc pool (released (s ∷ [])) (released later) ∙ ap (λ rs. pool ++ rs) (sym (released-append (s ∷ []) later)) in
    let first = elim (cases_Bool (is_request s.entry.kind)) as (λ _. IsPool (pool ++ released (s ∷ []))) [
      | inl t ↦ subst (λ (rs : List Request). IsPool (pool ++ rs)) (sym (released-one s t))
          (IsPool-push pool (record { rid = s.entry.rid; kind = s.entry.kind; body = s.body }) is_pool (may.fresh 0 s (omega arith) t)
          (record { asks = t; body = short-body s.entry.kind s.body t (may.stored 0 s (omega arith)).body }))
      | inr f ↦ subst (λ (rs : List Request). IsPool (pool ++ rs)) (sym (released-none s f)) (subst IsPool (sym (append-nil pool)) is_pool)
    ] in
    subst IsPool both (pool-released later (pool ++ released (s ∷ [])) first (may-return-later pool s later may))

-- a log that was cut, and the pool with what was cut
cut-beside : (keep : ℕ) (log : List Stored) (pool : List Request) → AreBeside log pool → AreBeside (take keep log) (pool ++ released (drop keep log))
cut-beside keep log pool beside =
    record {
      is_log = IsLog-take keep log beside.is_log;
      is_pool = pool-released (drop keep log) pool beside.is_pool (may-return keep log pool beside.is_log beside.apart);
      apart = share-released keep log pool beside.is_log beside.apart;
    }

-- where nothing is cut and nothing comes after the end, nothing changes
nothing-appended : (log : List Stored) (pool : List Request) → appending (take (length log) log) (pool ++ released (drop (length log) log)) [] ≡ not_grown log pool
unfolding appending released
nothing-appended log pool =
    ap (λ (l : List Stored). not_grown l (pool ++ released (drop (length log) log))) (take_all (length log) log (omega arith))
    ∙ ap (λ (cut : List Stored). not_grown log (pool ++ released cut)) (drop_all (length log) log (omega arith))
    ∙ ap (not_grown log) (append-nil pool)

-- the first place after those that agree
prefix-ends : (xs : List Stored) (ys : List Entry) (i : ℕ) (c : Stored) (d : Entry) → i ≡ common_prefix_len agrees xs ys → i < length xs → i < length ys
    → agrees (get_or xs i c) (get_or ys i d) ≡ false
prefix-ends [] ys i c d is inside within = absurd (omega arith)
prefix-ends (x ∷ xs) [] i c d is inside within = absurd (omega arith)
prefix-ends (x ∷ xs) (y ∷ ys) zero c d is inside within =
    elim (cases_Bool (agrees x y)) [
      | inl t ↦ (let more = rw t at is in absurd (omega (arith, more)))
      | inr f ↦ f
    ]
prefix-ends (x ∷ xs) (y ∷ ys) (suc i) c d is inside within =
    elim (cases_Bool (agrees x y)) [
      | inl t ↦ (let more = rw t at is in prefix-ends xs ys i c d (omega (arith, more)) (omega arith) (omega arith))
      | inr f ↦ (let none = rw f at is in absurd (omega (arith, none)))
    ]

differ : (log : List Stored) (at : ℕ) (entries : List Entry) → at + agreeing log at entries < length log → agreeing log at entries < length entries → Differ log at (agreeing log at entries) entries
unfolding agreeing
differ log at entries cut inside =
    record {
      inside = inside;
      other = λ s e.
          let n = common_prefix_len agrees (drop at log) entries in
          let ends = prefix-ends (drop at log) entries n s e refl (omega (arith, cut, length-drop at log)) inside in
          ap (λ (x : Stored). agrees x (get_or entries n e)) (sym (get_or-drop at log n s)) ∙ ends;
    }

module _ (log : List Stored) (pool : List Request) (at : ℕ) (entries : List Entry) (fixed : ℕ) (beside : AreBeside log pool) (may : MayTakeAfter log pool at entries fixed) where
  -- all stays
  unchanged : (rest : List Entry) (g : Grown) → g ≡ not_grown log pool → IsTaken log pool at entries fixed (taken_with (length log) (at + agreeing log at entries) rest g)
  unchanged rest g none =
      let both = agreed-inside log at entries may.inside in
      subst (λ (x : Grown). IsTaken log pool at entries fixed (taken_with (length log) (at + agreeing log at entries) rest x)) (sym none)
      (record {
        beside = beside;
        stays = may.fixed_inside;
        stood = omega arith;
        upto = omega (arith, both.1);
        change = inl (record { same_log = refl; same_pool = refl; keep = refl; nothing = refl });
      })

  -- the rest comes after what stood
  goes-on : (rest : List Entry) (g : Grown) → rest ≡ drop (agreeing log at entries) entries → agreeing log at entries < length entries → fixed ≤ at + agreeing log at entries
      → IsGrown (take (at + agreeing log at entries) log) rest g → IsTaken log pool at entries fixed (taken_with (at + agreeing log at entries) (at + agreeing log at entries) rest g)
  goes-on rest g is inside stays grown =
      let n = agreeing log at entries in
      let both = agreed-inside log at entries may.inside in
      let kept : length (take (at + n) log) ≡ at + n = length-take-le (at + n) log both.1 in
      let left : length rest ≡ length entries - n = ap length is ∙ length-drop n entries in
      let some : length (take g.count rest) ≡ g.count = length-take-le g.count rest grown.few in
      let added : length grown.added ≡ g.count = sym (length-map grown.added (λ (s : Stored). s.entry)) ∙ ap length grown.metas ∙ some in
      let long : length g.log ≡ at + n + g.count = (let sum = ap length grown.log_is in omega (arith, sum, length-append (take (at + n) log) grown.added, kept, added)) in
      record {
        beside = grown.beside;
        stays = stays;
        stood = omega arith;
        upto = omega (arith, long);
        change =
            inr (record {
              keep = refl;
              reached = n + g.count;
              rises = omega arith;
              few = omega (arith, grown.few, left, inside);
              upto = omega arith;
              appended = ap (take g.count) is ∙ sym (drop-take n g.count entries);
              added = grown.added;
              log_is = grown.log_is;
              metas = grown.metas;
              cause = λ cut. differ log at entries cut inside;
            });
      }

  -- nothing comes after the end where nothing is left
  none-left : (keep reach : ℕ) → after_end keep reach [] ≡ []
  none-left keep reach = by-test (keep == reach)
    where
      nothing : List Entry
      nothing = []

      by-test : (b : Bool) → (if b then nothing else []) ≡ []
      by-test true = refl
      by-test false = refl

  -- nor where the log goes on
  goes-further : (keep reach : ℕ) (rest : List Entry) → reach < keep → after_end keep reach rest ≡ []
  goes-further keep reach rest lt = by-test (keep == reach) refl
    where
      by-test : (b : Bool) → (keep == reach) ≡ b → (if b then rest else []) ≡ []
      by-test true same = absurd (let e = eqb-true keep reach same in omega (arith, e, lt))
      by-test false other = refl

  at-end : (reach : ℕ) (rest : List Entry) → after_end reach reach rest ≡ rest
  at-end reach rest = by-test (reach == reach) refl
    where
      by-test : (b : Bool) → (reach == reach) ≡ b → (if b then rest else []) ≡ rest
      by-test true same = refl
      by-test false other = absurd (grind (arith, common_steps, other))

  from-rest : (rest : List Entry) → rest ≡ drop (agreeing log at entries) entries → IsTaken log pool at entries fixed (taken_from log pool (at + agreeing log at entries) rest fixed)
  from-rest [] is =
      let reach = at + agreeing log at entries in
      unchanged [] (appending (take (length log) log) (pool ++ released (drop (length log) log)) (after_end (length log) reach []))
      (ap (appending (take (length log) log) (pool ++ released (drop (length log) log))) (none-left (length log) reach) ∙ nothing-appended log pool)
  from-rest (e ∷ later) is = by-test (nat_lt reach fixed) refl
    where
      reach : ℕ
      reach = at + agreeing log at entries

      rest : List Entry
      rest = e ∷ later

      by-test : (b : Bool) → nat_lt reach fixed ≡ b → IsTaken log pool at entries fixed (taken_after_cut log pool reach rest (if b then length log else reach))
      by-test true lt =
          let below = ltb-true reach fixed lt in
          let further = goes-further (length log) reach rest (let most = may.fixed_inside in omega (arith, below, most)) in
          unchanged rest (appending (take (length log) log) (pool ++ released (drop (length log) log)) (after_end (length log) reach rest))
          (ap (appending (take (length log) log) (pool ++ released (drop (length log) log))) further ∙ nothing-appended log pool)
      by-test false ge =
          let stays = ltb-false reach fixed ge in
          let inside : agreeing log at entries < length entries = (let count = ap length is in omega (arith, count, length-drop (agreeing log at entries) entries)) in
          let next = subst (AreNext (take reach log)) (sym is) (agreed-next log at entries (term_at log at) may.term may.inside may.ordered refl) in
          let grown = is-grown rest (take reach log) (pool ++ released (drop reach log)) (cut-beside reach log pool beside) next in
          goes-on rest (appending (take reach log) (pool ++ released (drop reach log)) (after_end reach reach rest)) is inside stays
          (subst (λ (xs : List Entry). IsGrown (take reach log) rest (appending (take reach log) (pool ++ released (drop reach log)) xs)) (sym (at-end reach rest)) grown)

pub takings_are_right : TakingsAreRight
unfolding taken
takings_are_right log pool at entries fixed beside may = from-rest log pool at entries fixed beside may (drop (agreeing log at entries) entries) refl

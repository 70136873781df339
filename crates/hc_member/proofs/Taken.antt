-- What a member takes of an Order leaves a valid log, which comes after the old one, and a pool beside it.
use Rattle.std.proofs.Common.{◌≡◌, ◌≢◌, ℕ, ◌+◌, ◌<◌, ◌≤◌, true, false, List, [], ◌∷◌, ◌++◌, length, get_or, take, sym, ap, subst, ◌∙◌, inl, inr, arith, length-append, length-drop}
use Rattle.std.specs.Prelude.{All}
use Rattle.std.proofs.lemmas.Bool.{eq-eqb}
use Rattle.std.proofs.lemmas.List.{get_or-append-add, get_or-drop, get_or-map, get_or-take, length-map, length-take, length-take-le, take_at}
use Rattle.std.proofs.lemmas.List.Elements.{All-append, All-cons, All-drop, All-head, All-nil, All-tail, All-take}
use Rattle.r2_base.specs.Limits.{most_entries}
use Rattle.r2_base.specs.declared.entry.Entry.{Entry}
use Rattle.hc_log.specs.declared.stored.Stored.{Stored}
use Rattle.hc_log.specs.Log.{blank_of, metas_of, term_at, IsLog}
use Rattle.hc_message.specs.Message.{AreOrdered}
use Rattle.hc_pool.specs.declared.request.Request.{Request}
use Rattle.hc_pool.specs.Pool.{IsPool}
use Rattle.hc_order.specs.Apart.{ShareNoRequest}
use Rattle.hc_order.specs.Laws.{ChangesNothing, GoesOn, IsTaken}
use Rattle.hc_order.specs.Taking.{Taken, agreeing, agrees, taken}
use Rattle.hc_order.proofs.Agreed.{agreed-inside}
use Rattle.hc_order.proofs.Takings.{takings_are_right}

-- a taken Order: a log of these terms that may come after the old one, of which what is fixed stands, with a pool beside it
pub record IsTakenWell (log : List Stored) (term fixed : ℕ) (t : Taken) : Type 0 where
  pub is_log : IsLog t.log
  pub terms : All (λ (s : Stored). s.entry.term ≤ term) t.log
  pub pool : IsPool t.pool
  pub apart : ShareNoRequest t.log t.pool
  pub within : t.keep ≤ length log
  pub stands : fixed ≤ t.keep
  pub front : take t.keep log ≡ take t.keep t.log
  pub count : length t.log ≤ t.keep + most_entries
  pub reached : t.upto ≤ length t.log
  pub cut : t.keep < length log → t.log ≢ log

-- what holds of the entries holds of what is stored
terms-of : (most : ℕ) (xs : List Stored) → All (λ (e : Entry). e.term ≤ most) (metas_of xs) → All (λ (s : Stored). s.entry.term ≤ most) xs
terms-of most [] all = All-nil (λ (s : Stored). s.entry.term ≤ most)
terms-of most (x ∷ xs) all =
    All-cons (λ (s : Stored). s.entry.term ≤ most) x xs (All-head (λ (e : Entry). e.term ≤ most) x.entry (metas_of xs) all)
    (terms-of most xs (All-tail (λ (e : Entry). e.term ≤ most) x.entry (metas_of xs) all))

module _ (log : List Stored) (pool : List Request) (at prev term fixed : ℕ) (entries : List Entry) (t : Taken)
    (terms : All (λ (s : Stored). s.entry.term ≤ term) log) (ordered : AreOrdered at prev term entries) (inside : at ≤ length log)
    (taken_now : IsTaken log pool at entries fixed t) where
  well-unchanged : ChangesNothing log pool t → IsTakenWell log term fixed t
  well-unchanged same =
      let beside = taken_now.beside in
      let log_is = same.same_log in
      let keep = same.keep in
      let size = ap length log_is in
      record {
        is_log = beside.is_log;
        terms = subst (All (λ (s : Stored). s.entry.term ≤ term)) (sym log_is) terms;
        pool = beside.is_pool;
        apart = beside.apart;
        within = omega (arith, keep);
        stands = taken_now.stays;
        front = ap (take t.keep) (sym log_is);
        count = omega (arith, keep, size);
        reached = taken_now.upto;
        cut = λ less. absurd (omega (arith, less, keep));
      }

  -- the first entry that was appended is the Order's
  first-added : (g : GoesOn log at (agreeing log at entries) entries t) → 0 < length g.added
      → (d : Stored) (e : Entry) → (get_or g.added 0 d).entry ≡ get_or entries (agreeing log at entries) e
  first-added g some d e =
      let stood = agreeing log at entries in
      let size = length-map g.added (λ (s : Stored). s.entry) in
      let sizes = ap length (g.metas ∙ g.appended) in
      let read : (get_or g.added 0 d).entry ≡ get_or (metas_of g.added) 0 e = sym (get_or-map (λ (s : Stored). s.entry) g.added 0 d e some) in
      let zero_more : stood + 0 ≡ stood = omega arith in
      read ∙ ap (λ (es : List Entry). get_or es 0 e) (g.metas ∙ g.appended) ∙ get_or-drop stood (take g.reached entries) 0 e
      ∙ ap (λ (i : ℕ). get_or (take g.reached entries) i e) zero_more
      ∙ get_or-take g.reached entries stood e (omega (arith, some, size, sizes, length-drop stood (take g.reached entries), length-take g.reached entries))

  well-on : GoesOn log at (agreeing log at entries) entries t → IsTakenWell log term fixed t
  well-on g =
      let beside = taken_now.beside in
      let stood = agreeing log at entries in
      let agreed = agreed-inside log at entries inside in
      let keep = g.keep in
      let long : length (take (at + stood) log) ≡ at + stood = length-take-le (at + stood) log agreed.1 in
      let sizes = ap length (g.metas ∙ g.appended) in
      let size = length-map g.added (λ (s : Stored). s.entry) in
      let few : length g.added ≤ most_entries =
      (let count = ordered.count in omega (arith, size, sizes, length-drop stood (take g.reached entries), length-take g.reached entries, count)) in
      let whole : length t.log ≡ at + stood + length g.added = ap length g.log_is ∙ length-append (take (at + stood) log) g.added ∙ ap (λ (n : ℕ). n + length g.added) long in
      let high = All-drop (λ (e : Entry). e.term ≤ term) stood (take g.reached entries) (All-take (λ (e : Entry). e.term ≤ term) g.reached entries ordered.high) in
      let added_terms = terms-of term g.added (subst (All (λ (e : Entry). e.term ≤ term)) (sym (g.metas ∙ g.appended)) high) in
      record {
        is_log = beside.is_log;
        terms =
            subst (All (λ (s : Stored). s.entry.term ≤ term)) (sym g.log_is)
            (All-append (λ (s : Stored). s.entry.term ≤ term) (take (at + stood) log) g.added (All-take (λ (s : Stored). s.entry.term ≤ term) (at + stood) log terms) added_terms);
        pool = beside.is_pool;
        apart = beside.apart;
        within = (let fits = agreed.1 in omega (arith, keep, fits));
        stands = taken_now.stays;
        front =
            ap (λ (n : ℕ). take n log) keep
            ∙ sym (ap (λ (n : ℕ). take n t.log) keep ∙ ap (take (at + stood)) g.log_is ∙ take_at (take (at + stood) log) g.added (at + stood) long);
        count = omega (arith, keep, whole, few);
        reached = taken_now.upto;
        cut = λ less same.
            let d = blank_of 0 in
            let e = (blank_of 0).entry in
            let longer = ap length same in
            let differ = g.cause (omega (arith, less, keep)) in
            let first = first-added g (omega (arith, less, keep, whole, longer)) d e in
            let here : get_or log (at + stood) d ≡ get_or g.added 0 d =
            ap (λ (l : List Stored). get_or l (at + stood) d) (sym same ∙ g.log_is)
            ∙ ap (λ (n : ℕ). get_or (take (at + stood) log ++ g.added) n d) (let z : at + stood ≡ length (take (at + stood) log) + 0 = omega (arith, long) in z)
            ∙ get_or-append-add (take (at + stood) log) g.added 0 d in
            let term_is : (get_or log (at + stood) d).entry.term ≡ (get_or entries stood e).term = ap (λ (s : Stored). s.entry.term) here ∙ ap (λ (x : Entry). x.term) first in
            let alike : agrees (get_or log (at + stood) d) (get_or entries stood e) ≡ true = eq-eqb (get_or log (at + stood) d).entry.term (get_or entries stood e).term term_is in
            let both : true ≡ false = sym alike ∙ differ.other d e in cc;
      }

  taken-well : IsTakenWell log term fixed t
  taken-well =
      elim taken_now.change [
        | inl same ↦ well-unchanged same
        | inr g ↦ well-on g
      ]

-- an Order whose previous entry stands in the log is taken
pub order-taken : (log : List Stored) (pool : List Request) (at prev term fixed : ℕ) (entries : List Entry) → IsLog log
    → All (λ (s : Stored). s.entry.term ≤ term) log → IsPool pool → ShareNoRequest log pool → at ≤ length log → term_at log at ≡ prev
    → AreOrdered at prev term entries → fixed ≤ length log → IsTakenWell log term fixed (taken log pool at entries fixed)
order-taken log pool at prev term fixed entries is_log terms is_pool apart inside same ordered fixed_inside =
    let here : AreOrdered at (term_at log at) term entries = subst (λ (n : ℕ). AreOrdered at n term entries) (sym same) ordered in
    taken-well log pool at prev term fixed entries (taken log pool at entries fixed) terms ordered inside
    (takings_are_right log pool at entries fixed (record { is_log = is_log; is_pool = is_pool; apart = apart })
    (record { inside = inside; term = term; ordered = here; fixed_inside = fixed_inside; apart = apart }))

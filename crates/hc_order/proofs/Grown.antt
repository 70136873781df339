-- What is left once entries were appended.
use Rattle.std.proofs.Common.{◌≡◌, ◌≤◌, ◌+◌, false, List, [], ◌∷◌, ◌++◌, length, get_or, take, refl, sym, ap, subst, ◌∙◌, arith, add-one, append-nil, append_assoc, Option, Some, None}
use Rattle.std.specs.Prelude.{◌&&◌}
use Rattle.r2_base.specs.declared.entry.Entry.{Entry}
use Rattle.r2_base.specs.declared.entry.Kind.{Kind}
use Rattle.r2_base.specs.declared.entry.Kind.TheVariants.{Blank, Write, Read}
use Rattle.r2_base.specs.Entry.{is_request}
use Rattle.r2_base.specs.Limits.{greatest_number}
use Rattle.r2_base.specs.Names.{same_rid}
use Rattle.hc_log.specs.declared.stored.Stored.{Stored}
use Rattle.hc_log.specs.Log.{metas_of}
use Rattle.hc_log.proofs.Logs.{IsLog-push}
use Rattle.hc_pool.specs.declared.request.Request.{Request}
use Rattle.hc_pool.specs.Pool.{without, IsPool}
use Rattle.hc_order.specs.Apart.{ShareNoRequest}
use Rattle.hc_order.specs.Laws.{AreBeside}
use Rattle.hc_order.specs.Taking.{AreNext, Grown, appending, next_stored, not_grown, one_more, pool_left}
use Rattle.hc_order.proofs.Apart.{IsPool-without, share-push, share-taken}
use Rattle.hc_order.proofs.Growing.{Appends, are-next-later, grown-none, grown-some, next-appends, next-same}

-- appending, by the first entry: nothing is appended, or that one is and then others
by-first : (P : Grown → Type 0) (log : List Stored) (pool : List Request) (e : Entry) (later : List Entry) (o : Option Stored) → next_stored log pool e e.kind ≡ o
    → P (not_grown log pool)
    → ((s : Stored) → next_stored log pool e e.kind ≡ Some s → P (one_more (appending (log ++ s ∷ []) (pool_left pool e e.kind) later)))
    → P (appending log pool (e ∷ later))
by-first P log pool e later None is none some = subst P (sym (grown-none log pool e later None is refl)) none
by-first P log pool e later (Some s) is none some = subst P (sym (grown-some log pool e later (Some s) is refl)) (some s is)

-- a log and a pool share no request once an entry was appended
appended-apart : (log : List Stored) (pool : List Request) (e : Entry) (s : Stored) (k : Kind) → e.kind ≡ k → s.entry ≡ e → ShareNoRequest log pool
    → ShareNoRequest (log ++ s ∷ []) (pool_left pool e k)
appended-apart log pool e s Blank kind same apart =
    let blank : is_request s.entry.kind ≡ false = ap (λ (x : Entry). is_request x.kind) same ∙ ap is_request kind in
    share-push log pool s apart (λ k d h. ap (λ b. b && same_rid (get_or pool k d).rid s.entry.rid) blank)
appended-apart log pool e s Write kind same apart =
    subst (λ (x : Entry). ShareNoRequest (log ++ s ∷ []) (without x.rid pool)) same (share-taken log pool s apart)
appended-apart log pool e s Read kind same apart =
    subst (λ (x : Entry). ShareNoRequest (log ++ s ∷ []) (without x.rid pool)) same (share-taken log pool s apart)

pub appending-apart : (entries : List Entry) (log : List Stored) (pool : List Request) → ShareNoRequest log pool
    → ShareNoRequest (appending log pool entries).log (appending log pool entries).pool
unfolding appending
appending-apart [] log pool apart = apart
appending-apart (e ∷ later) log pool apart =
    by-first (λ g. ShareNoRequest g.log g.pool) log pool e later (next_stored log pool e e.kind) refl apart
    (λ s is. appending-apart later (log ++ s ∷ []) (pool_left pool e e.kind) (appended-apart log pool e s e.kind refl (next-same log pool e s e.kind is) apart))

-- nothing comes after any log
pub are-next-none : (log : List Stored) → length log ≤ greatest_number → AreNext log []
are-next-none log fits =
    record {
      each = λ k d h. absurd (omega arith);
      latest = λ k d h. absurd (omega arith);
      never_fall = λ i j d le h. absurd (omega arith);
      room = omega arith;
    }

-- what appending leaves: the entries that were appended, from the first on
pub record IsGrown (log : List Stored) (entries : List Entry) (g : Grown) : Type 0 where
  pub beside : AreBeside g.log g.pool
  pub few : g.count ≤ length entries
  pub added : List Stored
  pub log_is : g.log ≡ log ++ added
  pub metas : metas_of added ≡ take g.count entries

left-pool : (pool : List Request) (e : Entry) (k : Kind) → IsPool pool → IsPool (pool_left pool e k)
left-pool pool e Blank is_pool = is_pool
left-pool pool e Write is_pool = IsPool-without e.rid pool is_pool
left-pool pool e Read is_pool = IsPool-without e.rid pool is_pool

beside-more : (log : List Stored) (pool : List Request) (e : Entry) (s : Stored) → AreBeside log pool → Appends log e s → AreBeside (log ++ s ∷ []) (pool_left pool e e.kind)
beside-more log pool e s beside a =
    record {
      is_log = IsLog-push log s beside.is_log a.follows;
      is_pool = left-pool pool e e.kind beside.is_pool;
      apart = appended-apart log pool e s e.kind refl a.same beside.apart;
    }

is-grown-more : (log : List Stored) (e : Entry) (later : List Entry) (s : Stored) (g : Grown) → s.entry ≡ e → IsGrown (log ++ s ∷ []) later g → IsGrown log (e ∷ later) (one_more g)
is-grown-more log e later s g same is =
    record {
      beside = is.beside;
      few = omega (arith, is.few);
      added = s ∷ is.added;
      log_is = is.log_is ∙ append_assoc log (s ∷ []) is.added;
      metas =
          let first : take (g.count + 1) (e ∷ later) ≡ e ∷ take g.count later = rw add-one refl in
          ap (λ (x : Entry). x ∷ metas_of is.added) same ∙ ap (λ (xs : List Entry). e ∷ xs) is.metas ∙ sym first;
    }

pub is-grown : (entries : List Entry) (log : List Stored) (pool : List Request) → AreBeside log pool → AreNext log entries → IsGrown log entries (appending log pool entries)
unfolding appending
is-grown [] log pool beside next =
    record { beside = beside; few = omega arith; added = []; log_is = sym (append-nil log); metas = refl }
is-grown (e ∷ later) log pool beside next =
    by-first (IsGrown log (e ∷ later)) log pool e later (next_stored log pool e e.kind) refl
    (record { beside = beside; few = omega arith; added = []; log_is = sym (append-nil log); metas = refl })
    (λ s is.
    let a = next-appends log pool e s e.kind beside.is_log beside.is_pool (next.each 0 e (omega arith)) (next.latest 0 e (omega arith)) (let room = next.room in omega (arith, room)) refl is in
    is-grown-more log e later s (appending (log ++ s ∷ []) (pool_left pool e e.kind) later) a.same
    (is-grown later (log ++ s ∷ []) (pool_left pool e e.kind) (beside-more log pool e s beside a) (are-next-later log e later s next a.same)))

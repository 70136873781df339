-- What ordering leaves.
use Rattle.std.proofs.Common.{◌≡◌, ◌<◌, ◌≤◌, ◌⊎◌, inl, inr, ℕ, zero, suc, ◌+◌, Bool, true, false, List, [], ◌∷◌, ◌++◌, length, get_or, take, drop, refl, sym, ap, subst, ◌∙◌, arith, append-nil, append_assoc, Option, Some, None}
use Rattle.std.specs.Prelude.{if◌then◌else◌, All}
use Rattle.std.proofs.lemmas.List.{length_push, length-set}
use Rattle.std.proofs.lemmas.List.Elements.{All-get_or, All-set, All-tail}
use Rattle.std.proofs.lemmas.List.Quantifiers.{all_pairs_push}
use Rattle.r2_base.specs.Limits.{greatest_member}
use Rattle.hc_log.specs.Log.{has_room}
use Rattle.hc_log.proofs.Logs.{IsLog-push}
use Rattle.hc_pool.specs.declared.request.Request.{Request}
use Rattle.hc_pool.specs.Pool.{IsPool, MayWait}
use Rattle.hc_pool.proofs.Requests.{first_once}
use Rattle.hc_replier.specs.Queues.{AreQueues, HasPlace, IsRow, Row, assign, choose, empty_row, row_at, with_given}
use Rattle.hc_replier.proofs.Choosing.{is_chosen}
use Rattle.hc_order.specs.Ordering.{Waiting, entry_of, gone_on, next_from, next_ordered, ordered, ordered_to}
use Rattle.hc_order.specs.Laws.{IsOrdered, MayOrder, MayOrderNone, OrderingsAreRight, entries_for, given_to}
use Rattle.hc_order.proofs.Orders.{oldest-new, ordered-follows, ready-more}

-- one request was ordered
record Step (term : ℕ) (w next : Waiting) : Type 0 where
  r : Request
  later : List Request
  replier : ℕ
  pool : w.pool ≡ r ∷ later
  chosen : choose w.queues ≡ Some replier
  room : has_room w.log r.body ≡ true
  is : ordered_to term w r later replier ≡ next

module _ (term : ℕ) (w : Waiting) where
  step-by : (next : Waiting) (r : Request) (later : List Request) (replier : ℕ) (b : Bool) → has_room w.log r.body ≡ b → w.pool ≡ r ∷ later → choose w.queues ≡ Some replier
      → (if b then Some (ordered_to term w r later replier) else None) ≡ Some next → Step term w next
  step-by next r later replier true room pool chosen is =
      let same : ordered_to term w r later replier ≡ next = cc in
      record { r = r; later = later; replier = replier; pool = pool; chosen = chosen; room = room; is = same }
  step-by next r later replier false room pool chosen is = cc

  step-from : (next : Waiting) (pool : List Request) (o : Option ℕ) → w.pool ≡ pool → choose w.queues ≡ o → next_from term w pool o ≡ Some next → Step term w next
  step-from next [] o pool chosen is = cc
  step-from next (r ∷ later) None pool chosen is = cc
  step-from next (r ∷ later) (Some replier) pool chosen is = step-by next r later replier (has_room w.log r.body) refl pool chosen is

  none-by : (replier : ℕ) (r : Request) (later : List Request) (b : Bool) → has_room w.log r.body ≡ b → (if b then Some (ordered_to term w r later replier) else None) ≡ None
      → (choose w.queues ≡ None) ⊎ (has_room w.log r.body ≡ false)
  none-by replier r later true room is = cc
  none-by replier r later false room is = inr room

  none-from : (pool : List Request) (o : Option ℕ) → choose w.queues ≡ o → next_from term w pool o ≡ None → MayOrderNone w pool
  none-from [] o chosen is = tt
  none-from (r ∷ later) None chosen is = inl chosen
  none-from (r ∷ later) (Some replier) chosen is = none-by replier r later (has_room w.log r.body) refl is

-- a member's row with an index more
given-row : (row : Row) (index : ℕ) → IsRow row → HasPlace row → All (λ other. other < index) row.given → IsRow (with_given row index)
given-row row index is place above =
    record {
      fits = is.fits;
      within = omega (arith, length_push row.given index, place);
      rising = all_pairs_push (λ a b. a < b) row.given index is.rising (λ k d h. above k d h);
    }

given-queues : (queues : List Row) (member index : ℕ) → AreQueues queues → member < length queues → HasPlace (row_at queues member) → All (λ other. other < index) (row_at queues member).given
    → AreQueues (assign queues member index)
given-queues queues member index are inside place above =
    let own = row_at queues member in
    record {
      few = omega (arith, are.few, length-set queues member (with_given own index));
      each = All-set IsRow queues member (with_given own index) (given-row own index (All-get_or IsRow queues member (empty_row 0) inside are.each) place above) are.each;
    }

-- one step leaves what a leader may have
step-may : (term : ℕ) (w next : Waiting) (s : Step term w next) → MayOrder term w → MayOrder term (ordered_to term w s.r s.later s.replier)
step-may term w next s may =
    let pool = subst IsPool s.pool may.beside.is_pool in
    let found = is_chosen w.queues s.replier s.chosen in
    let new = oldest-new term w s.r s.later may.ready s.pool in
    let member : s.replier ≤ greatest_member = (let few = may.are_queues.few in omega (arith, found.is_member, few)) in
    let follows = ordered-follows term s.replier w.log s.r may.ready.is_set may.ready.fits may.ready.latest member (pool.requests 0 s.r (omega arith)) new s.room in
    let ready = ready-more term s.replier w s.r s.later may.ready s.pool (first_once s.r s.later pool) found.is_member in
    let below : All (λ index. index ≤ length w.log) (row_at w.queues s.replier).given =
    All-get_or (λ (row : Row). All (λ index. index ≤ length w.log) row.given) w.queues s.replier (empty_row 0) found.is_member may.ready.given in
    record {
      beside =
          record {
            is_log = IsLog-push w.log (entry_of term s.replier s.r) may.beside.is_log follows;
            is_pool = record { requests = All-tail MayWait s.r s.later pool.requests; ids = λ i j d before inside. pool.ids (suc i) (suc j) d (omega arith) (omega arith) };
            apart = ready.apart;
          };
      are_queues = given-queues w.queues s.replier (length w.log + 1) may.are_queues found.is_member found.below (λ k d h. (let le = below k d h in omega (arith, le)));
      ready = ready;
    }

-- nothing is ordered
none-ordered : (term room : ℕ) (w : Waiting) → (0 ≡ room) ⊎ MayOrderNone w w.pool → IsOrdered term room w w
none-ordered term room w ended =
    record {
      repliers = [];
      most = omega arith;
      waited = omega arith;
      rest = refl;
      log_is = sym (append-nil w.log);
      given = refl;
      chosen = λ i d inside. absurd (omega arith);
      ended = ended;
    }

-- one request is ordered, and then others
one-ordered : (term room : ℕ) (w next v : Waiting) (s : Step term w next) → IsOrdered term room (ordered_to term w s.r s.later s.replier) v → IsOrdered term (suc room) w v
one-ordered term room w next v s is =
    let long : length (w.log ++ entry_of term s.replier s.r ∷ []) ≡ length w.log + 1 = length_push w.log (entry_of term s.replier s.r) in
    let queues = assign w.queues s.replier (length w.log + 1) in
    record {
      repliers = s.replier ∷ is.repliers;
      most = omega (arith, is.most);
      waited = (let count = ap length s.pool in omega (arith, is.waited, count));
      rest = is.rest ∙ ap (drop (suc (length is.repliers))) (sym s.pool);
      log_is =
          is.log_is ∙ append_assoc w.log (entry_of term s.replier s.r ∷ []) (entries_for term is.repliers s.later)
          ∙ ap (λ (p : List Request). w.log ++ entries_for term (s.replier ∷ is.repliers) p) (sym s.pool);
      given = is.given ∙ ap (λ (n : ℕ). given_to queues n is.repliers) long;
      chosen = λ i d inside. chosen long i d inside;
      ended = elim is.ended as (λ _. (suc (length is.repliers) ≡ suc room) ⊎ MayOrderNone v v.pool) [
        | inl full ↦ inl (ap suc full)
        | inr none ↦ inr none
      ];
    }
  where
    chosen : length (w.log ++ entry_of term s.replier s.r ∷ []) ≡ length w.log + 1 → (i : ℕ) (d : ℕ) → i < suc (length is.repliers)
        → choose (given_to w.queues (length w.log) (take i (s.replier ∷ is.repliers))) ≡ Some (get_or (s.replier ∷ is.repliers) i d)
    chosen long zero d inside = s.chosen
    chosen long (suc i) d inside =
        ap (λ (n : ℕ). choose (given_to (assign w.queues s.replier (length w.log + 1)) n (take i is.repliers))) (sym long) ∙ is.chosen i d (omega arith)

pub orderings_are_right : OrderingsAreRight
unfolding ordered next_ordered
orderings_are_right term zero w may = (may, none-ordered term zero w (inl refl))
orderings_are_right term (suc room) w may = by-next (next_from term w w.pool (choose w.queues)) refl (λ next. orderings_are_right term room next)
  where
    by-next : (o : Option Waiting) → next_from term w w.pool (choose w.queues) ≡ o
        → ((next : Waiting) → MayOrder term next → MayOrder term (ordered term room next) × IsOrdered term room next (ordered term room next))
        → MayOrder term (gone_on (ordered term room) w o) × IsOrdered term (suc room) w (gone_on (ordered term room) w o)
    by-next None is more = (may, none-ordered term (suc room) w (inr (none-from term w w.pool (choose w.queues) refl is)))
    by-next (Some next) is more =
        let s = step-from term w next w.pool (choose w.queues) refl refl is in
        let after = ordered_to term w s.r s.later s.replier in
        let there = more after (step-may term w next s may) in
        subst (λ (v : Waiting). MayOrder term (ordered term room v) × IsOrdered term (suc room) w (ordered term room v)) s.is
        (there.0, one-ordered term room w next (ordered term room after) s there.1)

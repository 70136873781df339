-- A leader that orders requests keeps a valid log, a pool beside it, and queues within their bounds.
use Rattle.std.proofs.Common.{◌≡◌, ℕ, ◌+◌, ◌≤◌, List, [], ◌∷◌, length, map, take, Option, refl, sym, ap, subst, ◌∙◌, arith, length-append}
use Rattle.std.specs.Prelude.{All}
use Rattle.std.proofs.Math.Seq.{map-set_same}
use Rattle.std.proofs.lemmas.List.{length-map, take_at}
use Rattle.std.proofs.lemmas.List.Elements.{All-append, All-cons, All-nil}
use Rattle.hc_log.specs.declared.stored.Stored.{Stored}
use Rattle.hc_log.specs.Durable.{IsValid}
use Rattle.hc_pool.specs.declared.request.Request.{Request}
use Rattle.hc_pool.specs.Pool.{IsPool}
use Rattle.hc_replier.specs.Queues.{Row, assign, empty_row, row_at, with_given}
use Rattle.hc_order.specs.Apart.{ShareNoRequest}
use Rattle.hc_order.specs.Laws.{IsOrdered, MayOrder, entries_for, given_to}
use Rattle.hc_order.specs.Ordering.{Waiting, entry_of, ordered}
use Rattle.hc_order.proofs.Orderings.{orderings_are_right}
use Rattle.hc_member.specs.declared.setup.Setup.{Setup}
use Rattle.hc_member.specs.Setup.{IsSetup}
use Rattle.hc_member.specs.Sound.{IsQueue}
use Rattle.hc_member.proofs.Sends.{last_term-most}

-- what a leader of a term orders with
pub record CanOrder (s : Setup) (term : ℕ) (vote : Option ℕ) (w : Waiting) : Type 0 where
  pub valid : IsValid (record { term = term; vote = vote; log = w.log })
  pub is_set : 1 ≤ term
  pub pool : IsPool w.pool
  pub apart : ShareNoRequest w.log w.pool
  pub bounds : map (λ (row : Row). row.bound) w.queues ≡ s.bounds
  pub queues : All (IsQueue (length w.log)) w.queues

-- a log begins with another one, and has at most so many entries more
pub record Extends (old new : List Stored) (more : ℕ) : Type 0 where
  pub front : take (length old) new ≡ old
  pub long : length old ≤ length new
  pub most : length new ≤ length old + more

-- the entries are as many as the repliers at most, and of the leader's term
entries-few : (term : ℕ) (repliers : List ℕ) (pool : List Request) → length (entries_for term repliers pool) ≤ length repliers
entries-few term [] pool = omega arith
entries-few term (replier ∷ later) [] = omega arith
entries-few term (replier ∷ later) (r ∷ pool) = (let rest = entries-few term later pool in omega (arith, rest))

entries-term : (term : ℕ) (repliers : List ℕ) (pool : List Request) → All (λ (s : Stored). s.entry.term ≤ term) (entries_for term repliers pool)
entries-term term [] pool = All-nil (λ (s : Stored). s.entry.term ≤ term)
entries-term term (replier ∷ later) [] = All-nil (λ (s : Stored). s.entry.term ≤ term)
entries-term term (replier ∷ later) (r ∷ pool) =
    All-cons (λ (s : Stored). s.entry.term ≤ term) (entry_of term replier r) (entries_for term later pool) (omega arith) (entries-term term later pool)

-- bounds stay
given-bounds : (queues : List Row) (last : ℕ) (repliers : List ℕ) → map (λ (row : Row). row.bound) (given_to queues last repliers) ≡ map (λ (row : Row). row.bound) queues
given-bounds queues last [] = refl
given-bounds queues last (replier ∷ later) =
    given-bounds (assign queues replier (last + 1)) (last + 1) later
    ∙ map-set_same (λ (row : Row). row.bound) queues replier (with_given (row_at queues replier) (last + 1)) (empty_row 0) refl

module _ (s : Setup) (is : IsSetup s) (term : ℕ) (vote : Option ℕ) where
  pub may-order : (w : Waiting) → CanOrder s term vote w → MayOrder term w
  may-order w can =
      let valid = can.valid in
      let few = is.few in
      let each = is.bound_each in
      let sizes = ap length can.bounds in
      record {
        beside = record { is_log = valid.log; is_pool = can.pool; apart = can.apart };
        are_queues =
            record {
              few = omega (arith, length-map w.queues (λ (row : Row). row.bound), sizes, few, each);
              each = λ k d inside. (let queue = can.queues k d inside in queue.bounded);
            };
        ready =
            record {
              is_set = can.is_set;
              fits = valid.term;
              latest = last_term-most term w.log valid.terms;
              apart = can.apart;
              given = λ k d inside. (let queue = can.queues k d inside in queue.ordered);
            };
      }

  -- what ordering leads to
  pub record Orders (w new : Waiting) (room : ℕ) : Type 0 where
    pub can : CanOrder s term vote new
    pub extends : Extends w.log new.log room

  orders-so : (w v : Waiting) (room : ℕ) → CanOrder s term vote w → MayOrder term v → IsOrdered term room w v → Orders w v room
  orders-so w v room can may o =
      let valid = can.valid in
      let beside = may.beside in
      let are = may.are_queues in
      let ready = may.ready in
      let more = entries_for term o.repliers w.pool in
      let few = entries-few term o.repliers w.pool in
      let most = o.most in
      let size = ap length o.log_is ∙ length-append w.log more in
      record {
        can =
            record {
              valid =
                  record {
                    term = valid.term;
                    vote = valid.vote;
                    unset = valid.unset;
                    log = beside.is_log;
                    terms =
                        subst (All (λ (x : Stored). x.entry.term ≤ term)) (sym o.log_is)
                        (All-append (λ (x : Stored). x.entry.term ≤ term) w.log more valid.terms (entries-term term o.repliers w.pool));
                  };
              is_set = can.is_set;
              pool = beside.is_pool;
              apart = beside.apart;
              bounds = ap (map (λ (row : Row). row.bound)) o.given ∙ given-bounds w.queues (length w.log) o.repliers ∙ can.bounds;
              queues = λ k d inside. record { bounded = are.each k d inside; ordered = ready.given k d inside };
            };
        extends =
            record {
              front = ap (take (length w.log)) o.log_is ∙ take_at w.log more (length w.log) refl;
              long = omega (arith, size);
              most = omega (arith, size, few, most);
            };
      }

  pub orders : (room : ℕ) (w : Waiting) → CanOrder s term vote w → Orders w (ordered term room w) room
  orders room w can =
      let right = orderings_are_right term room w (may-order w can) in
      orders-so w (ordered term room w) room can right.0 right.1

-- What a leader keeps, as it hears from the others.
use Rattle.std.proofs.Common.{◌≡◌, ℕ, List, ◌+◌, ◌<◌, ◌≤◌, max, length, refl, sym, ap, ◌∙◌, inl, inr, arith}
use Rattle.std.specs.Prelude.{nat_lt, slice_set, slice_index_or}
use Rattle.std.proofs.Math.Seq.{map-set_same}
use Rattle.std.proofs.lemmas.Bool.{cases_lt}
use Rattle.std.proofs.lemmas.List.{get_or-map, get_or_past, length-map, length-set}
use Rattle.std.proofs.lemmas.List.Elements.{All-filter, All-set}
use Rattle.hc_replier.proofs.Rows.{reported-row}
use Rattle.hc_replier.specs.Queues.{Row, empty_row, row_at, unreported, with_reported}
use Rattle.hc_member.specs.declared.setup.Setup.{Setup}
use Rattle.hc_member.specs.Setup.{IsSetup}
use Rattle.hc_member.specs.Member.{Lead}
use Rattle.hc_member.specs.Orders.{next_to}
use Rattle.hc_member.specs.Reports.{reached_by, with_reached, with_report}
use Rattle.hc_member.specs.Sound.{IsLeading, IsQueue}

module _ (s : Setup) (is : IsSetup s) (term last : ℕ) (lead : Lead) (leads : IsLeading s term last lead) where
  -- each member has a row
  rows-each : length lead.queues ≡ length s.members
  rows-each = sym (length-map lead.queues (λ (row : Row). row.bound)) ∙ ap length leads.bounds ∙ is.bound_each

  reached-most : (member : ℕ) → member < length s.members → reached_by lead member ≤ last
  reached-most member inside = leads.reached member 0 (omega (arith, inside, leads.reached_each))

  -- a member is known to have more of the log
  pub leads-reached : (member index : ℕ) → member < length s.members → index ≤ last → IsLeading s term last (with_reached lead member index)
  leads-reached member index inside low =
      let most = reached-most member inside in
      let reached = max (reached_by lead member) index in
      record {
        term_is_set = leads.term_is_set;
        start_low = leads.start_low;
        start_high = leads.start_high;
        reached_each = length-set lead.reached member reached ∙ leads.reached_each;
        next_each = length-set lead.next member (reached + 1) ∙ leads.next_each;
        reached = All-set (λ (i : ℕ). i ≤ last) lead.reached member reached (omega (arith, most, low)) leads.reached;
        next_low = All-set (λ (i : ℕ). 1 ≤ i) lead.next member (reached + 1) (omega arith) leads.next_low;
        next_high = All-set (λ (i : ℕ). i ≤ last + 1) lead.next member (reached + 1) (omega (arith, most, low)) leads.next_high;
        bounds = leads.bounds;
        queues = leads.queues;
      }

  -- the leader goes on elsewhere
  pub leads-next : (member index : ℕ) → 1 ≤ index → index ≤ last + 1 → IsLeading s term last (record lead { next = slice_set lead.next member index })
  leads-next member index low high =
      record {
        term_is_set = leads.term_is_set;
        start_low = leads.start_low;
        start_high = leads.start_high;
        reached_each = leads.reached_each;
        next_each = length-set lead.next member index ∙ leads.next_each;
        reached = leads.reached;
        next_low = All-set (λ (i : ℕ). 1 ≤ i) lead.next member index low leads.next_low;
        next_high = All-set (λ (i : ℕ). i ≤ last + 1) lead.next member index high leads.next_high;
        bounds = leads.bounds;
        queues = leads.queues;
      }

  reported-queue : (row : Row) (applied : ℕ) → IsQueue last row → IsQueue last (with_reported row applied)
  reported-queue row applied queue =
      record {
        bounded = reported-row row applied queue.bounded;
        ordered = All-filter (λ index. nat_lt applied index) (λ (index : ℕ). index ≤ last) row.given queue.ordered;
      }

  -- a member reports what it applied
  pub leads-report : (member applied : ℕ) → member < length s.members → IsLeading s term last (with_report lead member applied)
  leads-report member applied inside =
      let row = row_at lead.queues member in
      let there = leads.queues member (empty_row 0) (omega (arith, inside, rows-each)) in
      record {
        term_is_set = leads.term_is_set;
        start_low = leads.start_low;
        start_high = leads.start_high;
        reached_each = leads.reached_each;
        next_each = leads.next_each;
        reached = leads.reached;
        next_low = leads.next_low;
        next_high = leads.next_high;
        bounds = map-set_same (λ (r : Row). r.bound) lead.queues member (with_reported row applied) (empty_row 0) refl ∙ leads.bounds;
        queues = All-set (IsQueue last) lead.queues member (with_reported row applied) (reported-queue row applied there) leads.queues;
      }

  -- the next entry for any number is at most one after the log's last
  pub next-most : (member : ℕ) → next_to lead member ≤ last + 1
  next-most member =
      elim (cases_lt member (length lead.next)) [
        | inl inside ↦ leads.next_high member 0 inside
        | inr past ↦ (let none = get_or_past lead.next member 0 (omega (arith, past)) in omega (arith, none))
      ]

  -- no member has more to answer than its bound
  pub queues-bounded : (member : ℕ) → member < length s.members → unreported lead.queues member ≤ slice_index_or s.bounds member 0
  queues-bounded member inside =
      let within : member < length lead.queues = omega (arith, inside, rows-each) in
      let queue = leads.queues member (empty_row 0) within in
      let row = queue.bounded in
      let most = row.within in
      let bound : slice_index_or s.bounds member 0 ≡ (row_at lead.queues member).bound =
      ap (λ (bs : List ℕ). slice_index_or bs member 0) (sym leads.bounds) ∙ get_or-map (λ (r : Row). r.bound) lead.queues member (empty_row 0) 0 within in
      omega (arith, most, bound)

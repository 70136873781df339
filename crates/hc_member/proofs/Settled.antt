-- What follows each row leaves a sound member, and sends what it may.
use Rattle.std.proofs.Common.{◌≡◌, ℕ, ◌+◌, ◌-◌, ◌≤◌, max, min, Bool, true, false, List, [], ◌∷◌, length, take, drop, Option, None, Some, refl, sym, ap, subst, ◌∙◌, arith, length-drop}
use Rattle.std.specs.Prelude.{◌&&◌, nat_le, nat_lt, if◌then◌else◌, filter, fold, All, slice_set}
use Rattle.std.proofs.lemmas.Bool.{and_parts, ltb-true}
use Rattle.std.proofs.lemmas.List.{length-map, length-take, take-take, take_all}
use Rattle.std.proofs.lemmas.List.Elements.{All-append, All-filter, All-head, All-nil, All-set, All-tail, All-weaker}
use Rattle.r2_base.specs.Limits.{most_entries}
use Rattle.r2_base.specs.declared.addr.Addr.{Addr}
use Rattle.r2_base.specs.declared.entry.Entry.{Entry}
use Rattle.hc_log.specs.declared.stored.Stored.{Stored}
use Rattle.hc_log.specs.Log.{metas_of}
use Rattle.hc_log.specs.Durable.{State, KeepsVote}
use Rattle.hc_order.specs.Counting.{counted, reaching}
use Rattle.hc_order.specs.Ordering.{Waiting, ordered}
use Rattle.hc_member.specs.declared.setup.Setup.{Setup}
use Rattle.hc_member.specs.declared.role.Role.{Role}
use Rattle.hc_member.specs.declared.role.Role.TheVariants.{Follower, Candidate, Leader}
use Rattle.hc_member.specs.Setup.{IsSetup, address_of, majority, others}
use Rattle.hc_member.specs.Finish.{batched, most_batched}
use Rattle.hc_member.specs.Member.{Member, durable_of}
use Rattle.hc_member.specs.Orders.{fresh_orders, order_after, orders_to}
use Rattle.hc_member.specs.Outcome.{Outcome}
use Rattle.hc_member.specs.Sending.{Tell, IsSent}
use Rattle.hc_member.specs.Sound.{IsInRole, IsLeading, IsSound}
use Rattle.hc_member.specs.Turn.{agreed_index, counting, led, ordering, settled, waiting_of, with_ordered}
use Rattle.hc_member.proofs.Goes.{Goes}
use Rattle.hc_member.proofs.Ordering.{CanOrder, Extends, orders}
use Rattle.hc_member.proofs.ReportRows.{leading, sound-commit}
use Rattle.hc_member.proofs.Sound.{sound-log, sound-waits}
use Rattle.hc_member.proofs.Sends.{sent-each, sent-one, sent-order}

-- the greatest of some numbers is at most what each is
fold-max-most : (most first : ℕ) (numbers : List ℕ) → first ≤ most → All (λ (n : ℕ). n ≤ most) numbers → fold max first numbers ≤ most
fold-max-most most first [] low all = low
fold-max-most most first (n ∷ more) low all =
    let here = All-head (λ (n : ℕ). n ≤ most) n more all in
    fold-max-most most (max first n) more (omega (arith, low, here)) (All-tail (λ (n : ℕ). n ≤ most) n more all)

counted-most : (reached : List ℕ) (need most : ℕ) → All (λ (n : ℕ). n ≤ most) reached → counted reached need ≤ most
unfolding counted
counted-most reached need most all =
    fold-max-most most 0 (filter (λ m. nat_le need (reaching reached m)) reached) (omega arith)
    (All-filter (λ m. nat_le need (reaching reached m)) (λ (n : ℕ). n ≤ most) reached all)

module _ (s : Setup) (is : IsSetup s) where
  -- a leader may order
  pub can-order : (m : Member) → IsSound s m → m.role ≡ Leader → CanOrder s m.term m.vote (waiting_of m)
  can-order m sound role =
      let lead = leading s is m sound role in
      record { valid = sound.durable; is_set = lead.term_is_set; pool = sound.pool; apart = sound.apart; bounds = lead.bounds; queues = lead.queues }

  -- a leader with a longer log
  leads-longer : (m : Member) (w : Waiting) (room : ℕ) → IsLeading s m.term (length m.log) m.lead → CanOrder s m.term m.vote w → Extends m.log w.log room
      → IsLeading s m.term (length w.log) (record m.lead { queues = w.queues })
  leads-longer m w room lead can extends =
      let long = extends.long in
      record {
        term_is_set = lead.term_is_set;
        start_low = lead.start_low;
        start_high = (let high = lead.start_high in omega (arith, high, long));
        reached_each = lead.reached_each;
        next_each = lead.next_each;
        reached = All-weaker (λ (i : ℕ). i ≤ length m.log) (λ (i : ℕ). i ≤ length w.log) (λ i le. omega (arith, le, long)) m.lead.reached lead.reached;
        next_low = lead.next_low;
        next_high = All-weaker (λ (i : ℕ). i ≤ length m.log + 1) (λ (i : ℕ). i ≤ length w.log + 1) (λ i le. omega (arith, le, long)) m.lead.next lead.next_high;
        bounds = can.bounds;
        queues = can.queues;
      }

  sound-with_ordered : (m : Member) (w : Waiting) (room : ℕ) → IsSound s m → m.role ≡ Leader → CanOrder s m.term m.vote w → Extends m.log w.log room
      → IsSound s (with_ordered m w)
  sound-with_ordered m w room sound role can extends =
      let batch = sound.batch in
      let committed = sound.committed in
      let long = extends.long in
      let front : take (length m.log) m.log ≡ take (length m.log) w.log = take_all (length m.log) m.log (omega arith) ∙ sym extends.front in
      let lead = record m.lead { queues = w.queues } in
      sound-log s m (length m.log) w.log w.pool m.role (length w.log) m.commit lead sound (omega (arith, batch, committed)) front can.valid can.pool can.apart (omega arith)
      (omega (arith, committed, long)) (omega arith)
      (subst (IsInRole s m.term (length w.log) m.votes lead) (sym role) (leads-longer m w room (leading s is m sound role) can extends))

  -- what ordering leads to
  pub record Ordered (m n : Member) (room : ℕ) : Type 0 where
    pub sound : IsSound s n
    pub term : n.term ≡ m.term
    pub vote : n.vote ≡ m.vote
    pub role : n.role ≡ m.role
    pub commit : n.commit ≡ m.commit
    pub applied : n.applied ≡ m.applied
    pub extends : Extends m.log n.log room

  pub ordered-leader : (m : Member) (keep : ℕ) → IsSound s m → m.role ≡ Leader → Ordered m (ordering m keep) (most_entries - (length m.log - keep))
  unfolding ordering
  ordered-leader m keep sound role =
      let room = most_entries - (length m.log - keep) in
      let w = ordered m.term room (waiting_of m) in
      let did = orders s is m.term m.vote room (waiting_of m) (can-order m sound role) in
      record { sound = sound-with_ordered m w room sound role did.can did.extends; term = refl; vote = refl; role = refl; commit = refl; applied = refl; extends = did.extends }

  -- the Order of what a turn appended is valid
  pub fresh-order : (m : Member) (to : Addr) (keep : ℕ) (via : Bool) → IsSound s m → m.role ≡ Leader → keep ≤ length m.log → length m.log ≤ keep + most_entries
      → IsSent (Tell to (order_after s m keep via (metas_of (drop keep m.log))))
  fresh-order m to keep via sound role within few =
      let lead = leading s is m sound role in
      let entries = metas_of (drop keep m.log) in
      let size = length-map (drop keep m.log) (λ (x : Stored). x.entry) in
      let left = length-drop keep m.log in
      let whole : take most_entries entries ≡ entries = take_all most_entries entries (omega (arith, size, left, few)) in
      subst (λ (es : List Entry). IsSent (Tell to (order_after s m keep via es))) whole
      (sent-order s m to keep most_entries via is sound.durable lead.term_is_set lead.start_low lead.start_high sound.committed (omega arith) within)

  sent-orders : (m : Member) (keep : ℕ) (aggregator : Option Addr) → IsSound s m → m.role ≡ Leader → keep ≤ length m.log → length m.log ≤ keep + most_entries
      → All IsSent (orders_to s m keep aggregator)
  sent-orders m keep (Some aggregator) sound role within few =
      sent-one (Tell aggregator (order_after s m keep true (metas_of (drop keep m.log)))) (fresh-order m aggregator keep true sound role within few)
  sent-orders m keep None sound role within few =
      sent-each (λ member. Tell (address_of s member) (order_after s m keep false (metas_of (drop keep m.log)))) (others s)
      (λ member. fresh-order m (address_of s member) keep false sound role within few)

  sent-fresh_by : (b : Bool) (m : Member) (keep : ℕ) → IsSound s m → m.role ≡ Leader → keep ≤ length m.log → length m.log ≤ keep + most_entries
      → All IsSent (if b then orders_to s m keep s.aggregator else [])
  sent-fresh_by true m keep sound role within few = sent-orders m keep s.aggregator sound role within few
  sent-fresh_by false m keep sound role within few = All-nil IsSent

  sent-fresh : (m : Member) (keep : ℕ) → IsSound s m → m.role ≡ Leader → keep ≤ length m.log → length m.log ≤ keep + most_entries → All IsSent (fresh_orders s m keep)
  unfolding fresh_orders
  sent-fresh m keep sound role within few = sent-fresh_by (nat_lt keep (length m.log)) m keep sound role within few

  -- a leader counts
  pub record Counted (m n : Member) : Type 0 where
    pub sound : IsSound s n
    pub durable : durable_of n ≡ durable_of m
    pub role : n.role ≡ m.role
    pub commit : m.commit ≤ n.commit
    pub applied : n.applied ≡ m.applied

  counted-by : (b : Bool) (m : Member) → (nat_le m.lead.term_start (agreed_index s m) && nat_lt m.commit (agreed_index s m)) ≡ b → IsSound s m → m.role ≡ Leader
      → Counted m (if b then record m { commit = agreed_index s m } else m)
  counted-by true m e sound role =
      let lead = leading s is m sound role in
      let parts = and_parts (nat_le m.lead.term_start (agreed_index s m)) (nat_lt m.commit (agreed_index s m)) e in
      let more = ltb-true m.commit (agreed_index s m) parts.1 in
      let most = counted-most (slice_set m.lead.reached s.me (length m.log)) (majority s) (length m.log)
      (All-set (λ (i : ℕ). i ≤ length m.log) m.lead.reached s.me (length m.log) (omega arith) lead.reached) in
      record { sound = sound-commit s is m (agreed_index s m) (omega (arith, more)) most sound; durable = refl; role = refl; commit = omega (arith, more); applied = refl }
  counted-by false m e sound role = record { sound = sound; durable = refl; role = refl; commit = omega arith; applied = refl }

  pub counted-leader : (m : Member) → IsSound s m → m.role ≡ Leader → Counted m (counting s m)
  unfolding counting
  counted-leader m sound role = counted-by (nat_le m.lead.term_start (agreed_index s m) && nat_lt m.commit (agreed_index s m)) m refl sound role

  -- what follows a row at a leader
  goes-led-leader : (m : Member) (o : Outcome) → o.member.role ≡ Leader → Goes s m o → Goes s m (led s o Leader)
  goes-led-leader m o role goes =
      let room = most_entries - (length o.member.log - o.keep) in
      let ordered_now = ordered-leader o.member o.keep goes.sound role in
      let n = ordering o.member o.keep in
      let counted_now = counted-leader n ordered_now.sound (ordered_now.role ∙ role) in
      let last = counting s n in
      let comes = goes.comes in
      let extends = ordered_now.extends in
      let within = comes.within in
      let sizes = ap length comes.front in
      let low : o.keep ≤ length o.member.log = omega (arith, within, sizes, length-take o.keep m.log, length-take o.keep o.member.log) in
      let count = comes.count in
      let long = extends.long in
      let most = extends.most in
      let few : length n.log ≤ o.keep + most_entries = omega (arith, low, count, most) in
      let same = counted_now.durable in
      let log : last.log ≡ n.log = ap (λ (d : State). d.log) same in
      let term : last.term ≡ o.member.term = ap (λ (d : State). d.term) same ∙ ordered_now.term in
      let vote : last.vote ≡ o.member.vote = ap (λ (d : State). d.vote) same ∙ ordered_now.vote in
      let front : take o.keep o.member.log ≡ take o.keep n.log =
      ap (take o.keep) (sym extends.front) ∙ take-take o.keep (length o.member.log) n.log low in
      let size = ap length log in
      record {
        sound = counted_now.sound;
        comes =
            record {
              term = (let lower = comes.term in omega (arith, lower, term));
              vote = λ e. subst (KeepsVote m.vote) (sym vote) (comes.vote (omega (arith, e, term)));
              within = within;
              front = comes.front ∙ front ∙ ap (take o.keep) (sym log);
              count = omega (arith, few, size);
              cut = λ less e. absurd (let follower = goes.cut less in let both : Leader ≡ Follower = sym role ∙ follower in cc);
            };
        cut = λ less. absurd (let follower = goes.cut less in let both : Leader ≡ Follower = sym role ∙ follower in cc);
        commit = (let first = goes.commit in let second = ordered_now.commit in let third = counted_now.commit in omega (arith, first, second, third));
        stands = goes.stands;
        applied = counted_now.applied ∙ ordered_now.applied ∙ goes.applied;
        sends = All-append IsSent o.sends (fresh_orders s n o.keep) goes.sends
            (sent-fresh n o.keep ordered_now.sound (ordered_now.role ∙ role) (omega (arith, low, long)) few);
      }

  goes-led : (m : Member) (o : Outcome) (role : Role) → o.member.role ≡ role → Goes s m o → Goes s m (led s o role)
  goes-led m o Leader role goes = goes-led-leader m o role goes
  goes-led m o Follower role goes = goes
  goes-led m o Candidate role goes = goes

  -- the next batch is set aside
  pub sound-batched : (m : Member) → IsSound s m → IsSound s (batched m)
  unfolding batched
  sound-batched m sound =
      let batch = sound.batch in
      sound-waits s m m.pool m.unfinished (min m.commit (m.applied + most_batched) - m.applied) m.silent sound sound.pool sound.apart sound.unfinished (omega (arith, batch))

  goes-batched : (m : Member) (o : Outcome) → Goes s m o → Goes s m (record o { member = batched o.member })
  unfolding batched
  goes-batched m o goes = record { sound = sound-batched o.member goes.sound; comes = goes.comes; cut = goes.cut; commit = goes.commit; stands = goes.stands; applied = goes.applied; sends = goes.sends }

  pub goes-settled : (m : Member) (o : Outcome) → Goes s m o → Goes s m (settled s o)
  unfolding settled
  goes-settled m o goes = goes-batched m (led s o o.member.role) (goes-led m o o.member.role refl goes)

  kept-led : (o : Outcome) (role : Role) → (led s o role).keep ≡ o.keep
  kept-led o Leader = refl
  kept-led o Follower = refl
  kept-led o Candidate = refl

  -- what follows a row leaves as much of the log
  pub kept-settled : (o : Outcome) → (settled s o).keep ≡ o.keep
  unfolding settled
  kept-settled o = kept-led o o.member.role

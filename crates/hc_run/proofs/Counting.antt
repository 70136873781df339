-- A leader counts by the protocol's rules.
use Rattle.std.proofs.Common.{◌≡◌, ◌≢◌, ℕ, zero, suc, ◌+◌, ◌<◌, ◌≤◌, ◌==◌, ◌&&◌, ◌||◌, Bool, true, false, List, [], length, take, set, get_or, refl, sym, arith, inl, inr, add-one}
use Rattle.std.specs.Prelude.{count_by, if◌then◌else◌, nat_le, nat_lt, slice_set}
use Rattle.std.proofs.lemmas.Bool.{and_parts, le-leb, leb-true, ltb-true}
use Rattle.std.proofs.lemmas.List.{get_or-set_other, length-set, take_all}
use Rattle.std.proofs.lemmas.List.Elements.{All-nil}
use Rattle.std.proofs.lemmas.List.Sums.{count_by_more_no, count_by_more_yes}
use Rattle.hc_order.proofs.Greatest.{is_counted}
use Rattle.hc_member.specs.declared.setup.Setup.{Setup}
use Rattle.hc_member.specs.declared.role.Role.TheVariants as member
use Rattle.hc_member.specs.Member.{Member}
use Rattle.hc_member.specs.Outcome.{Outcome, stays}
use Rattle.hc_member.specs.Reports.{reached_by}
use Rattle.hc_member.specs.Setup.{majority}
use Rattle.hc_member.specs.Sound.{IsSound}
use Rattle.hc_member.specs.Turn.{agreed_index, counting}
use Rattle.hc_member.proofs.ReportRows.{leading}
use Rattle.hc_member.proofs.Settled.{counted-leader}
use Rattle.hc_rules.specs.Majority.{tally}
use Rattle.hc_rules.specs.Message.{Passed, Report}
use Rattle.hc_rules.specs.Protocol.{ProtocolState, acked}
use Rattle.hc_rules.specs.Rules.{CommitByCount, after}
use Rattle.hc_rules.specs.Runs.{after_rules}
use Rattle.hc_rules.proofs.Puts.{same_or_not, self}
use Rattle.hc_run.specs.Backed.{IsBacked}
use Rattle.hc_run.specs.Halves.{CountingIsRules, IsSteps, Stands}
use Rattle.hc_run.proofs.Common.{holds-on}
use Rattle.hc_run.proofs.Metas.{length-metas}
use Rattle.hc_run.proofs.Ties.{tie-commit}
use Rattle.hc_run.proofs.Ways.{IsWay, acts, like_of, shown_of, way-end, way-first}

-- ways are steps
pub steps-of : (s : Setup) (w : ProtocolState) (o : Outcome) (done : List Passed) (told : List Report) → IsSound s o.member → IsWay s w o done told
    → IsSteps s w o.member o.sends done told
steps-of s w o done told sound way =
    record {
      rules = way.rules;
      are =
          record {
            own = way.own;
            allowed = way.allowed;
            shown = shown_of s (after_rules w way.rules) o.member way.like sound;
            backed = way.backed;
            passed = way.passed;
            reports = way.reports;
          };
    }

-- members that pass a test, and numbers that pass one
pub tally-by : {X : Type 0} (f : X → Bool) (xs : List X) (d : X) (n : ℕ) → n ≤ length xs → tally n (λ c. f (get_or xs c d)) ≡ count_by f (take n xs)
tally-by f xs d zero inside = refl
tally-by f xs d (suc n) inside =
    let here : n < length xs = omega (arith, inside) in
    let rest = tally-by f xs d n (omega (arith, inside)) in
    rw (sym (add-one n)) (by (f (get_or xs n d)) refl here rest)
  where
    by : (b : Bool) → f (get_or xs n d) ≡ b → n < length xs → tally n (λ c. f (get_or xs c d)) ≡ count_by f (take n xs)
        → (if f (get_or xs n d) then 1 else 0) + tally n (λ c. f (get_or xs c d)) ≡ count_by f (take (n + 1) xs)
    by true e here rest = let more = count_by_more_yes f xs n d here e in rw e (omega (arith, rest, more))
    by false e here rest = let more = count_by_more_no f xs n d here e in rw e (omega (arith, rest, more))

grow : (b : Bool) (a c : ℕ) → a ≤ c → 0 + a ≤ (if b then 1 else 0) + c
grow true a c rest = omega (arith, rest)
grow false a c rest = omega (arith, rest)

-- more members pass a weaker test
pub tally-weaker : (n : ℕ) (p q : ℕ → Bool) → ((c : ℕ) → p c ≡ true → q c ≡ true) → tally n p ≤ tally n q
tally-weaker zero p q h = omega arith
tally-weaker (suc n) p q h = by (p n) refl (tally-weaker n p q h)
  where
    by : (b : Bool) → p n ≡ b → tally n p ≤ tally n q → (if p n then 1 else 0) + tally n p ≤ (if q n then 1 else 0) + tally n q
    by true e rest = rw (e, h n e) (omega (arith, rest))
    by false e rest = rw e (grow (q n) (tally n p) (tally n q) rest)

either : (a b : Bool) → a ≡ true → (a || b) ≡ true
either true b e = refl
either false b e = absurd cc

or : (a b : Bool) → b ≡ true → (a || b) ≡ true
or true b e = refl
or false b e = e

module _ (s : Setup) (w : ProtocolState) (m : Member) (stands : Stands s w m) (role : m.role ≡ member.Leader) where
  -- a member that has an index by the leader's numbers has acknowledged it
  reached-acked : (index : ℕ) → 1 ≤ index → (c : ℕ) → nat_le index (get_or (slice_set m.lead.reached s.me (length m.log)) c 0) ≡ true
      → ((c == s.me) || nat_le index (acked w.acks (w.term s.me) c)) ≡ true
  reached-acked index set c has =
      let shown = stands.shown in
      let tied = shown.tied in
      let kept = stands.kept in
      let commitments = kept.commitments in
      elim (same_or_not c s.me) [
        | inl same ↦ either (c == s.me) (nat_le index (acked w.acks (w.term s.me) c)) (rw (same, self s.me) refl)
        | inr differs ↦
            let value : get_or (slice_set m.lead.reached s.me (length m.log)) c 0 ≡ reached_by m.lead c = get_or-set_other m.lead.reached s.me c (length m.log) 0 (not_same differs) in
            let low = leb-true index (get_or (slice_set m.lead.reached s.me (length m.log)) c 0) has in
            let tie = tied.reached role c in
            let most = commitments.reached_was_acknowledged s.me c (rw (tied.role, role) refl) in
            or (c == s.me) (nat_le index (acked w.acks (w.term s.me) c)) (le-leb index (acked w.acks (w.term s.me) c) (omega (arith, low, value, tie, most)))
      ]
    where
      not_same : {c d : ℕ} → (c == d) ≡ false → c ≢ d
      not_same {c} {d} f g = absurd (let h = rw (g, self d) at f in cc)

  count-way : (b : Bool) → (nat_le m.lead.term_start (agreed_index s m) && nat_lt m.commit (agreed_index s m)) ≡ b
      → IsSound s (if b then record m { commit = agreed_index s m } else m)
      → IsWay s w (stays m (if b then record m { commit = agreed_index s m } else m) []) w.passed w.reports
  count-way false e sound = way-end s w (stays m m []) (like_of s w m stands.shown) (All-nil (IsBacked s w))
  count-way true e sound =
      let shown = stands.shown in
      let like = like_of s w m shown in
      let tied = shown.tied in
      let setup = stands.setup in
      let lead = leading s setup m shown.sound role in
      let index = agreed_index s m in
      let parts = and_parts (nat_le m.lead.term_start index) (nat_lt m.commit index) e in
      let start = leb-true m.lead.term_start index parts.0 in
      let more = ltb-true m.commit index parts.1 in
      let list = slice_set m.lead.reached s.me (length m.log) in
      let long = length-set m.lead.reached s.me (length m.log) in
      let each = lead.reached_each in
      let low = lead.start_low in
      let own = setup.own in
      let is = is_counted list (majority s) (omega arith) (omega (arith, long, each, own)) in
      let enough = is.reached_by in
      let size = shown.group.size in
      let all : take w.size list ≡ list = take_all w.size list (omega (arith, long, each, size)) in
      let tallied : tally w.size (λ c. nat_le index (get_or list c 0)) ≡ count_by (λ n. nat_le index n) list =
      rw all at (tally-by (λ n. nat_le index n) list 0 w.size (omega (arith, long, each, size))) in
      let weaker = tally-weaker w.size (λ c. nat_le index (get_or list c 0)) (λ p. (p == s.me) || nat_le index (acked w.acks (w.term s.me) p))
      (reached-acked index (omega (arith, start, low))) in
      let most : index ≤ length m.log = sound.committed in
      let v = after w (CommitByCount s.me index) in
      let n : Member = record m { commit = index } in
      way-first s w (stays m n []) w.passed w.reports (CommitByCount s.me index) refl
      (record {
        leads = record { acts = acts s w m setup like; leads = rw (tied.role, role) refl };
        own = rw (tied.start role) start;
        within = rw (tied.log, length-metas m.log) most;
        backed = omega (arith, enough, tallied, weaker, size);
      })
      (way-end s v (stays m n [])
      (record {
        group = record { size = like.group.size; bound = like.group.bound };
        tied = tie-commit w s.me m tied index index (omega (arith, more));
        holds = (let holds = like.holds in holds-on w.table w.replied w.replied w.reports w.reports s.me m n holds refl refl refl refl (λ r there. there) holds.led);
      })
      (All-nil (IsBacked s v)))

pub counting_rules : CountingIsRules
unfolding counting
counting_rules s w m stands role =
    let shown = stands.shown in
    let after_all = counted-leader s stands.setup m shown.sound role in
    steps-of s w (stays m (counting s m) []) w.passed w.reports after_all.sound
    (count-way s w m stands role (nat_le m.lead.term_start (agreed_index s m) && nat_lt m.commit (agreed_index s m)) refl after_all.sound)

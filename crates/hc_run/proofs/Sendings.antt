-- A leader sends Orders.
use Rattle.std.proofs.Common.{◌≡◌, ℕ, zero, suc, ◌+◌, ◌-◌, ◌≤◌, Bool, false, List, [], ◌∷◌, length, map, take, drop, refl, sym, ap, subst, ◌∙◌, arith, inl, inr}
use Rattle.std.specs.Prelude.{All}
use Rattle.std.proofs.Common.{length-drop}
use Rattle.std.proofs.lemmas.List.{drop-map, length-map, length-take, take_all}
use Rattle.std.proofs.lemmas.List.Elements.{All-cons, All-nil}
use Rattle.r2_base.specs.Limits.{most_entries}
use Rattle.r2_base.specs.declared.addr.Addr.{Addr}
use Rattle.r2_base.specs.declared.entry.Entry.{Entry}
use Rattle.hc_log.specs.declared.stored.Stored.{Stored}
use Rattle.hc_log.specs.Log.{metas_of, term_at}
use Rattle.hc_member.specs.declared.setup.Setup.{Setup}
use Rattle.hc_member.specs.declared.role.Role.TheVariants as member
use Rattle.hc_member.specs.Member.{Member}
use Rattle.hc_member.specs.Orders.{direct_order, next_to, order_after}
use Rattle.hc_member.specs.Outcome.{Outcome}
use Rattle.hc_member.specs.Setup.{IsSetup, address_of}
use Rattle.hc_member.specs.Sound.{IsSound}
use Rattle.hc_member.proofs.Leads.{next-most}
use Rattle.hc_member.proofs.ReportRows.{leading}
use Rattle.hc_rules.specs.Conditions.{MaySendOrder}
use Rattle.hc_rules.specs.Log as world
use Rattle.hc_rules.specs.Log.{In}
use Rattle.hc_rules.specs.Message.{Order as WorldOrder, Passed, Report}
use Rattle.hc_rules.specs.Protocol.{ProtocolState}
use Rattle.hc_rules.specs.Rules.{SendOrder, after, order_of}
use Rattle.hc_run.specs.Backed.{IsBacked, IsSentAs}
use Rattle.hc_run.proofs.Metas.{length-metas, term-metas}
use Rattle.hc_run.proofs.Ways.{IsLike, IsWay, acts, way-first}

-- an Order as the protocol has it, by its parts
abbrev pub order_with : ℕ → ℕ → ℕ → ℕ → ℕ → ℕ → List Entry → WorldOrder
order_with term leader previous previous_term start commit entries =
    record {
      term = term;
      leader = leader;
      previous = previous;
      previous_term = previous_term;
      start = start;
      commit = commit;
      entries = entries;
    }

orders-equal : (leader previous : ℕ) (t t' p p' s s' c c' : ℕ) (e e' : List Entry) → t ≡ t' → p ≡ p' → s ≡ s' → c ≡ c' → e ≡ e'
    → order_with t leader previous p s c e ≡ order_with t' leader previous p' s' c' e'
orders-equal leader previous t t' p p' s s' c c' e e' a b d f g = cc

-- entries are those of a log after an index
pub record AreSlice (log : List Stored) (index : ℕ) (entries : List Entry) : Type 0 where
  pub within : index + length entries ≤ length log
  pub same : take (length entries) (drop index (metas_of log)) ≡ entries

-- as many items as a prefix has are that prefix
again : (n : ℕ) (xs : List Entry) → take (length (take n xs)) xs ≡ take n xs
again zero xs = refl
again (suc n) [] = refl
again (suc n) (x ∷ xs) = ap (λ (l : List Entry). x ∷ l) (again n xs)

pub slice-of : (log : List Stored) (index count : ℕ) → index ≤ length log → AreSlice log index (take count (metas_of (drop index log)))
slice-of log index count inside =
    let f = λ (x : Stored). x.entry in
    let rest = metas_of (drop index log) in
    let moved : drop index (metas_of log) ≡ rest = drop-map f index log in
    let long : length rest ≡ length log - index = simp (length-map, length-drop) in
    let short = length-take count rest in
    record {
      within = omega (arith, short, long, inside);
      same = rw moved (again count rest);
    }

pub slice-all : (log : List Stored) (index : ℕ) → index ≤ length log → AreSlice log index (metas_of (drop index log))
slice-all log index inside =
    let f = λ (x : Stored). x.entry in
    let rest = metas_of (drop index log) in
    let moved : drop index (metas_of log) ≡ rest = drop-map f index log in
    let long : length rest ≡ length log - index = simp (length-map, length-drop) in
    record {
      within = omega (arith, long, inside);
      same = rw moved (take_all (length rest) rest (omega arith));
    }

-- it is like that after an Order was sent
like-sent : (s : Setup) (w : ProtocolState) (m : Member) (previous count : ℕ) → IsLike s w m → IsLike s (after w (SendOrder s.me previous count)) m
like-sent s w m previous count like =
    record { group = record { size = like.group.size; bound = like.group.bound }; tied = like.tied; holds = like.holds }

-- what sends of Orders leave: what was sent stays
pub record Goes (w v : ProtocolState) : Type 0 where
  pub orders : (o : WorldOrder) → In o w.orders → In o v.orders
  pub passed : v.passed ≡ w.passed
  pub reports : v.reports ≡ w.reports

-- a leader sends one
pub sends-order : (s : Setup) (w : ProtocolState) (m : Member) (o : Outcome) (done : List Passed) (told : List Report) (index : ℕ) (entries : List Entry) → IsSetup s → IsLike s w m
    → m.role ≡ member.Leader → AreSlice m.log index entries
    → ((v : ProtocolState) → IsLike s v m → Goes w v
    → ((via : Bool) (to : Addr) → IsSentAs s.members v to (order_after s m index via entries)) → IsWay s v o done told)
    → IsWay s w o done told
sends-order s w m o done told index entries is like leads slice goes =
    let tied = like.tied in
    let rule = SendOrder s.me index (length entries) in
    let within = slice.within in
    let may : MaySendOrder w s.me index (length entries) =
    record {
      leads = record { acts = acts s w m is like; leads = rw (tied.role, leads) refl };
      within = rw (tied.log, length-metas m.log) within;
    } in
    let same : order_with m.term s.me index (term_at m.log index) m.lead.term_start m.commit entries ≡ order_of w s.me index (length entries) =
    orders-equal s.me index m.term (w.term s.me) (term_at m.log index) (world.term_at (w.log s.me) index) m.lead.term_start (w.start s.me) m.commit (w.commit s.me) entries
    (take (length entries) (drop index (w.log s.me))) (sym tied.term) (rw tied.log (sym (term-metas m.log index))) (sym (tied.start leads)) (sym tied.commit) (rw tied.log (sym slice.same)) in
    way-first s w o done told rule refl may
    (goes (after w rule) (like-sent s w m index (length entries) like) (record { orders = λ x there. inr there; passed = refl; reports = refl }) (λ via to. inl same))

-- a leader sends each of these members its direct Order
pub sends-direct : (s : Setup) (w : ProtocolState) (m : Member) (o : Outcome) (members : List ℕ) → IsSetup s → IsLike s w m → IsSound s m → m.role ≡ member.Leader
    → ((v : ProtocolState) → IsLike s v m → Goes w v → All (IsBacked s v) (map (direct_order s m) members) → IsWay s v o v.passed v.reports)
    → IsWay s w o w.passed w.reports
sends-direct s w m o [] is like sound leads goes = goes w like (record { orders = λ x there. there; passed = refl; reports = refl }) (All-nil (IsBacked s w))
sends-direct s w m o (x ∷ more) is like sound leads goes =
    let index = next_to m.lead x - 1 in
    let next = next-most s is m.term (length m.log) m.lead (leading s is m sound leads) x in
    let entries = take most_entries (metas_of (drop index m.log)) in
    sends-order s w m o w.passed w.reports index entries is like leads (slice-of m.log index most_entries (omega (arith, next)))
    (λ v like_v grown sent.
    let rest = sends-direct s v m o more is like_v sound leads
    (λ u like_u grown_u backed.
    goes u like_u (record { orders = λ y there. grown_u.orders y (grown.orders y there); passed = grown_u.passed ∙ grown.passed; reports = grown_u.reports ∙ grown.reports })
    (All-cons (IsBacked s u) (direct_order s m x) (map (direct_order s m) more) (grown_u.orders _ (sent false (address_of s x))) backed)) in
    subst (λ (r : List Report). IsWay s v o w.passed r) grown.reports (subst (λ (p : List Passed). IsWay s v o p v.reports) grown.passed rest))

-- The rows on acknowledgements, refusals and what the aggregator found.
use Rattle.std.proofs.Common.{◌≡◌, ℕ, ◌+◌, ◌-◌, ◌<◌, ◌≤◌, ◌==◌, max, min, Bool, true, false, [], ◌∷◌, length, None, Some, refl, sym, subst, arith}
use Rattle.std.specs.Prelude.{◌&&◌, not, if◌then◌else◌, slice_set}
use Rattle.std.proofs.lemmas.Bool.{and_parts}
use Rattle.std.proofs.lemmas.List.Elements.{All-nil}
use Rattle.r2_base.specs.Limits.{most_entries}
use Rattle.hc_message.specs.Entry.{IsTerm}
use Rattle.hc_member.specs.declared.setup.Setup.{Setup}
use Rattle.hc_member.specs.declared.role.Role.{Role}
use Rattle.hc_member.specs.declared.role.Role.TheVariants.{Follower, Candidate, Leader}
use Rattle.hc_member.specs.Setup.{IsSetup, address_of}
use Rattle.hc_member.specs.Laws.{QueuesAreBounded}
use Rattle.hc_member.specs.Member.{Member, Lead, is_candidate, is_leader, leads}
use Rattle.hc_member.specs.Orders.{direct_order, next_to}
use Rattle.hc_member.specs.Outcome.{stays}
use Rattle.hc_member.specs.Reports.{acknowledged, hear_ack, hear_commit, hear_nack, reached_by, turned_back, with_reached, with_report}
use Rattle.hc_member.specs.Sending.{IsSent}
use Rattle.hc_member.specs.Sound.{IsInRole, IsLeading, IsSound}
use Rattle.hc_member.specs.Votes.{rise_to}
use Rattle.hc_member.proofs.Goes.{Goes, goes-kept, goes-nothing, goes-stays}
use Rattle.hc_member.proofs.Leads.{queues-bounded, leads-next, leads-reached, leads-report, next-most}
use Rattle.hc_member.proofs.Rises.{rises, rises-on}
use Rattle.hc_member.proofs.Sound.{sound-part}
use Rattle.hc_member.proofs.Sends.{sent-one, sent-order}

-- a leader leads
pub role-leads : (role : Role) → is_leader role ≡ true → role ≡ Leader
role-leads Follower e = cc
role-leads Candidate e = cc
role-leads Leader e = refl

module _ (s : Setup) (is : IsSetup s) where
  pub leading : (m : Member) → IsSound s m → m.role ≡ Leader → IsLeading s m.term (length m.log) m.lead
  leading m sound role = subst (IsInRole s m.term (length m.log) m.votes m.lead) role sound.role

  -- a leader that keeps something else
  pub sound-lead : (m : Member) (lead : Lead) → IsSound s m → m.role ≡ Leader → IsLeading s m.term (length m.log) lead → IsSound s (record m { lead = lead })
  sound-lead m lead sound role is_leading =
      sound-part s m m.term m.vote m.role m.votes m.matched m.silent m.commit lead sound sound.durable (omega arith) sound.committed sound.matched
      (subst (IsInRole s m.term (length m.log) m.votes lead) (sym role) is_leading)

  -- a direct Order of a leader
  pub sent-direct : (m : Member) (member : ℕ) → IsSound s m → m.role ≡ Leader → IsSent (direct_order s m member)
  sent-direct m member sound role =
      let lead = leading m sound role in
      let next = next-most s is m.term (length m.log) m.lead lead member in
      sent-order s m (address_of s member) (next_to m.lead member - 1) most_entries false is sound.durable lead.term_is_set lead.start_low lead.start_high sound.committed
      (omega arith) (omega (arith, next))

  goes-rise : (m : Member) (term : ℕ) → IsTerm term → IsSound s m → Goes s m (stays m (rise_to term m) [])
  goes-rise m term t sound =
      let r = rises s term m t sound in
      goes-stays s m (rise_to term m) [] r.sound (rises-on s term m (rise_to term m) r) (All-nil IsSent)

  leads-role : (term : ℕ) (m : Member) → leads term m ≡ true → m.role ≡ Leader
  leads-role term m e = let both = and_parts (is_leader m.role) (m.term == term) e in role-leads m.role both.0

  ack-by : (b : Bool) (m : Member) (term member index applied : ℕ) → leads term m ≡ b → IsTerm term → member < length s.members → IsSound s m
      → Goes s m (stays m (acknowledged m term index (if b then Some (member, applied) else None)) [])
  ack-by true m term member index applied e t inside sound =
      let role = leads-role term m e in
      let last = length m.log in
      let reached = leads-reached s is m.term last m.lead (leading m sound role) member (min index last) inside (omega arith) in
      let lead = with_reached m.lead member (min index last) in
      let both = leads-report s is m.term last lead reached member applied inside in
      goes-kept s m (record m { lead = with_report lead member applied }) [] (sound-lead m (with_report lead member applied) sound role both) refl (omega arith) refl (All-nil IsSent)
  ack-by false m term member index applied e t inside sound = goes-rise m term t sound

  pub goes-hear_ack : (m : Member) (term member index applied : ℕ) → IsTerm term → member < length s.members → IsSound s m
      → Goes s m (hear_ack m term member index applied)
  unfolding hear_ack
  goes-hear_ack m term member index applied t inside sound = ack-by (leads term m) m term member index applied refl t inside sound

  nack-by : (b : Bool) (m : Member) (term member hint : ℕ) → leads term m ≡ b → IsTerm term → member < length s.members → IsSound s m
      → Goes s m (if b then stays m (turned_back m member hint) (direct_order s (turned_back m member hint) member ∷ []) else stays m (rise_to term m) [])
  nack-by true m term member hint e t inside sound =
      let role = leads-role term m e in
      let last = length m.log in
      let leads_now = leading m sound role in
      let most = leads_now.reached member 0 (omega (arith, inside, leads_now.reached_each)) in
      let index = 1 + max (reached_by m.lead member) (min hint last) in
      let next = leads-next s is m.term last m.lead leads_now member index (omega arith) (omega (arith, most)) in
      let behind = sound-lead m (record m.lead { next = slice_set m.lead.next member index }) sound role next in
      goes-kept s m (turned_back m member hint) (direct_order s (turned_back m member hint) member ∷ []) behind refl (omega arith) refl
      (sent-one (direct_order s (turned_back m member hint) member) (sent-direct (turned_back m member hint) member behind role))
  nack-by false m term member hint e t inside sound = goes-rise m term t sound

  pub goes-hear_nack : (m : Member) (term member hint : ℕ) → IsTerm term → member < length s.members → IsSound s m → Goes s m (hear_nack s m term member hint)
  unfolding hear_nack
  goes-hear_nack m term member hint t inside sound = nack-by (leads term m) m term member hint refl t inside sound

  -- more is committed
  pub sound-commit : (m : Member) (commit : ℕ) → m.commit ≤ commit → commit ≤ length m.log → IsSound s m → IsSound s (record m { commit = commit })
  sound-commit m commit grows within sound =
      sound-part s m m.term m.vote m.role m.votes m.matched m.silent commit m.lead sound sound.durable grows within sound.matched sound.role

  commit-by : (b : Bool) (m : Member) (index : ℕ) → IsSound s m
      → Goes s m (if b then stays m (record m { commit = max m.commit (min index m.matched) }) [] else stays m m [])
  commit-by true m index sound =
      let committed = sound.committed in
      let matched = sound.matched in
      goes-kept s m (record m { commit = max m.commit (min index m.matched) }) []
      (sound-commit m (max m.commit (min index m.matched)) (omega arith) (omega (arith, committed, matched)) sound) refl (omega arith) refl (All-nil IsSent)
  commit-by false m index sound = goes-nothing s m sound

  pub goes-hear_commit : (m : Member) (term index : ℕ) → IsSound s m → Goes s m (hear_commit m term index)
  unfolding hear_commit
  goes-hear_commit m term index sound = commit-by ((m.term == term) && not (is_candidate m.role)) m index sound

pub queues_are_bounded : QueuesAreBounded
queues_are_bounded s m member is sound role inside = queues-bounded s is m.term (length m.log) m.lead (leading s is m sound role) member inside

-- What the rows on reports rest on.
use Rattle.std.proofs.Common.{◌≡◌, ℕ, ◌<◌, ◌≤◌, Bool, true, List, length, ap, arith}
use Rattle.std.specs.Prelude.{◌==◌}
use Rattle.std.proofs.lemmas.Bool.{and_parts}
use Rattle.std.proofs.lemmas.List.{length-map}
use Rattle.r2_base.specs.Limits.{greatest_number}
use Rattle.hc_log.proofs.Formed.{IsFormed-from_steps}
use Rattle.hc_replier.specs.Queues.{Row}
use Rattle.hc_member.specs.declared.setup.Setup.{Setup}
use Rattle.hc_member.specs.declared.role.Role.{Role}
use Rattle.hc_member.specs.declared.role.Role.TheVariants.{Follower, Candidate, Leader}
use Rattle.hc_member.specs.Member.{Lead, Member, is_leader, leads}
use Rattle.hc_member.specs.Reports.{reached_by}
use Rattle.hc_member.specs.Setup.{IsSetup}
use Rattle.hc_member.specs.Sound.{IsInRole, IsLeading, IsSound}

leading-in : (s : Setup) (role : Role) (term last : ℕ) (votes : List Bool) (lead : Lead) → is_leader role ≡ true → IsInRole s term last votes lead role
    → IsLeading s term last lead
leading-in s Follower term last votes lead e in_role = cc
leading-in s Candidate term last votes lead e in_role = cc
leading-in s Leader term last votes lead e in_role = in_role

-- a member that leads a term keeps what a leader does
pub leads-leading : (s : Setup) (m : Member) (term : ℕ) → IsSound s m → leads term m ≡ true → IsLeading s m.term (length m.log) m.lead
leads-leading s m term sound e =
    let parts = and_parts (is_leader m.role) (m.term == term) e in
    leading-in s m.role m.term (length m.log) m.votes m.lead parts.0 sound.role

-- no log is longer than its greatest index
pub last-fits : (s : Setup) (m : Member) → IsSound s m → length m.log ≤ greatest_number
last-fits s m sound =
    let valid = sound.durable in
    let limits = (IsFormed-from_steps m.log valid.log).limits in
    limits.entries

-- nor is what a member has of it
pub reached-fits : (s : Setup) (m : Member) (term member : ℕ) → IsSound s m → leads term m ≡ true → member < length s.members
    → reached_by m.lead member ≤ greatest_number
reached-fits s m term member sound e inside =
    let lead = leads-leading s m term sound e in
    let each = lead.reached_each in
    let low = lead.reached member 0 (omega (arith, each, inside)) in
    let fits = last-fits s m sound in
    omega (arith, low, fits)

-- each member has a queue
pub has-queue : (s : Setup) (m : Member) (term member : ℕ) → IsSetup s → IsSound s m → leads term m ≡ true → member < length s.members → member < length m.lead.queues
has-queue s m term member is sound e inside =
    let lead = leads-leading s m term sound e in
    let each = is.bound_each in
    let sizes = ap length lead.bounds in
    omega (arith, length-map m.lead.queues (λ (row : Row). row.bound), sizes, each, inside)

-- What the rows on votes rest on.
use Rattle.std.proofs.Common.{◌≡◌, ℕ, Bool, true, List, length, arith}
use Rattle.std.specs.Prelude.{◌&&◌, ◌==◌}
use Rattle.std.proofs.lemmas.Bool.{and_parts}
use Rattle.hc_log.specs.Log.{MayFollow, blank_of}
use Rattle.hc_member.specs.declared.setup.Setup.{Setup}
use Rattle.hc_member.specs.declared.role.Role.{Role}
use Rattle.hc_member.specs.declared.role.Role.TheVariants.{Follower, Candidate, Leader}
use Rattle.hc_member.specs.Member.{Lead, Member, durable_of, is_candidate}
use Rattle.hc_member.specs.Sound.{IsInRole, IsSound, IsStanding}
use Rattle.hc_message.specs.Entry.{IsTerm}
use Rattle.hc_member.specs.Votes.{counts_vote, rise_to}
use Rattle.hc_member.proofs.Grows.{blank-follows}
use Rattle.hc_member.proofs.Rises.{rises}

standing-in : (s : Setup) (role : Role) (term last : ℕ) (votes : List Bool) (lead : Lead) → is_candidate role ≡ true → IsInRole s term last votes lead role
    → IsStanding s term last votes
standing-in s Follower term last votes lead e in_role = cc
standing-in s Candidate term last votes lead e in_role = in_role
standing-in s Leader term last votes lead e in_role = cc

-- a member for which a vote counts may append the entry of a winner
pub may-win : (s : Setup) (m : Member) (term : ℕ) (granted : Bool) → IsSound s m → counts_vote m term granted ≡ true → MayFollow m.log (blank_of m.term)
may-win s m term granted sound e =
    let outer = and_parts (granted && is_candidate m.role) (m.term == term) e in
    let inner = and_parts granted (is_candidate m.role) outer.0 in
    let stands = standing-in s m.role m.term (length m.log) m.votes m.lead inner.1 sound.role in
    blank-follows (durable_of m) sound.durable stands.term_is_set stands.has_index

-- the term of a member that heard of one is a term
pub risen-term : (s : Setup) (m : Member) (term : ℕ) → IsTerm term → IsSound s m → IsTerm (rise_to term m).term
risen-term s m term is sound =
    let r = rises s term m is sound in
    let valid = (r.sound).durable in
    record { least = omega (arith, is.least, r.high); most = valid.term }

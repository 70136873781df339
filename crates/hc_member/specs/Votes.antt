-- Terms and votes: how a member rises to a term, stands for election, votes, and wins (Raft, sections 5.1, 5.2 and 5.4.1).
use Rattle.std.specs.Prelude.{ℕ, ◌+◌, ◌==◌, ◌&&◌, ◌||◌, Bool, true, false, nat_lt, nat_le, if◌then◌else◌, List, [], ◌∷◌, ◌++◌, length, map, replicate, slice_set, count_by, Option, Some, None}
use Rattle.hc_log.specs.declared.stored.Stored.{Stored}
use Rattle.hc_log.specs.Log.{blank_of, last_term}
use Rattle.hc_message.specs.declared.msg.Msg.{Msg}
use Rattle.hc_message.specs.declared.msg.Msg.TheVariants.{VoteReq, Vote}
use Rattle.hc_replier.specs.Queues.{new_queues}
use Rattle.hc_member.specs.declared.setup.Setup.{Setup}
use Rattle.hc_member.specs.declared.role.Role.TheVariants.{Follower, Candidate, Leader}
use Rattle.hc_member.specs.Setup.{address_of, majority, others}
use Rattle.hc_member.specs.Member.{Member, Lead, is_candidate, is_follower}
use Rattle.hc_member.specs.Sending.{Sending, Tell}
use Rattle.hc_member.specs.Outcome.{Outcome, stays}

-- a member that heard of a term: where that is greater than its own, it is a follower of it that hasn't voted
unfoldable pub rise_to : ℕ → Member → Member
rise_to term m =
    if nat_lt m.term term then record m { term = term; vote = None; role = Follower; votes = []; matched = 0 } else m

-- nobody's vote but that of the member itself
abbrev pub own_vote : Setup → List Bool
own_vote s = slice_set (replicate (length s.members) false) s.me true

-- a candidate of the next term, which votes for itself
unfoldable pub stands : Setup → Member → Member
stands s m =
    record m {
      term = m.term + 1;
      vote = Some s.me;
      role = Candidate;
      votes = own_vote s;
      silent = 0;
      matched = 0;
    }

-- what a leader keeps at first, where its first entry is at this index
abbrev pub new_lead : Setup → ℕ → Lead
new_lead s start =
    record {
      term_start = start;
      reached = replicate (length s.members) 0;
      next = replicate (length s.members) start;
      queues = new_queues s.bounds;
    }

-- the leader of its term, with a blank entry of that term at the end of its log (Raft, extended version, section 8)
unfoldable pub wins : Setup → Member → Member
wins s m =
    record m {
      role = Leader;
      log = m.log ++ blank_of m.term ∷ [];
      matched = length m.log + 1;
      lead = new_lead s (length m.log + 1);
    }

-- whether these votes are a majority's
abbrev pub is_elected : Setup → List Bool → Bool
is_elected s votes = nat_le (majority s) (count_by (λ vote. vote) votes)

-- a candidate that has a majority wins
abbrev pub wins_if_elected : Setup → Member → Member
wins_if_elected s m = if is_elected s m.votes then wins s m else m

-- a candidate asks each other member for its vote
abbrev pub vote_request : Setup → Member → Msg
vote_request s m = VoteReq m.term s.me (length m.log) (last_term m.log)

abbrev pub vote_requests : Setup → Member → List Sending
vote_requests s m = map (λ member. Tell (address_of s member) (vote_request s m)) (others s)

-- whether a log that ends with this index and term is at least as up to date as this one (Raft, section 5.4.1)
abbrev pub reaches : List Stored → ℕ → ℕ → Bool
reaches log last_index last_term_there =
    nat_lt (last_term log) last_term_there || (last_term log == last_term_there && nat_le (length log) last_index)

-- whether a member may vote for a candidate: it hasn't voted for another one
abbrev pub is_free_for : ℕ → Option ℕ → Bool
is_free_for candidate None = true
is_free_for candidate (Some other) = other == candidate

-- whether a member of the candidate's term grants it its vote
abbrev pub grants : Member → ℕ → ℕ → ℕ → Bool
grants m candidate last_index last_term_there =
    is_follower m.role && is_free_for candidate m.vote && reaches m.log last_index last_term_there

-- the answer to a candidate
abbrev pub vote_sent : Setup → Member → ℕ → Bool → List Sending
vote_sent s m candidate granted = Tell (address_of s candidate) (Vote m.term s.me granted) ∷ []

-- a member of the candidate's term votes
unfoldable pub votes_on : Setup → Member → ℕ → Bool → Outcome
votes_on s m candidate true = stays m (record m { vote = Some candidate; silent = 0 }) (vote_sent s m candidate true)
votes_on s m candidate false = stays m m (vote_sent s m candidate false)

-- a candidate asks for a vote: one of an earlier term doesn't get it
unfoldable pub hear_vote_request : Setup → Member → ℕ → ℕ → ℕ → ℕ → Outcome
hear_vote_request s m term candidate last_index last_term_there =
    if nat_lt term m.term then votes_on s m candidate false
    else votes_on s (rise_to term m) candidate (grants (rise_to term m) candidate last_index last_term_there)

-- one more member voted for the candidate
abbrev pub with_vote : Member → ℕ → Member
with_vote m voter = record m { votes = slice_set m.votes voter true }

-- whether a vote counts: the member is a candidate of that term, and it is granted
abbrev pub counts_vote : Member → ℕ → Bool → Bool
counts_vote m term granted = granted && is_candidate m.role && (m.term == term)

-- a vote comes; with that of a majority the candidate wins
unfoldable pub hear_vote : Setup → Member → ℕ → ℕ → Bool → Outcome
hear_vote s m term voter granted =
    if counts_vote m term granted then stays m (wins_if_elected s (with_vote m voter)) [] else stays m (rise_to term m) []

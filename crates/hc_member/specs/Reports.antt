-- What a leader hears of how far the others are, and what a member hears of what the aggregator found.
use Rattle.std.specs.Prelude.{ℕ, ◌+◌, ◌==◌, ◌&&◌, not, max, min, if◌then◌else◌, [], ◌∷◌, length, slice_index_or, slice_set, Option, Some, None}
use Rattle.hc_replier.specs.Queues.{report}
use Rattle.hc_message.specs.declared.msg.Msg.TheVariants.{Ack}
use Rattle.hc_member.specs.declared.setup.Setup.{Setup}
use Rattle.hc_member.specs.declared.heard.Heard.{Heard}
use Rattle.hc_member.specs.declared.heard.Heard.TheVariants.{Told}
use Rattle.hc_member.specs.Setup.{is_from_member}
use Rattle.hc_member.specs.Member.{Member, Lead, is_candidate, leads}
use Rattle.hc_member.specs.Outcome.{Outcome, stays}
use Rattle.hc_member.specs.Orders.{direct_order}
use Rattle.hc_member.specs.Votes.{rise_to}

-- up to where a member has the leader's log
abbrev pub reached_by : Lead → ℕ → ℕ
reached_by lead member = slice_index_or lead.reached member 0

-- a member has the leader's log up to an index at least
abbrev pub with_reached : Lead → ℕ → ℕ → Lead
with_reached lead member index =
    let reached = max (reached_by lead member) index in
    record lead { reached = slice_set lead.reached member reached; next = slice_set lead.next member (reached + 1) }

-- a member applied what it was given to answer up to an index
abbrev pub with_report : Lead → ℕ → ℕ → Lead
with_report lead member applied = record lead { queues = report lead.queues member applied }

-- whose report an Ack of a term is, and up to where that member applied: none where this member doesn't lead the term
abbrev pub report_of : Member → ℕ → ℕ → ℕ → Option (ℕ × ℕ)
report_of m term member applied = if leads term m then Some (member, applied) else None

-- a leader takes note of an Ack, where it is a report to it
abbrev pub acknowledged : Member → ℕ → ℕ → Option (ℕ × ℕ) → Member
acknowledged m term index (Some (member, applied)) =
    record m { lead = with_report (with_reached m.lead member (min index (length m.log))) member applied }
acknowledged m term index None = rise_to term m

-- a member acknowledges the leader's log up to an index (Raft, section 5.3), and reports what it applied
unfoldable pub hear_ack : Member → ℕ → ℕ → ℕ → ℕ → Outcome
hear_ack m term member index applied = stays m (acknowledged m term index (report_of m term member applied)) []

-- the report that is in what was heard, if there is one
abbrev pub report_in : Setup → Member → Heard → Option (ℕ × ℕ)
report_in s m (Told from (Ack term member index applied)) =
    if is_from_member s from member then report_of m term member applied else None
report_in s m _ = None

-- the leader goes on with a member after the index up to which their logs may agree: after what that is known to have at least
abbrev pub turned_back : Member → ℕ → ℕ → Member
turned_back m member hint =
    record m {
      lead = record m.lead { next = slice_set m.lead.next member (1 + max (reached_by m.lead member) (min hint (length m.log))) };
    }

-- a member couldn't take an Order (Raft, section 5.3)
unfoldable pub hear_nack : Setup → Member → ℕ → ℕ → ℕ → Outcome
hear_nack s m term member hint =
    if leads term m then stays m (turned_back m member hint) (direct_order s (turned_back m member hint) member ∷ [])
    else stays m (rise_to term m) []

-- the aggregator found that a majority has the term's log up to an index: what is matched of that is committed
unfoldable pub hear_commit : Member → ℕ → ℕ → Outcome
hear_commit m term index =
    if (m.term == term) && not (is_candidate m.role) then stays m (record m { commit = max m.commit (min index m.matched) }) []
    else stays m m []

-- The first half of a turn: what is committed is applied, and the replies go out.
use Rattle.std.specs.Prelude.{ℕ, ◌+◌, ◌-◌, ◌==◌, min, if◌then◌else◌, List, map, fold}
use Rattle.r2_frag.specs.declared.kept.KeptReply.{KeptReply}
use Rattle.r2_frag.specs.Kept.{kept_with}
use Rattle.hc_log.specs.declared.stored.Stored.{Stored}
use Rattle.hc_service.specs.declared.answer.Answer.{Answer}
use Rattle.hc_service.specs.Batch.{Batch, entries_between, run_all}
use Rattle.hc_member.specs.declared.setup.Setup.{Setup}
use Rattle.hc_member.specs.declared.role.Role.{Role}
use Rattle.hc_member.specs.declared.role.Role.TheVariants.{Leader}
use Rattle.hc_member.specs.Heard.{policy_of}
use Rattle.hc_member.specs.Member.{Member}
use Rattle.hc_member.specs.Reports.{with_report}
use Rattle.hc_member.specs.Sending.{Sending, Reply}

-- the greatest number of entries that wait in one batch to be applied
abbrev pub most_batched : ℕ
most_batched = 4096

-- the member waits with everything that is committed and not applied, as much as a batch may have
unfoldable pub batched : Member → Member
batched m = record m { pending = min m.commit (m.applied + most_batched) - m.applied }

-- a member with its pending batch; where nothing was set aside since the last one, with what is due now
unfoldable pub due : Member → Member
due m = if m.pending == 0 then batched m else m

-- the entries of the pending batch
abbrev pub batch_of : Member → List Stored
batch_of m = entries_between m.log (m.applied + 1) (m.applied + m.pending)

-- what they leave: the service, and this member's answers
abbrev pub executed_batch : Setup → Member → Batch
executed_batch s m = run_all s.me (m.applied + 1) (batch_of m) m.service

-- an answer as it is kept and sent
abbrev pub reply_to : Answer → KeptReply
reply_to answer = record { rid = answer.rid; policy = policy_of answer.kind; payload = answer.payload }

-- a leader counts what it applied itself as reported
abbrev pub reported : Setup → Member → Role → Member
reported s m Leader = record m { lead = with_report m.lead s.me m.applied }
reported s m _ = m

-- the pending batch is applied, and its replies are kept
unfoldable pub applied : Setup → Member → Member
applied s m =
    record m {
      applied = m.applied + m.pending;
      pending = 0;
      service = (executed_batch s m).service;
      kept = fold kept_with m.kept (map reply_to (executed_batch s m).answers);
    }

-- a member after the first half of a turn, and what it sends
pub record Finished : Type 0 where
  pub member : Member
  pub sends : List Sending

unfoldable pub finished : Setup → Member → Finished
finished s m =
    record {
      member = reported s (applied s (due m)) m.role;
      sends = map (λ answer. Reply (reply_to answer)) (executed_batch s (due m)).answers;
    }

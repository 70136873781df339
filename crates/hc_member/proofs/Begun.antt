-- A member that begins, or begins again, is sound.
use Rattle.std.proofs.Common.{◌≡◌, ℕ, false, [], refl, arith}
use Rattle.std.proofs.lemmas.List.Elements.{All-nil}
use Rattle.r2_frag.specs.Sizes.{IsShort}
use Rattle.hc_log.specs.Log.{stands_in}
use Rattle.hc_log.specs.Durable.{State, IsValid}
use Rattle.hc_pool.specs.declared.request.Request.{Request}
use Rattle.hc_pool.specs.Pool.{MayWait}
use Rattle.hc_store.specs.State.{new_state}
use Rattle.hc_store.specs.Replies.{after_all}
use Rattle.hc_store.proofs.Short.{no_values}
use Rattle.hc_member.specs.declared.setup.Setup.{Setup}
use Rattle.hc_member.specs.Member.{Member, anew, durable_of, restarted}
use Rattle.hc_service.specs.Entries.{IsReplayed, operations, own_reads_of, writes_of}
use Rattle.hc_member.specs.Sound.{IsRightReply, IsSound}

-- nothing was applied yet
replayed-begin : (me : ℕ) → IsReplayed me [] new_state
unfolding operations after_all writes_of own_reads_of
replayed-begin me = record { contents = refl; writes = refl; reads = refl }

pub sound-anew : (s : Setup) (d : State) → IsValid d → IsSound s (anew d)
unfolding anew
sound-anew s d valid =
    record {
      durable = valid;
      batch = omega arith;
      committed = omega arith;
      matched = omega arith;
      pool = record { requests = All-nil MayWait; ids = λ i j r before inside. absurd (omega (arith, inside)) };
      apart = All-nil (λ (r : Request). stands_in r.rid d.log ≡ false);
      unfinished = All-nil IsShort;
      values = no_values;
      service = replayed-begin s.me;
      kept = All-nil (IsRightReply s.me 0 d.log);
      role = tt;
    }

-- a restart leaves a sound member
pub sound-restarted : (s : Setup) (m : Member) → IsSound s m → IsSound s (restarted m)
sound-restarted s m sound = sound-anew s (durable_of m) sound.durable

-- What of a member may change, and with what it stays sound.
use Rattle.std.proofs.Common.{◌≡◌, ℕ, ◌+◌, ◌≤◌, Bool, false, List, length, take, Option, arith}
use Rattle.std.specs.Prelude.{All}
use Rattle.r2_frag.specs.declared.unfinished.Unfinished.{Unfinished}
use Rattle.r2_frag.specs.Sizes.{IsShort}
use Rattle.hc_log.specs.declared.stored.Stored.{Stored}
use Rattle.hc_log.specs.Log.{stands_in}
use Rattle.hc_log.specs.Durable.{IsValid}
use Rattle.hc_pool.specs.declared.request.Request.{Request}
use Rattle.hc_pool.specs.Pool.{IsPool}
use Rattle.hc_member.specs.declared.setup.Setup.{Setup}
use Rattle.hc_member.specs.declared.role.Role.{Role}
use Rattle.hc_member.specs.Member.{Lead, Member}
use Rattle.hc_member.specs.Sound.{IsInRole, IsSound}
use Rattle.hc_member.proofs.Prefixes.{kept-front, replayed-front}

-- its part in the group
pub sound-part : (s : Setup) (m : Member) (term : ℕ) (vote : Option ℕ) (role : Role) (votes : List Bool) (matched silent commit : ℕ) (lead : Lead) → IsSound s m
    → IsValid (record { term = term; vote = vote; log = m.log }) → m.commit ≤ commit → commit ≤ length m.log → matched ≤ length m.log
    → IsInRole s term (length m.log) votes lead role
    → IsSound s (record m { term = term; vote = vote; role = role; votes = votes; matched = matched; silent = silent; commit = commit; lead = lead })
sound-part s m term vote role votes matched silent commit lead sound valid grows committed matches in_role =
    record {
      durable = valid;
      batch = (let batch = sound.batch in omega (arith, batch, grows));
      committed = committed;
      matched = matches;
      pool = sound.pool;
      apart = sound.apart;
      unfinished = sound.unfinished;
      values = sound.values;
      service = sound.service;
      kept = sound.kept;
      role = in_role;
    }

-- what waits: requests, messages that aren't whole, and entries to be applied
pub sound-waits : (s : Setup) (m : Member) (pool : List Request) (unfinished : List Unfinished) (pending silent : ℕ) → IsSound s m → IsPool pool
    → All (λ r. stands_in r.rid m.log ≡ false) pool → All IsShort unfinished → m.applied + pending ≤ m.commit
    → IsSound s (record m { pool = pool; unfinished = unfinished; pending = pending; silent = silent })
sound-waits s m pool unfinished pending silent sound is_pool apart short batch =
    record {
      durable = sound.durable;
      batch = batch;
      committed = sound.committed;
      matched = sound.matched;
      pool = is_pool;
      apart = apart;
      unfinished = short;
      values = sound.values;
      service = sound.service;
      kept = sound.kept;
      role = sound.role;
    }

-- its log, of which the prefix stays that was applied, and a pool beside it
pub sound-log : (s : Setup) (m : Member) (keep : ℕ) (log : List Stored) (pool : List Request) (role : Role) (matched commit : ℕ) (lead : Lead) → IsSound s m
    → m.applied ≤ keep → take keep m.log ≡ take keep log → IsValid (record { term = m.term; vote = m.vote; log = log }) → IsPool pool
    → All (λ r. stands_in r.rid log ≡ false) pool → m.commit ≤ commit → commit ≤ length log → matched ≤ length log
    → IsInRole s m.term (length log) m.votes lead role
    → IsSound s (record m { log = log; pool = pool; role = role; matched = matched; commit = commit; lead = lead })
sound-log s m keep log pool role matched commit lead sound low front valid is_pool apart grows committed matches in_role =
    record {
      durable = valid;
      batch = (let batch = sound.batch in omega (arith, batch, grows));
      committed = committed;
      matched = matches;
      pool = is_pool;
      apart = apart;
      unfinished = sound.unfinished;
      values = sound.values;
      service = replayed-front s.me m.applied keep m.log log m.service low front sound.service;
      kept = kept-front s.me m.applied m.applied keep m.log log m.kept (omega arith) low front sound.kept;
      role = in_role;
    }

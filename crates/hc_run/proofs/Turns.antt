-- Each turn of a sound member leaves a sound one, whatever it hears: all that it sends is as it may be, and its record is that of what
-- changed.
use Rattle.std.proofs.Common.{◌≡◌, refl, subst}
use Rattle.std.specs.Prelude.{All}
use Rattle.std.proofs.lemmas.List.Elements.{All-append}
use Rattle.r2_base.specs.declared.event.Event.{Event}
use Rattle.r2_frag.specs.Sizes.{IsShort}
use Rattle.hc_log.specs.Durable.{State}
use Rattle.hc_member.specs.declared.setup.Setup.{Setup}
use Rattle.hc_member.specs.Finish.{finished}
use Rattle.hc_member.specs.Heard.{receive, with_received}
use Rattle.hc_member.specs.Laws.{IsStored}
use Rattle.hc_member.specs.Member.{Member, durable_of}
use Rattle.hc_member.specs.Sending.{IsSent}
use Rattle.hc_member.specs.Setup.{IsSetup}
use Rattle.hc_member.specs.Sound.{IsSound}
use Rattle.hc_member.specs.Turn.{reacted, turned}
use Rattle.hc_member.proofs.Finished.{finishes}
use Rattle.hc_member.proofs.Turned.{reacts-to}
use Rattle.hc_run.proofs.Heard.{heard}

-- what the parts that came leave
record Leaves (s : Setup) (m : Member) (n : Member) : Type 0 where
  sound : IsSound s n
  durable : durable_of n ≡ durable_of m

-- with the parts that came
received-leaves : (s : Setup) (m : Member) (e : Event) → All IsShort (receive m.unfinished e).unfinished → IsSound s m → Leaves s m (with_received m e)
unfolding with_received
received-leaves s m e short sound =
    record {
      sound =
          record {
            durable = sound.durable;
            batch = sound.batch;
            committed = sound.committed;
            matched = sound.matched;
            pool = sound.pool;
            apart = sound.apart;
            unfinished = short;
            values = sound.values;
            service = sound.service;
            kept = sound.kept;
            role = sound.role;
          };
      durable = refl;
    }

-- a turn stores what changed
pub record Turns (s : Setup) (m : Member) (e : Event) : Type 0 where
  pub sound : IsSound s (turned s m e).member
  pub sends : All IsSent (turned s m e).sends
  pub stores : IsStored (durable_of m) (turned s m e).stored (durable_of (turned s m e).member)

record Reacts (s : Setup) (m : Member) (e : Event) : Type 0 where
  sound : IsSound s (reacted s m e).member
  sends : All IsSent (reacted s m e).sends
  stores : IsStored (durable_of m) (reacted s m e).stored (durable_of (reacted s m e).member)

reacts : (s : Setup) (m : Member) (e : Event) → IsSetup s → IsSound s m → Reacts s m e
unfolding reacted
reacts s m e is sound =
    let hears = heard m.unfinished e sound.unfinished in
    let before = received-leaves s m e hears.1 sound in
    let did = reacts-to s is (with_received m e) (receive m.unfinished e).said hears.0 before.sound in
    record {
      sound = did.sound;
      sends = did.sends;
      stores = subst (λ (d : State). IsStored d (reacted s m e).stored (durable_of (reacted s m e).member)) before.durable did.stores;
    }

pub turns : (s : Setup) (m : Member) (e : Event) → IsSetup s → IsSound s m → Turns s m e
unfolding turned
turns s m e is sound =
    let first = finishes s is m sound in
    let n = (finished s m).member in
    let did = reacts s n e is first.sound in
    record {
      sound = did.sound;
      sends = All-append IsSent (finished s m).sends (reacted s n e).sends first.sends did.sends;
      stores = subst (λ (d : State). IsStored d (reacted s n e).stored (durable_of (reacted s n e).member)) first.durable did.stores;
    }

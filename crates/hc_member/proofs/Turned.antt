-- A whole turn of a sound member.
use Rattle.std.proofs.Common.{◌≡◌, refl, subst, take, ℕ, ◌≤◌, sym, arith, ◌∙◌, ap}
use Rattle.std.specs.Prelude.{All}
use Rattle.std.proofs.lemmas.List.Elements.{All-append}
use Rattle.r2_base.specs.declared.event.Event.{Event}
use Rattle.r2_frag.specs.Sizes.{IsShort}
use Rattle.hc_log.specs.Durable.{State}
use Rattle.hc_member.specs.declared.setup.Setup.{Setup}
use Rattle.hc_member.specs.declared.heard.Heard.{Heard}
use Rattle.hc_member.specs.Setup.{IsSetup}
use Rattle.hc_member.specs.Finish.{finished}
use Rattle.hc_member.specs.Heard.{IsSayable, receive, with_received}
use Rattle.hc_member.specs.Laws.{GoesWell, HasBytes, IsStored, KeepsCommitted, TurnsGoWell, TurnsKeepCommitted}
use Rattle.hc_member.specs.Member.{Member, durable_of}
use Rattle.hc_member.specs.Sending.{IsSent}
use Rattle.hc_member.specs.Sound.{IsSound}
use Rattle.hc_member.specs.Turn.{Reacted, reacted, reacted_to, row, settled, turned}
use Rattle.hc_member.proofs.Prefixes.{same-front}
use Rattle.hc_member.proofs.Finished.{finishes}
use Rattle.hc_member.proofs.Received.{received_good}
use Rattle.hc_member.proofs.Rows.{goes-row}
use Rattle.hc_member.proofs.Settled.{goes-settled}
use Rattle.hc_member.proofs.Sound.{sound-waits}
use Rattle.hc_member.proofs.Storing.{stored-right}

-- what a reaction comes to
pub record ReactsWell (s : Setup) (m : Member) (r : Reacted) : Type 0 where
  pub sound : IsSound s r.member
  pub sends : All IsSent r.sends
  pub stores : IsStored (durable_of m) r.stored (durable_of r.member)
  pub committed : KeepsCommitted m r.member

module _ (s : Setup) (is : IsSetup s) where
  pub reacts-to : (m : Member) (said : Heard) → IsSayable said → IsSound s m → ReactsWell s m (reacted_to s m said)
  unfolding reacted_to
  reacts-to m said sayable sound =
      let o = settled s (row s m said) in
      let goes = goes-settled s is m (row s m said) (goes-row s is m said sayable sound) in
      let after = goes.sound in
      let comes = goes.comes in
      record { sound = goes.sound; sends = goes.sends; stores = stored-right m o.member o.keep sound.durable after.durable comes; committed = record { commit = goes.commit; applied = (let same = goes.applied in omega (arith, same)); log = sym (same-front m.commit o.keep m.log o.member.log goes.stands comes.front) } }

  pub sound-received : (m : Member) (event : Event) → All IsShort (receive m.unfinished event).unfinished → IsSound s m → IsSound s (with_received m event)
  unfolding with_received
  sound-received m event short sound =
      sound-waits s m m.pool (receive m.unfinished event).unfinished m.pending m.silent sound sound.pool sound.apart short sound.batch

  received-durable : (m : Member) (event : Event) → durable_of (with_received m event) ≡ durable_of m
  unfolding with_received
  received-durable m event = refl

  keeps-received : (m : Member) (event : Event) (n : Member) → KeepsCommitted (with_received m event) n → KeepsCommitted m n
  unfolding with_received
  keeps-received m event n keeps = record { commit = keeps.commit; applied = keeps.applied; log = keeps.log }

  pub reacts : (m : Member) (event : Event) → HasBytes event → IsSound s m → ReactsWell s m (reacted s m event)
  unfolding reacted
  reacts m event are sound =
      let heard = received_good m.unfinished event are sound.unfinished in
      let n = with_received m event in
      let said = (receive m.unfinished event).said in
      let did = reacts-to n said heard.0 (sound-received m event heard.1 sound) in
      let r = reacted_to s n said in
      record {
        sound = did.sound;
        sends = did.sends;
        stores = subst (λ (d : State). IsStored d r.stored (durable_of r.member)) (received-durable m event) did.stores;
        committed = keeps-received m event r.member did.committed;
      }

  goes-well : (m : Member) (event : Event) → HasBytes event → IsSound s m → GoesWell s m event
  unfolding turned
  goes-well m event are sound =
      let first = finishes s is m sound in
      let n = (finished s m).member in
      let did = reacts n event are first.sound in
      let r = reacted s n event in
      record {
        sound = did.sound;
        sends = All-append IsSent (finished s m).sends r.sends first.sends did.sends;
        stores = subst (λ (d : State). IsStored d r.stored (durable_of r.member)) first.durable did.stores;
      }

  -- the first half of a turn, and then the other
  keeps-both : (m n o : Member) → n.commit ≡ m.commit → m.applied ≤ n.applied → n.log ≡ m.log → KeepsCommitted n o → KeepsCommitted m o
  keeps-both m n o commit applied log keeps =
      let later = keeps.commit in
      let more = keeps.applied in
      record {
        commit = omega (arith, commit, later);
        applied = omega (arith, applied, more);
        log =
            subst (λ (c : ℕ). take c o.log ≡ take c m.log) commit
            (keeps.log ∙ ap (take n.commit) log);
      }

  keeps-turned : (m : Member) (event : Event) → HasBytes event → IsSound s m → KeepsCommitted m (turned s m event).member
  unfolding turned
  keeps-turned m event are sound =
      let first = finishes s is m sound in
      let n = (finished s m).member in
      let did = reacts n event are first.sound in
      keeps-both m n (reacted s n event).member first.commit first.applied (ap (λ (d : State). d.log) first.durable) did.committed

pub turns_go_well : TurnsGoWell
turns_go_well s m event is sound are = goes-well s is m event are sound

pub turns_keep_committed : TurnsKeepCommitted
turns_keep_committed s m event is sound are = keeps-turned s is m event are sound

-- The records of turns lead to the member after them.
use Rattle.std.proofs.Common.{◌≡◌, List, [], ◌∷◌, ◌++◌, Option, None, Some, sym, ap, ◌∙◌, append-nil}
use Rattle.std.specs.Prelude.{All, fold}
use Rattle.std.proofs.lemmas.List.Elements.{All-head, All-tail}
use Rattle.std.proofs.lemmas.List.Sums.{fold_push}
use Rattle.hc_log.specs.declared.record.Record.{Record}
use Rattle.hc_log.specs.Durable.{State, after}
use Rattle.hc_member.specs.declared.setup.Setup.{Setup}
use Rattle.hc_member.specs.Laws.{IsStored}
use Rattle.hc_member.specs.Member.{anew, durable_of}
use Rattle.hc_member.specs.Setup.{IsSetup}
use Rattle.hc_member.proofs.Begun.{sound-anew}
use Rattle.hc_member.proofs.Finished.{finishes}
use Rattle.hc_member.proofs.Turned.{turns_go_well}
use Rattle.cmd_loop.specs.Happenings.{Happening, Came, Closing}
use Rattle.cmd_loop.specs.Party.{records_of}
use Rattle.cmd_replica.specs.Laws.{AreRecorded, HasHeardBytes, RecordsLeadToTheMember}
use Rattle.cmd_replica.specs.Replica.{Served, serve_one, served, turn_at, unserved}
use Rattle.cmd_replica.proofs.Begun.{durable-anew}

-- a record more
leads-more : (d e g : State) (records : List Record) (stored : Option Record) → fold after d records ≡ e → IsStored e stored g → fold after d (records ++ records_of stored) ≡ g
leads-more d e g records None leads is = ap (fold after d) (append-nil records) ∙ leads ∙ sym is
leads-more d e g records (Some r) leads is = fold_push after d records r ∙ ap (λ (x : State). after x r) leads ∙ is.leads

module _ (s : Setup) (group : IsSetup s) (d : State) where
  -- a turn more
  recorded-one : (so_far : Served) (happening : Happening) → HasHeardBytes happening → AreRecorded s d so_far → AreRecorded s d (serve_one s so_far happening)
  recorded-one so_far (Came event) are is =
      let well = turns_go_well s so_far.member event group is.sound are in
      record {
        sound = well.sound;
        leads = leads-more d (durable_of so_far.member) _ so_far.stored (turn_at s so_far.member (Came event)).stored is.leads well.stores;
      }
  recorded-one so_far Closing are is =
      let done = finishes s group so_far.member is.sound in
      record {
        sound = done.sound;
        leads = leads-more d (durable_of so_far.member) _ so_far.stored None is.leads done.durable;
      }

  recorded-all : (so_far : Served) (happened : List Happening) → All HasHeardBytes happened → AreRecorded s d so_far → AreRecorded s d (fold (serve_one s) so_far happened)
  recorded-all so_far [] are is = is
  recorded-all so_far (happening ∷ happened) are is =
      recorded-all (serve_one s so_far happening) happened (All-tail HasHeardBytes happening happened are)
      (recorded-one so_far happening (All-head HasHeardBytes happening happened are) is)

pub records_lead_to_the_member : RecordsLeadToTheMember
unfolding served
records_lead_to_the_member s d happened group valid are =
    recorded-all s group d (unserved (anew d)) happened are (record { sound = sound-anew s d valid; leads = sym (durable-anew d) })

-- Lives are what the loops of a member do, leave and send.
use Rattle.std.proofs.Common.{◌≡◌, List, [], ◌∷◌, ◌++◌, map, Option, None, Some, refl, sym, ap, subst, ◌∙◌, append_assoc, append-nil}
use Rattle.std.specs.Prelude.{fold}
use Rattle.r2_base.specs.declared.datagram.Datagram.{Datagram}
use Rattle.r2_base.specs.declared.event.Event.{Event}
use Rattle.hc_log.specs.declared.record.Record.{Record}
use Rattle.hc_log.specs.Durable.{replay}
use Rattle.hc_member.specs.declared.setup.Setup.{Setup}
use Rattle.hc_member.specs.Member.{anew}
use Rattle.hc_member.specs.Turn.{turned}
use Rattle.hc_run.specs.State.{Replica, started, stopped}
use Rattle.hc_run.specs.Steps.{with_stored}
use Rattle.cmd_loop.specs.Happenings.{Came, came}
use Rattle.cmd_loop.specs.Party.{records_of}
use Rattle.cmd_replica.specs.Replica.{Served, serve_one, served, unserved}
use Rattle.cmd_group.specs.Steps.{Act, Turns, Begins}
use Rattle.cmd_group.specs.Members.{MayAll, place_after, places_after, sends_by, sends_of_all, turn_sends}
use Rattle.cmd_group.specs.Lives.{AreLives, Ending, Open, Stopped, Broken, Closed, IsLife, IsOver, Life, MayEnd, acts_of, acts_of_ending, acts_of_lives, ending_sends, ending_stores, place_of, place_of_lives, sent_in, sent_in_lives, served_in, still_runs}

-- a journal with what a turn stored
stores : (journal more : List Record) (stored : Option Record) → with_stored (journal ++ more) stored ≡ journal ++ (more ++ records_of stored)
stores journal more (Some r) = append_assoc journal more (r ∷ [])
stores journal more None = ap (λ (l : List Record). journal ++ l) (sym (append-nil more))

-- Acts one after another --

module _ (s : Setup) where
  places-follow : (place : Replica) (acts more : List Act) → places_after s place (acts ++ more) ≡ places_after s (places_after s place acts) more
  places-follow place [] more = refl
  places-follow place (act ∷ acts) more = places-follow (place_after s place act) acts more

  -- what acts leave and send, all of which may be done
  pub record Does (place : Replica) (acts : List Act) (after : Replica) (sent : List Datagram) : Type 0 where
    pub may : MayAll s place acts
    pub leaves : places_after s place acts ≡ after
    pub sends : sends_of_all s place acts ≡ sent

  may-follow : (place : Replica) (acts more : List Act) → MayAll s place acts → MayAll s (places_after s place acts) more → MayAll s place (acts ++ more)
  may-follow place [] more may then = then
  may-follow place (act ∷ acts) more may then = (may.0, may-follow (place_after s place act) acts more may.1 then)

  sends-follow : (place : Replica) (acts more : List Act) → sends_of_all s place (acts ++ more) ≡ sends_of_all s place acts ++ sends_of_all s (places_after s place acts) more
  sends-follow place [] more = refl
  sends-follow place (act ∷ acts) more =
      ap (λ (l : List Datagram). sends_by s place.member act ++ l) (sends-follow (place_after s place act) acts more)
      ∙ sym (append_assoc (sends_by s place.member act) (sends_of_all s (place_after s place act) acts) (sends_of_all s (places_after s (place_after s place act) acts) more))

  does-then : (place middle after : Replica) (acts more : List Act) (sent later : List Datagram) → Does place acts middle sent → Does middle more after later → Does place (acts ++ more) after (sent ++ later)
  does-then place middle after acts more sent later first second =
      record {
        may = may-follow place acts more first.may (subst (λ (p : Replica). MayAll s p more) (sym first.leaves) second.may);
        leaves = places-follow place acts more ∙ ap (λ (p : Replica). places_after s p more) first.leaves ∙ second.leaves;
        sends =
            sends-follow place acts more
            ∙ ap (λ (p : Replica). sends_of_all s place acts ++ sends_of_all s p more) first.leaves
            ∙ ap (λ (l : List Datagram). l ++ sends_of_all s middle more) first.sends
            ∙ ap (λ (l : List Datagram). sent ++ l) second.sends;
      }

  -- Turns --

  -- a place after what was served so far
  abbrev having : List Record → Served → Replica
  having journal so_far = record { journal = journal ++ so_far.stored; member = Some so_far.member }

  abbrev serves : Served → List Event → Served
  serves so_far events = fold (serve_one s) so_far (came events)

  one-leaves : (journal : List Record) (so_far : Served) (e : Event) → place_after s (having journal so_far) (Turns e) ≡ having journal (serve_one s so_far (Came e))
  one-leaves journal so_far e =
      let r = turned s so_far.member e in
      ap (λ (l : List Record). record { journal = l; member = Some r.member }) (stores journal so_far.stored r.stored)

  turns-may : (journal : List Record) (so_far : Served) (events : List Event) → MayAll s (having journal so_far) (map Turns events)
  turns-may journal so_far [] = tt
  turns-may journal so_far (e ∷ events) = (
    tt,
    subst (λ (p : Replica). MayAll s p (map Turns events)) (sym (one-leaves journal so_far e)) (turns-may journal (serve_one s so_far (Came e)) events),
  )

  turns-leave : (journal : List Record) (so_far : Served) (events : List Event) → places_after s (having journal so_far) (map Turns events) ≡ having journal (serves so_far events)
  turns-leave journal so_far [] = refl
  turns-leave journal so_far (e ∷ events) =
      ap (λ (p : Replica). places_after s p (map Turns events)) (one-leaves journal so_far e) ∙ turns-leave journal (serve_one s so_far (Came e)) events

  turns-send : (journal : List Record) (so_far : Served) (events : List Event) → so_far.sent ++ sends_of_all s (having journal so_far) (map Turns events) ≡ (serves so_far events).sent
  turns-send journal so_far [] = append-nil so_far.sent
  turns-send journal so_far (e ∷ events) =
      let next = serve_one s so_far (Came e) in
      ap (λ (p : Replica). so_far.sent ++ (turn_sends s so_far.member e ++ sends_of_all s p (map Turns events))) (one-leaves journal so_far e)
      ∙ sym (append_assoc so_far.sent (turn_sends s so_far.member e) (sends_of_all s (having journal next) (map Turns events)))
      ∙ turns-send journal next events

  -- the whole turns of a member that begins with a journal
  turns-do : (life : Life) → Does (started life.records) (map Turns life.events) (having life.records (served_in s life)) (served_in s life).sent
  unfolding served
  turns-do life =
      let first : Served = unserved (anew (replay life.records)) in
      let same : having life.records first ≡ started life.records = ap (λ (l : List Record). record { journal = l; member = Some (anew (replay life.records)) }) (append-nil life.records) in
      record {
        may = subst (λ (p : Replica). MayAll s p (map Turns life.events)) same (turns-may life.records first life.events);
        leaves = ap (λ (p : Replica). places_after s p (map Turns life.events)) (sym same) ∙ turns-leave life.records first life.events;
        sends = ap (λ (p : Replica). sends_of_all s p (map Turns life.events)) (sym same) ∙ turns-send life.records first life.events;
      }

  -- and its end
  ending-does : (journal : List Record) (so_far : Served) (ending : Ending) → MayEnd s so_far.member ending
      → Does (having journal so_far) (acts_of_ending ending)
      (record { journal = journal ++ (so_far.stored ++ ending_stores s so_far.member ending); member = still_runs so_far.member ending }) (ending_sends ending)
  ending-does journal so_far Open may =
      record {
        may = tt;
        leaves = ap (λ (l : List Record). record { journal = journal ++ l; member = Some so_far.member }) (sym (append-nil so_far.stored));
        sends = refl;
      }
  ending-does journal so_far Stopped may =
      record { may = (tt, tt); leaves = ap (λ (l : List Record). stopped (journal ++ l)) (sym (append-nil so_far.stored)); sends = refl }
  ending-does journal so_far (Broken e sent) may =
      record { may = (may, tt); leaves = ap stopped (stores journal so_far.stored (turned s so_far.member e).stored); sends = append-nil sent }
  ending-does journal so_far (Closed times sent) may =
      record { may = (may, tt); leaves = ap (λ (l : List Record). stopped (journal ++ l)) (sym (append-nil so_far.stored)); sends = append-nil sent }

  -- Lives --

  begins-does : (journal : List Record) → Does (stopped journal) (Begins ∷ []) (started journal) []
  begins-does journal = record { may = (tt, tt); leaves = refl; sends = refl }

  pub life-does : (life : Life) → IsLife s life → Does (stopped life.records) (acts_of life) (place_of s life) (sent_in s life)
  life-does life may =
      let so_far = served_in s life in
      let turns = turns-do life in
      let end = ending-does life.records so_far life.ending may in
      does-then (stopped life.records) (started life.records) (place_of s life) (Begins ∷ []) (map Turns life.events ++ acts_of_ending life.ending) [] (sent_in s life)
      (begins-does life.records)
      (does-then (started life.records) (having life.records so_far) (place_of s life) (map Turns life.events) (acts_of_ending life.ending) so_far.sent (ending_sends life.ending) turns end)

  -- a life that is over leaves its journal alone
  over-stopped : (life : Life) (ending : Ending) (next : Life) (more : List Life) → life.ending ≡ ending → IsOver ending (next ∷ more) → place_of s life ≡ stopped (place_of s life).journal
  over-stopped life Open next more e over = absurd over
  over-stopped life Stopped next more e over = ap (λ (x : Ending). record { journal = (place_of s life).journal; member = still_runs (served_in s life).member x }) e
  over-stopped life (Broken at sent) next more e over = ap (λ (x : Ending). record { journal = (place_of s life).journal; member = still_runs (served_in s life).member x }) e
  over-stopped life (Closed times sent) next more e over = ap (λ (x : Ending). record { journal = (place_of s life).journal; member = still_runs (served_in s life).member x }) e

  pub lives-do : (journal : List Record) (lives : List Life) → AreLives s journal lives
      → Does (stopped journal) (acts_of_lives lives) (place_of_lives s (stopped journal) lives) (sent_in_lives s lives)
  lives-do journal [] are = record { may = tt; leaves = refl; sends = refl }
  lives-do journal (life ∷ []) are =
      does-then (stopped journal) (place_of s life) (place_of s life) (acts_of life) [] (sent_in s life) []
      (subst (λ (l : List Record). Does (stopped l) (acts_of life) (place_of s life) (sent_in s life)) are.0 (life-does life are.1))
      (record { may = tt; leaves = refl; sends = refl })
  lives-do journal (life ∷ next ∷ more) are =
      let place = place_of s life in
      let over = over-stopped life life.ending next more refl are.2 in
      let rest = lives-do place.journal (next ∷ more) are.3 in
      does-then (stopped journal) place (place_of_lives s place (next ∷ more)) (acts_of life) (acts_of_lives (next ∷ more)) (sent_in s life) (sent_in_lives s (next ∷ more))
      (subst (λ (l : List Record). Does (stopped l) (acts_of life) place (sent_in s life)) are.0 (life-does life are.1))
      (subst (λ (p : Replica). Does p (acts_of_lives (next ∷ more)) (place_of_lives s p (next ∷ more)) (sent_in_lives s (next ∷ more))) (sym over) rest)

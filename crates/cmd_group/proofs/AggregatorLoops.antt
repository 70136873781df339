-- A loop of an aggregator makes whole turns, and of a last one a prefix is sent.
use Rattle.std.proofs.Common.{◌≡◌, ℕ, List, [], ◌∷◌, ◌++◌, map, Option, None, Some, refl, sym, ap, subst, ◌∙◌, append_assoc, append-nil, length, inl, inr}
use Rattle.std.proofs.lemmas.List.{append_cancel_left, map-append}
use Rattle.r2_base.specs.declared.addr.Addr.{Addr}
use Rattle.r2_base.specs.declared.datagram.Datagram.{Datagram}
use Rattle.r2_base.specs.declared.event.Event.{Event}
use Rattle.r2_link.specs.declared.lane.Item.{Item}
use Rattle.r2_link.specs.Links.{LinkPasses, LinkTold}
use Rattle.hc_aggregate.specs.Tally.{Tally, no_tally}
use Rattle.hc_run.specs.Group.{Group}
use Rattle.hc_aggregate.specs.Turn.{AggregatorState, begin, sent, turned, turned_all}
use Rattle.cmd_status.specs.declared.status.Status.{Status}
use Rattle.cmd_status.specs.declared.status.Status.TheVariants as status
use Rattle.cmd_loop.specs.Events.{event_of}
use Rattle.cmd_aggregator.specs.Aggregates.{AggregatorSends}
use Rattle.cmd_aggregator.specs.Untimed.{EndsUntimed, LosesLast, SendsAll, SendsPart}
use Rattle.cmd_group.specs.AggregatorLoops.{AggregatorLife, AggregatorsMakeTurns, AreAggregatorLives, Broken, HasTurns, MayBreak, aggregated, broken_sends, broken_steps, sent_by_lives, steps_of_lives, turns_from}
use Rattle.cmd_group.specs.Members.{AreFirst}
use Rattle.cmd_group.specs.Merge.{aggregator_at}
use Rattle.cmd_group.specs.Steps.{Step, Asks, Acts, Aggregates, BeginsAnew, of_aggregators}

-- one turn more
turned-push : (a : AggregatorState) (events : List Event) (e : Event) → (turned_all a (events ++ e ∷ [])).sends ≡ (turned_all a events).sends ++ sent (turned_all a events).aggregator e
unfolding turned_all
turned-push a [] e = append-nil (sent a e)
turned-push a (x ∷ events) e =
    ap (λ (l : List Datagram). sent a x ++ l) (turned-push (turned a x) events e)
    ∙ sym (append_assoc (sent a x) (turned_all (turned a x) events).sends (sent (turned_all (turned a x) events).aggregator e))

-- Lives --

-- the steps of an aggregator may be made, from what it counts on
abbrev pub AllMayAggregate : Group → Tally → List Step → Type 0
AllMayAggregate g tally [] = Unit {0}
AllMayAggregate g tally (Aggregates me e goes ∷ more) =
    AreFirst goes (sent (aggregator_at g me tally) e) × AllMayAggregate g (turned (aggregator_at g me tally) e).tally more
AllMayAggregate g tally (BeginsAnew me ∷ more) = AllMayAggregate g (no_tally (length g.members)) more
AllMayAggregate g tally (_ ∷ more) = AllMayAggregate g tally more

-- and what they send
abbrev pub sends_of_steps : List Step → List Datagram
sends_of_steps [] = []
sends_of_steps (Aggregates me e goes ∷ more) = goes ++ sends_of_steps more
sends_of_steps (_ ∷ more) = sends_of_steps more

module _ (g : Group) where
  -- the other steps don't matter
  pub others-may : (tally : Tally) (steps : List Step) → AllMayAggregate g tally (of_aggregators steps) → AllMayAggregate g tally steps
  others-may tally [] may = tt
  others-may tally (Asks q ∷ more) may = others-may tally more may
  others-may tally (Acts v act ∷ more) may = others-may tally more may
  others-may tally (Aggregates me e goes ∷ more) may = (may.0, others-may (turned (aggregator_at g me tally) e).tally more may.1)
  others-may tally (BeginsAnew me ∷ more) may = others-may (no_tally (length g.members)) more may

  turns-may : (me : Addr) (tally : Tally) (events : List Event) (broken : Option Broken) (more : List Step) → MayBreak (turned_all (aggregator_at g me tally) events).aggregator broken
      → ((u : Tally) → AllMayAggregate g u more) → AllMayAggregate g tally (turns_from (aggregator_at g me tally) events ++ (broken_steps me broken ++ more))
  unfolding turned_all
  turns-may me tally [] None more may rest = rest tally
  turns-may me tally [] (Some b) more may rest = (may, rest (turned (aggregator_at g me tally) b.event).tally)
  turns-may me tally (e ∷ events) broken more may rest =
      let a = aggregator_at g me tally in
      (record { unsent = []; split = sym (append-nil (sent a e)) }, turns-may me (turned a e).tally events broken more may rest)

  pub lives-may : (me : Addr) (lives : List AggregatorLife) → AreAggregatorLives me g.members lives → (tally : Tally) → AllMayAggregate g tally (steps_of_lives me g.members lives)
  lives-may me [] are tally = tt
  lives-may me (life ∷ more) are tally =
      turns-may me (no_tally (length g.members)) life.events life.broken (steps_of_lives me g.members more) are.0 (lives-may me more are.1)

turns-send : (a : AggregatorState) (events : List Event) (rest : List Step) → sends_of_steps (turns_from a events ++ rest) ≡ (turned_all a events).sends ++ sends_of_steps rest
unfolding turned_all
turns-send a [] rest = refl
turns-send a (e ∷ events) rest =
    ap (λ (l : List Datagram). sent a e ++ l) (turns-send (turned a e) events rest) ∙ sym (append_assoc (sent a e) (turned_all (turned a e) events).sends (sends_of_steps rest))

broken-sends : (me : Addr) (broken : Option Broken) (rest : List Step) → sends_of_steps (broken_steps me broken ++ rest) ≡ broken_sends broken ++ sends_of_steps rest
broken-sends me None rest = refl
broken-sends me (Some b) rest = refl

pub lives-send : (me : Addr) (members : List Addr) (lives : List AggregatorLife) → sends_of_steps (steps_of_lives me members lives) ≡ sent_by_lives me members lives
lives-send me members [] = refl
lives-send me members (life ∷ more) =
    let rest = steps_of_lives me members more in
    let whole = (aggregated me members life.events).sends in
    turns-send (begin me members) life.events (broken_steps me life.broken ++ rest)
    ∙ ap (λ (l : List Datagram). whole ++ l) (broken-sends me life.broken rest ∙ ap (λ (l : List Datagram). broken_sends life.broken ++ l) (lives-send me members more))
    ∙ sym (append_assoc whole (broken_sends life.broken) (sent_by_lives me members more))

-- what the others send doesn't matter
pub others-send : (steps : List Step) → sends_of_steps (of_aggregators steps) ≡ sends_of_steps steps
others-send [] = refl
others-send (Asks q ∷ more) = others-send more
others-send (Acts v act ∷ more) = others-send more
others-send (Aggregates me e goes ∷ more) = ap (λ (l : List Datagram). goes ++ l) (others-send more)
others-send (BeginsAnew me ∷ more) = others-send more

-- Contracts --

nothing-sent : (me : Addr) (members : List Addr) → [] ≡ (aggregated me members []).sends ++ []
unfolding turned_all
nothing-sent me members = refl

module _ (me : Addr) (members : List Addr) (old new : LinkTold) where
  abbrev S : List Event → List Datagram → Type 0
  S = AggregatorSends me members

  -- its turns at some items were whole
  made-whole : (items before : List Item) (left : List Event) (sends : List Datagram) → map event_of items ≡ map event_of before ++ left → S (map event_of before) sends
      → LinkPasses old new items sends → HasTurns me members old new
  made-whole items before left sends taken right passed =
      let events = map event_of before in
      record {
        items = items;
        life = record { events = events; broken = None };
        left = left;
        taken = taken ∙ ap (λ (l : List Event). l ++ left) (sym (append-nil events));
        is = tt;
        passed = subst (λ (l : List Datagram). LinkPasses old new items l) (right ∙ sym (append-nil (aggregated me members events).sends)) passed;
      }

  whole : (items : List Item) → SendsAll S old new items → HasTurns me members old new
  whole items all = made-whole items items [] all.sends (sym (append-nil (map event_of items))) all.right all.passed

  last-event : (items before : List Item) (last : Item) → items ≡ before ++ last ∷ [] → map event_of items ≡ map event_of before ++ event_of last ∷ []
  last-event items before last e = ap (map event_of) e ∙ map-append event_of before (last ∷ [])

  part : (items : List Item) → SendsPart S old new items → HasTurns me members old new
  part items sends =
      let events = map event_of sends.before in
      let e = event_of sends.last in
      let made = aggregated me members events in
      let taken = last-event items sends.before sends.last sends.last_of in
      let all : sends.earlier ++ (sends.sent ++ sends.unsent) ≡ made.sends ++ sent made.aggregator e =
      sends.right ∙ ap (λ (l : List Event). (aggregated me members l).sends) taken ∙ turned-push (begin me members) events e in
      let rest : sent made.aggregator e ≡ sends.sent ++ sends.unsent =
      append_cancel_left made.sends (sent made.aggregator e) (sends.sent ++ sends.unsent)
      (sym all ∙ ap (λ (l : List Datagram). l ++ (sends.sent ++ sends.unsent)) sends.right_before) in
      record {
        items = items;
        life = record { events = events; broken = Some (record { event = e; sent = sends.sent }) };
        left = [];
        taken = taken ∙ sym (append-nil (events ++ e ∷ []));
        is = record { unsent = sends.unsent; split = rest };
        passed = subst (λ (l : List Datagram). LinkPasses old new items l) (ap (λ (l : List Datagram). l ++ sends.sent) sends.right_before) sends.passed;
      }

  lost : (items : List Item) → LosesLast S old new items → HasTurns me members old new
  lost items loses =
      made-whole items loses.before (event_of loses.last ∷ []) loses.sends (last-event items loses.before loses.last loses.last_of) loses.right loses.passed

  none : LinkPasses old new [] [] → HasTurns me members old new
  none passed =
      record {
        items = [];
        life = record { events = []; broken = None };
        left = [];
        taken = refl;
        is = tt;
        passed = subst (λ (l : List Datagram). LinkPasses old new [] l) (nothing-sent me members) passed;
      }

  ended : (turns : ℕ) (items : List Item) (at : Status) → EndsUntimed S turns old new items at → HasTurns me members old new
  ended turns items status.Done ends = whole items ends.1.1
  ended turns items status.TurnsSpent ends = whole items ends.1
  ended turns items status.LinkFault (inl between) = whole items between.1
  ended turns items status.LinkFault (inr sends) = part items sends
  ended turns items status.Memory (inl before) = none before.1
  ended turns items status.Memory (inr (inl between)) = whole items between.1
  ended turns items status.Memory (inr (inr loses)) = lost items loses
  ended turns items status.BadWords ends = absurd ends
  ended turns items (status.BadScript line) ends = absurd ends
  ended turns items (status.JournalDamaged at) ends = absurd ends
  ended turns items status.SourceFault ends = absurd ends
  ended turns items status.SinkFault ends = absurd ends
  ended turns items status.DiskFault ends = absurd ends
  ended turns items status.ClockFault ends = absurd ends
  ended turns items status.TimedOut ends = absurd ends
  ended turns items status.IdsUsed ends = absurd ends

pub aggregators_make_turns : AggregatorsMakeTurns
aggregators_make_turns me members turns old new at serves = ended me members old new turns serves.0 at serves.1

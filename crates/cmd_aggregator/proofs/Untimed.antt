-- A loop over a clock that stands still is one without a clock.
use Rattle.std.proofs.Common.{◌≡◌, ◌⊎◌, inl, inr, ℕ, zero, suc, ◌≤◌, List, [], ◌∷◌, ◌++◌, length, Some, None, refl, sym, ap, ◌∙◌, subst, arith, append-nil, length-append}
use Rattle.std.specs.Prelude.{map}
use Rattle.std.proofs.lemmas.List.{nil_from_length}
use Rattle.r2_base.specs.declared.datagram.Datagram.{Datagram}
use Rattle.r2_base.specs.declared.event.Event.{Event}
use Rattle.r2_base.specs.declared.event.Event.TheVariants.{Datagram as DatagramEvent, Tick, Quiet}
use Rattle.r2_link.specs.declared.lane.Item.{Item}
use Rattle.r2_link.specs.Links.{LinkTold}
use Rattle.r2_link.specs.Moments.{Tells}
use Rattle.cmd_status.specs.declared.status.Status.{Status}
use Rattle.cmd_status.specs.declared.status.Status.TheVariants.{Done, Memory, LinkFault, DiskFault, ClockFault, TurnsSpent}
use Rattle.cmd_loop.specs.declared.pace.Pace.{Pace}
use Rattle.cmd_loop.specs.Ends.{Ends}
use Rattle.cmd_loop.specs.Events.{event_of, events}
use Rattle.cmd_loop.specs.Happenings.{Happening, Came, Closing, came, closed, events_of, happenings}
use Rattle.cmd_loop.specs.Loop.{AskedBefore, EndsBetween, Ended, FoundEnd, GivesPart, LosesTurn, Serves}
use Rattle.cmd_loop.specs.Plain.{Unstored}
use Rattle.cmd_loop.specs.Round.{Makes}
use Rattle.cmd_aggregator.specs.Untimed.{EndsUntimed, LosesLast, SendsAll, SendsAllBetween, SendsPart, ServesUntimed}
use Rattle.cmd_aggregator.proofs.Splits.{came-last, events_of-came, events_of-closed, same_before}
use Rattle.cmd_aggregator.proofs.Still.{events-still}

-- the pace of such a loop
abbrev pub untimed : ℕ → Pace
untimed turns = record { tick_ms = 1000; turns = turns }

-- a link, and a clock that stands still
abbrev pub beside_still : LinkTold → Ends
beside_still link = record { source = None; written = None; link = link; clock = Some (0 ∷ []); records = None }

asked-least : (last : Happening) (items : List Item) (moments : List ℕ) → AskedBefore last items moments → length items ≤ length moments
asked-least (Came Tick) items moments asked = omega (arith, asked)
asked-least (Came (DatagramEvent d)) items moments asked = omega (arith, asked)
asked-least (Came Quiet) items moments asked = omega (arith, asked)
asked-least Closing items moments asked = omega (arith, asked)

-- what is all of a list isn't more
nothing-more : (xs sent unsent : List Datagram) → xs ++ (sent ++ unsent) ≡ xs → sent ≡ []
nothing-more xs sent unsent e =
    nil_from_length sent (omega (arith, ap (λ (l : List Datagram). length l) e, length-append xs (sent ++ unsent), length-append sent unsent))

module _ (S : List Event → List Datagram → Type 0) (once : (es : List Event) (ds ds' : List Datagram) → S es ds → S es ds' → ds ≡ ds') (turns : ℕ) (old new : LinkTold) (items : List Item) (moments : List ℕ) where
  -- by then the events were those of the items
  events-are : (n : ℕ) → Tells (Some (0 ∷ [])) (Some (0 ∷ [])) moments → length items ≤ length moments
      → events_of (happenings 1000 items moments n) ≡ map event_of items
  events-are n told few = events_of-closed n (came (events 1000 items moments)) ∙ events_of-came (events 1000 items moments) ∙ events-still items moments told few

  all-sent : (made : List Happening) → events_of made ≡ map event_of items → Makes (Unstored S made) (beside_still old) (beside_still new) items moments → SendsAll S old new items
  all-sent made same all =
      record { sends = all.sends; right = subst (λ (es : List Event). S es all.sends) same all.right.1; passed = all.passed.link }

  between-sent : EndsBetween (Unstored S) (untimed turns) (beside_still old) (beside_still new) items moments → SendsAllBetween S turns old new items
  between-sent ends =
      (ends.within, all-sent (came (events 1000 items moments)) (events-are 0 ends.made.passed.clock (omega (arith, ends.asked))) ends.made)

  -- after the end nothing is sent
  part-sent : (n : ℕ) → (1 ≤ n → FoundEnd (untimed turns) (beside_still old) (beside_still new) items moments)
      → GivesPart (Unstored S) (happenings 1000 items moments n) (beside_still old) (beside_still new) items moments
      → SendsAllBetween S turns old new items ⊎ SendsPart S old new items
  part-sent zero found part =
      let few = asked-least part.last items moments part.is_last.asked in
      let are = events-still items moments part.passed.clock few in
      let ends = came-last items part.before part.last (subst (λ (es : List Event). came es ≡ part.before ++ part.last ∷ []) are part.is_last.last_of) in
      inr (
      record {
        before = ends.first;
        last = ends.last;
        last_of = ends.last_of;
        earlier = part.earlier;
        sent = part.sent;
        unsent = part.unsent;
        right_before = subst (λ (es : List Event). S es part.earlier) ends.same part.right_before.1;
        right = subst (λ (es : List Event). S es (part.earlier ++ (part.sent ++ part.unsent))) (events-are 0 part.passed.clock few) part.right.1;
        passed = part.passed.link;
      }
      )
  part-sent (suc n) found part =
      let few = asked-least part.last items moments part.is_last.asked in
      let hs = closed n (came (events 1000 items moments)) in
      let same = same_before hs part.before Closing part.last part.is_last.last_of in
      let before = subst (λ (l : List Happening). S (events_of l) part.earlier) (sym same) part.right_before.1 in
      let earlier = subst (λ (es : List Event). S es part.earlier) (events-are n part.passed.clock few) before in
      let all = subst (λ (es : List Event). S es (part.earlier ++ (part.sent ++ part.unsent))) (events-are (suc n) part.passed.clock few) part.right.1 in
      let none = nothing-more part.earlier part.sent part.unsent (once (map event_of items) _ _ all earlier) in
      let whole : part.earlier ≡ part.earlier ++ part.sent = sym (ap (λ (l : List Datagram). part.earlier ++ l) none ∙ append-nil part.earlier) in
      let end = found (omega arith) in
      inl (end.within, record { sends = part.earlier ++ part.sent; right = subst (λ (ds : List Datagram). S (map event_of items) ds) whole earlier; passed = part.passed.link })

  lost-sent : (n : ℕ) → (1 ≤ n → FoundEnd (untimed turns) (beside_still old) (beside_still new) items moments)
      → LosesTurn (Unstored S) (happenings 1000 items moments n) (beside_still old) (beside_still new) items moments
      → SendsAllBetween S turns old new items ⊎ LosesLast S old new items
  lost-sent zero found lost =
      let few = asked-least lost.last items moments lost.is_last.asked in
      let are = events-still items moments lost.made.passed.clock few in
      let ends = came-last items lost.before lost.last (subst (λ (es : List Event). came es ≡ lost.before ++ lost.last ∷ []) are lost.is_last.last_of) in
      inr (
      record {
        before = ends.first;
        last = ends.last;
        last_of = ends.last_of;
        sends = lost.made.sends;
        right = subst (λ (es : List Event). S es lost.made.sends) ends.same lost.made.right.1;
        passed = lost.made.passed.link;
      }
      )
  lost-sent (suc n) found lost =
      let few = asked-least lost.last items moments lost.is_last.asked in
      let hs = closed n (came (events 1000 items moments)) in
      let same = same_before hs lost.before Closing lost.last lost.is_last.last_of in
      let end = found (omega arith) in
      inl (end.within, all-sent lost.before (ap (λ (l : List Happening). events_of l) (sym same) ∙ events-are n lost.made.passed.clock few) lost.made)

  ends-untimed : (n : ℕ) (status : Status) → (1 ≤ n → FoundEnd (untimed turns) (beside_still old) (beside_still new) items moments)
      → Ended (Unstored S) (Unstored S) (Unstored S) (untimed turns) (beside_still old) (beside_still new) items moments n status
      → (status ≡ DiskFault → ⊥) → (status ≡ ClockFault → ⊥) → EndsUntimed S turns old new items status
  ends-untimed n Done found ended no_disk no_clock =
      let end = found ended.0 in
      (end.dry, (end.within, all-sent (happenings 1000 items moments n) (events-are n ended.1.passed.clock (omega (arith, end.asked))) ended.1))
  ends-untimed n TurnsSpent found ended no_disk no_clock =
      (ended.2, all-sent (came (events 1000 items moments)) (events-are 0 ended.3.passed.clock (omega (arith, ended.1))) ended.3)
  ends-untimed n LinkFault found (inl ends) no_disk no_clock = inl (between-sent ends.1)
  ends-untimed n LinkFault found (inr part) no_disk no_clock = part-sent n found part
  ends-untimed n Memory found (inl none) no_disk no_clock = inl (none.1, none.0.link)
  ends-untimed n Memory found (inr (inl ends)) no_disk no_clock = inr (inl (between-sent ends.1))
  ends-untimed n Memory found (inr (inr lost)) no_disk no_clock = inr (lost-sent n found lost)
  ends-untimed n DiskFault found ended no_disk no_clock = absurd (no_disk refl)
  ends-untimed n ClockFault found ended no_disk no_clock = absurd (no_clock refl)
  ends-untimed n _ found ended no_disk no_clock = absurd ended

pub serves-untimed : (S : List Event → List Datagram → Type 0) → ((es : List Event) (ds ds' : List Datagram) → S es ds → S es ds' → ds ≡ ds')
    → (turns : ℕ) (old new : LinkTold) (status : Status)
    → Serves (Unstored S) (Unstored S) (Unstored S) (untimed turns) (beside_still old) (beside_still new) status
    → (status ≡ DiskFault → ⊥) → (status ≡ ClockFault → ⊥) → ServesUntimed S turns old new status
serves-untimed S once turns old new status serves no_disk no_clock =
    (serves.items, ends-untimed S once turns old new serves.items serves.moments serves.closings status serves.found_end serves.ended no_disk no_clock)

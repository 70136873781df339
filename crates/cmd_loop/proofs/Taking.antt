-- What a receive came to: the turn of an item, or the end of the link.
use Rattle.std.proofs.Common.{◌≡◌, inl, inr, List, [], ◌∷◌, Option, subst}
use Rattle.r2_base.specs.declared.datagram.Datagram.{Datagram}
use Rattle.r2_base.specs.declared.event.Event.{Event}
use Rattle.r2_link.specs.declared.lane.Item.{Item}
use Rattle.r2_link.specs.Links.{LinkPasses, LinkTold}
use Rattle.r2_link.specs.Told.{RanDry}
use Rattle.r2_link.proofs.Links.{LinkPasses-then}
use Rattle.r2_link.proofs.Told.{RanDry-on}
use Rattle.hc_log.specs.declared.record.Record.{Record}
use Rattle.cmd_status.specs.declared.status.Status.{Status}
use Rattle.cmd_status.specs.declared.status.Status.TheVariants.{LinkFault, Memory}
use Rattle.cmd_loop.specs.Ends.{Ends}
use Rattle.cmd_loop.specs.Events.{event_of}
use Rattle.cmd_loop.specs.Happenings.{Came, Closing}
use Rattle.cmd_loop.specs.Party.{Finishes, ReactsTo, Turns}
use Rattle.cmd_loop.specs.Receiving.{StopsTaking}
use Rattle.cmd_loop.specs.Round.{Makes, SomeReacts, SomeTurns, Stops, StopsItem}
use Rattle.cmd_loop.specs.Sending.{SendsPrefix}
use Rattle.cmd_loop.proofs.Passing.{Passes-link}
use Rattle.cmd_loop.proofs.Steps.{Finished, Makes-after, Makes-by, Stops-after, Stops-by, Turned, both-halves}

-- the end of the link closed a turn, whose replies were sent
pub end-closes : {P : Type 0} (T : Turned P) (p q : P) (a b c : LinkTold) (replies : List Datagram) (o : Ends)
    → LinkPasses a b [] [] → RanDry a.left b.left → Turns T p q (Closing ∷ []) [] replies → LinkPasses b c [] replies
    → Makes (Turns T p q (Closing ∷ [])) (record o { link = a }) (record o { link = c }) [] [] × RanDry a.left c.left
end-closes T p q a b c replies o taken dry turned passed = (
  record { stored = []; sends = replies; right = turned; passed = Passes-link o a c [] replies (LinkPasses-then a b c [] [] [] replies taken passed) },
  RanDry-on a.left b.left c.left dry passed.took,
)

-- or of which a prefix was sent
pub end-stops : {P : Type 0} (T : Turned P) (p q : P) (a b c : LinkTold) (replies : List Datagram) (o : Ends)
    → LinkPasses a b [] [] → RanDry a.left b.left → Turns T p q (Closing ∷ []) [] replies → SendsPrefix b c replies
    → StopsItem T p (record o { link = a }) (record o { link = c }) LinkFault
end-stops T p q a b c replies o taken dry turned part = inr (inr (
  record {
    stored = [];
    sent = part.sent;
    unsent = part.unsent;
    right = (q, subst (Turns T p q (Closing ∷ []) []) part.split turned);
    passed = Passes-link o a c [] part.sent (LinkPasses-then a b c [] [] [] part.sent taken part.passed);
  },
  RanDry-on a.left b.left c.left dry part.passed.took,
))

-- an item was received, and its turn made
pub item-taken : {P : Type 0} (T : Turned P) (F : Finished P) (p q s : P) (event : Event) (item : Item) (replies : List Datagram) (a b c : LinkTold) (r r' : Option (List Record)) (o : Ends)
    → event ≡ event_of item → LinkPasses a b (item ∷ []) [] → Finishes T F p q replies
    → Makes (ReactsTo T F q s event replies) (record o { link = b; records = r }) (record o { link = c; records = r' }) [] []
    → Makes (Turns T p s (Came (event_of item) ∷ [])) (record o { link = a; records = r }) (record o { link = c; records = r' }) (item ∷ []) []
item-taken T F p q s event item replies a b c r r' o is taken finishes made =
    Makes-after (Turns T p s (Came (event_of item) ∷ [])) (record o { link = a; records = r }) (record o { link = b; records = r }) (record o { link = c; records = r' }) (item ∷ []) []
    (Passes-link (record o { records = r }) a b (item ∷ []) [] taken)
    (subst (λ (e : Event). Makes (Turns T p s (Came e ∷ [])) (record o { link = b; records = r }) (record o { link = c; records = r' }) [] []) is
    (Makes-by (ReactsTo T F q s event replies) (Turns T p s (Came event ∷ [])) (both-halves T F p q s event replies finishes)
    (record o { link = b; records = r }) (record o { link = c; records = r' }) [] [] made))

-- or not made whole
pub item-stops : {P : Type 0} (T : Turned P) (F : Finished P) (p q : P) (event : Event) (item : Item) (replies : List Datagram) (a b c : LinkTold) (r r' : Option (List Record)) (o : Ends) (status : Status)
    → event ≡ event_of item → LinkPasses a b (item ∷ []) [] → Finishes T F p q replies
    → Stops (SomeReacts T F q event replies) (record o { link = b; records = r }) (record o { link = c; records = r' }) [] [] status
    → StopsItem T p (record o { link = a; records = r }) (record o { link = c; records = r' }) status
item-stops T F p q event item replies a b c r r' o status is taken finishes stops = inr (inl (
  item,
  Stops-after (SomeTurns T p (Came (event_of item) ∷ [])) (record o { link = a; records = r }) (record o { link = b; records = r }) (record o { link = c; records = r' }) (item ∷ []) [] status
      (Passes-link (record o { records = r }) a b (item ∷ []) [] taken)
      (subst (λ (e : Event). Stops (SomeTurns T p (Came e ∷ [])) (record o { link = b; records = r }) (record o { link = c; records = r' }) [] [] status) is
      (Stops-by (SomeReacts T F q event replies) (SomeTurns T p (Came event ∷ [])) (λ stored sends some. (some.0, both-halves T F p q some.0 event replies finishes stored sends some.1))
      (record o { link = b; records = r }) (record o { link = c; records = r' }) [] [] status stops)),
))

-- nothing was received, or an item of which nothing was made
pub taking-stops : {P : Type 0} (T : Turned P) (p : P) (a b : LinkTold) (o : Ends) (status : Status)
    → StopsTaking a b status → StopsItem T p (record o { link = a }) (record o { link = b }) status
taking-stops T p a b o LinkFault passed = inl (Passes-link o a b [] [] passed)
taking-stops T p a b o Memory (inl passed) = inl (Passes-link o a b [] [] passed)
taking-stops T p a b o Memory (inr taken) = inr (inl (taken.0, Passes-link o a b (taken.0 ∷ []) [] taken.1))
taking-stops T p a b o _ stops = absurd stops

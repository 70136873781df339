-- An aggregator's turns, one more at a time.
use Rattle.std.proofs.Common.{◌≡◌, List, [], ◌∷◌, ◌++◌, Result, Ok, Err, refl, sym, ap, ◌∙◌, append_assoc, append-nil}
use Rattle.std.specs.Prelude.{IfOk}
use Rattle.r2_base.specs.declared.addr.Addr.{Addr}
use Rattle.r2_base.specs.declared.datagram.Datagram.{Datagram}
use Rattle.r2_base.specs.declared.event.Event.{Event}
use Rattle.hc_aggregate.specs.Turn.{AggregatorState, IsTurn, begin, sent, turned, turned_all}
use Rattle.cmd_loop.specs.Plain.{PlainTurns}
use Rattle.cmd_aggregator.specs.Aggregates.{AggregatorSends, Becomes}

-- the turn of one event more
aggregator-more : (s : AggregatorState) (events : List Event) (event : Event)
    → (turned_all s (events ++ event ∷ [])).aggregator ≡ turned (turned_all s events).aggregator event
unfolding turned_all
aggregator-more s [] event = refl
aggregator-more s (first ∷ events) event = aggregator-more (turned s first) events event

sends-more : (s : AggregatorState) (events : List Event) (event : Event)
    → (turned_all s (events ++ event ∷ [])).sends ≡ (turned_all s events).sends ++ sent (turned_all s events).aggregator event
unfolding turned_all
sends-more s [] event = append-nil (sent s event)
sends-more s (first ∷ events) event =
    ap (λ (l : List Datagram). sent s first ++ l) (sends-more (turned s first) events event)
    ∙ sym (append_assoc (sent s first) (turned_all (turned s first) events).sends (sent (turned_all (turned s first) events).aggregator event))

pub becomes-more : (old new : AggregatorState) (event : Event) (sends : List Datagram) → IsTurn old event sends new → PlainTurns Becomes old new (event ∷ []) sends
becomes-more old new event sends turn first events before was = record {
  becomes = turn.becomes ∙ ap (λ (s : AggregatorState). turned s event) was.becomes ∙ sym (aggregator-more first events event);
  sends = ap (λ (l : List Datagram). l ++ sends) was.sends
      ∙ ap (λ (l : List Datagram). (turned_all first events).sends ++ l) (turn.sends ∙ ap (λ (s : AggregatorState). sent s event) was.becomes)
      ∙ sym (sends-more first events event);
}

-- what a new aggregator sends
pub aggregator-sends : (me : Addr) (members : List Addr) (old new : AggregatorState) (events : List Event) (sends : List Datagram)
    → old ≡ begin me members → Becomes old events sends new → AggregatorSends me members events sends
aggregator-sends me members old new events sends is becomes = becomes.sends ∙ ap (λ (s : AggregatorState). (turned_all s events).sends) is

-- whatever a turn gives
pub turn-sends : {P E : Type 0} (f : P → AggregatorState) (old new : AggregatorState) (event : Event) (r : Result (List Datagram) E)
    → IfOk r (λ sends. IsTurn old event sends new)
    → IfOk r (λ sends. (first : P) (events : List Event) (sent : List Datagram) → Becomes (f first) events sent old → Becomes (f first) (events ++ event ∷ []) (sent ++ sends) new)
turn-sends f old new event (Ok sends) turn = λ first events sent before. becomes-more old new event sends turn (f first) events sent before
turn-sends f old new event (Err e) turn = tt

-- at the same events a new aggregator sends the same
pub sends-once : (me : Addr) (members : List Addr) (events : List Event) (sends sends' : List Datagram)
    → AggregatorSends me members events sends → AggregatorSends me members events sends' → sends ≡ sends'
sends-once me members events sends sends' one other = one ∙ sym other

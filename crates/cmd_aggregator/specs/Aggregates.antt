-- What an aggregator sends, and becomes.
use Rattle.std.specs.Prelude.{◌≡◌, List, [], refl}
use Rattle.r2_base.specs.declared.addr.Addr.{Addr}
use Rattle.r2_base.specs.declared.datagram.Datagram.{Datagram}
use Rattle.r2_base.specs.declared.event.Event.{Event}
use Rattle.hc_aggregate.specs.Turn.{AggregatorState, begin, turned_all}

-- an aggregator is what its turns at these events leave, and these are the datagrams that they give
pub record Becomes (old : AggregatorState) (events : List Event) (given : List Datagram) (new : AggregatorState) : Type 0 where
  pub becomes : new ≡ (turned_all old events).aggregator
  pub sends : given ≡ (turned_all old events).sends

-- before any event it is as it is, and gave nothing
pub becomes_none : (a : AggregatorState) → Becomes a [] [] a
unfolding turned_all
becomes_none a = record { becomes = refl; sends = refl }

-- a new aggregator sends these datagrams at these events
abbrev pub AggregatorSends : Addr → List Addr → List Event → List Datagram → Type 0
AggregatorSends me members events sends = sends ≡ (turned_all (begin me members) events).sends

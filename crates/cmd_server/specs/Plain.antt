-- What a plain server sends, and becomes.
use Rattle.std.specs.Prelude.{◌≡◌, List, [], Option, Some, refl}
use Rattle.r2_base.specs.declared.addr.Addr.{Addr}
use Rattle.r2_base.specs.declared.datagram.Datagram.{Datagram}
use Rattle.r2_base.specs.declared.event.Event.{Event}
use Rattle.r2_server.specs.State.{ServerState, begin}
use Rattle.r2_server.specs.Turn.{turned_all}

-- a server that was not spent is what its turns at these events leave, and these are the datagrams that they give
abbrev pub Becomes : Option ServerState → List Event → List Datagram → Option ServerState → Type 0
Becomes old events sends new = (s : ServerState) → old ≡ Some s → (new ≡ Some (turned_all s events).server) × (sends ≡ (turned_all s events).sends)

-- before any event it is as it is, and gave nothing
pub becomes_none : (a : Option ServerState) → Becomes a [] [] a
unfolding turned_all
becomes_none a s is = (is, refl)

-- a new server sends these datagrams at these events
abbrev pub PlainSends : Addr → Option Addr → List Event → List Datagram → Type 0
PlainSends me router events sends = sends ≡ (turned_all (begin me router) events).sends

-- A plain server's turns, one more at a time.
use Rattle.std.proofs.Common.{◌≡◌, ℕ, ◌<◌, ◌^◌, List, [], ◌∷◌, ◌++◌, Option, Some, None, Result, Ok, Err, refl, sym, ap, ◌∙◌, append_assoc, append-nil, arith}
use Rattle.std.specs.Prelude.{IfOk, OnOk}
use Rattle.r2_base.specs.declared.addr.Addr.{Addr}
use Rattle.r2_base.specs.declared.datagram.Datagram.{Datagram}
use Rattle.r2_base.specs.declared.event.Event.{Event}
use Rattle.r2_server.specs.State.{ServerState, begin}
use Rattle.r2_server.specs.Sound.{CanTurn, HadTurns}
use Rattle.r2_server.specs.Turn.{turned, turned_all}
use Rattle.cmd_loop.specs.Plain.{PlainTurns}
use Rattle.cmd_server.specs.Plain.{Becomes, PlainSends}

-- the turn of one event more
server-more : (s : ServerState) (events : List Event) (event : Event)
    → (turned_all s (events ++ event ∷ [])).server ≡ (turned (turned_all s events).server event).server
unfolding turned_all
server-more s [] event = refl
server-more s (first ∷ events) event = server-more (turned s first).server events event

sends-more : (s : ServerState) (events : List Event) (event : Event)
    → (turned_all s (events ++ event ∷ [])).sends ≡ (turned_all s events).sends ++ (turned (turned_all s events).server event).sends
unfolding turned_all
sends-more s [] event = append-nil (turned s event).sends
sends-more s (first ∷ events) event =
    ap (λ (l : List Datagram). (turned s first).sends ++ l) (sends-more (turned s first).server events event)
    ∙ sym (append_assoc (turned s first).sends (turned_all (turned s first).server events).sends (turned (turned_all (turned s first).server events).server event).sends)

pub becomes_more : (old new : Option ServerState) (event : Event) (sends : List Datagram)
    → ((s : ServerState) → old ≡ Some s → new ≡ Some (turned s event).server) → ((s : ServerState) → old ≡ Some s → sends ≡ (turned s event).sends)
    → PlainTurns Becomes old new (event ∷ []) sends
becomes_more old new event sends state gives first events sent before s is =
    let now = before s is in
    let t = (turned_all s events).server in (
      state t now.0 ∙ ap (λ (x : ServerState). Some x) (sym (server-more s events event)),
      ap (λ (l : List Datagram). l ++ sends) now.1 ∙ ap (λ (l : List Datagram). (turned_all s events).sends ++ l) (gives t now.0) ∙ sym (sends-more s events event),
    )

pub can_turn : (n : ℕ) (a : Option ServerState) → n < 2 ^ 57 → HadTurns n a → CanTurn a
can_turn n None few had = absurd had
can_turn n (Some s) few had = omega (arith, had)

-- what a new server sends
pub plain-sends : (me : Addr) (router : Option Addr) (old new : Option ServerState) (events : List Event) (sends : List Datagram)
    → old ≡ Some (begin me router) → Becomes old events sends new → PlainSends me router events sends
plain-sends me router old new events sends is becomes = (becomes (begin me router) is).1

pub begun-had : (me : Addr) (router : Option Addr) (a : Option ServerState) → a ≡ Some (begin me router) → HadTurns 0 a
begun-had me router None is = absurd (cc is)
begun-had me router (Some s) is = let same : s ≡ begin me router = cc in omega (arith, ap (λ (x : ServerState). x.turns) same)

pub turn-sends : {P E : Type 0} (f : P → Option ServerState) (old new : Option ServerState) (event : Event) (r : Result (List Datagram) E)
    → OnOk r ((s : ServerState) → old ≡ Some s → new ≡ Some (turned s event).server)
    → IfOk r (λ sends. (s : ServerState) → old ≡ Some s → sends ≡ (turned s event).sends)
    → IfOk r (λ sends. (first : P) (events : List Event) (sent : List Datagram) → Becomes (f first) events sent old → Becomes (f first) (events ++ event ∷ []) (sent ++ sends) new)
turn-sends f old new event (Ok sends) state gives = λ first events sent. becomes_more old new event sends state gives (f first) events sent
turn-sends f old new event (Err e) state gives = tt

-- What holds of any session, whatever comes.
use Rattle.std.specs.Prelude.{◌≡◌, ℕ, ◌+◌, ◌*◌, ◌==◌, ◌≤◌, if◌then◌else◌, List, [], length, Some, None}
use Rattle.std.specs.List.{range_with_len}
use Rattle.r2_base.specs.declared.addr.Addr.{Addr}
use Rattle.r2_base.specs.declared.datagram.Datagram.{Datagram}
use Rattle.r2_base.specs.declared.event.Event.{Event}
use Rattle.r2_base.specs.Limits.{id_limit}
use Rattle.r2_client.specs.declared.call_end.CallEnd.TheVariants.{TimedOut}
use Rattle.r2_header.specs.declared.header.Header.{Header}
use Rattle.r2_header.specs.declared.packet.Packet.TheVariants.{ReqRdy}
use Rattle.r2_header.specs.Header.{IsValid}
use Rattle.r2_header.specs.Policy.{jbsq}
use Rattle.r2_frag.specs.Parts.{piece_size}
use Rattle.r2_client.specs.declared.open_call.OpenCall.{OpenCall}
use Rattle.r2_client.specs.Sendings.{later_parts_to}
use Rattle.r2_client.specs.Runs.{EndNothing, Input, after, ids_of, ticks_among}
use Rattle.r2_client.specs.Session.{began, received, ticked}
use Rattle.r2_client.specs.State.{SessionState, session_from}

-- the next tick after so many ends the call exactly where it is the last of them, and a datagram never times it out
pub record TimesOutAt (last ticks : ℕ) (s : SessionState) : Type 0 where
  pub tick : (ticked s).step.end ≡ (if ticks + 1 == last then Some TimedOut else None)
  pub datagram : (d : Datagram) → ¬ ((received s d).step.end ≡ Some TimedOut)

-- so it is after any events since a call began that leave it open, and the last tick is number `wait * tries`, whatever parts
-- servers called for between
abbrev pub TimesOutAtItsTick : Type 0
TimesOutAtItsTick =
    (s : SessionState) (policy : ℕ) (body : List ℕ) (events : List Event)
    → 1 ≤ s.wait → 1 ≤ s.tries → EndNothing (began s policy body) events
    → TimesOutAt (s.wait * s.tries) (ticks_among events) (after (began s policy body) events)

-- the ids are a first one and those after it, each once, and none above the greatest
pub record AreInOrder (first : ℕ) (ids : List ℕ) : Type 0 where
  pub order : ids ≡ range_with_len first (length ids)
  pub most : first + length ids ≤ id_limit

-- so they are for whatever a session is asked and whatever comes
abbrev pub IdsAreInOrder : Type 0
IdsAreInOrder =
    (me : Addr) (targets : List Addr) (wait tries first : ℕ) (inputs : List Input)
    → first ≤ id_limit → AreInOrder first (ids_of (session_from me targets wait tries first) inputs)

-- a request that fits one part has no others, so that nothing is sent at a call for its others
abbrev pub OnePartHasNoOthers : Type 0
OnePartHasNoOthers = (me : Addr) (call : OpenCall) (to : Addr) → length call.body ≤ piece_size → later_parts_to me call to ≡ []

-- only under FIXED and JBSQ can parts be called for
abbrev pub OnlyPlainPoliciesCall : Type 0
OnlyPlainPoliciesCall = (h : Header) → IsValid h → h.packet ≡ ReqRdy → h.policy ≤ jbsq

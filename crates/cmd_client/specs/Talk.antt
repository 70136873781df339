-- A client's talk with its servers: what it takes in, in its order, and what comes of that.
use Rattle.std.specs.Prelude.{◌≡◌, ℕ, Bool, true, false, List, [], ◌∷◌, ◌++◌, Option, Some, None}
use Rattle.std.specs.List.{flat_map}
use Rattle.r2_base.specs.declared.datagram.Datagram.{Datagram}
use Rattle.r2_base.specs.declared.event.Event.{Event}
use Rattle.r2_link.specs.declared.lane.Item.{Item}
use Rattle.r2_client.specs.declared.call_end.CallEnd.{CallEnd}
use Rattle.r2_client.specs.declared.call_end.CallEnd.TheVariants.{Rejected, Reply, TimedOut}
use Rattle.r2_client.specs.declared.open_call.OpenCall.{OpenCall}
use Rattle.r2_client.specs.Sendings.{sending}
use Rattle.r2_client.specs.Session.{Stepped, began, new_call, refusal, stepped, unchanged}
use Rattle.r2_client.specs.State.{SessionState}
use Rattle.cmd_loop.specs.declared.ticker.Ticker.{Ticker}
use Rattle.cmd_loop.specs.Events.{event_of}
use Rattle.cmd_loop.specs.Round.{due_at, ticked}
use Rattle.hc_text.specs.End.{end_text}

-- one thing that is taken in: a call to make, an item from the link, or a moment from the clock
pub data Step : Type 0 where
  Asks : ℕ → List ℕ → Step
  Hears : Item → Step
  Tells : ℕ → Step

-- a talk at a moment: the session, the count of ticks, whether an item was heard after which the clock wasn't asked yet, and
-- whether a call timed out, which ends the talk
pub record Talk : Type 0 where
  pub session : SessionState
  pub ticker : Ticker
  pub heard : Bool
  pub over : Bool

-- a talk in which no call timed out
abbrev pub talk : SessionState → Ticker → Bool → Talk
talk session ticker heard = record { session = session; ticker = ticker; heard = heard; over = false }

-- whether a call timed out
abbrev pub times_out : Option CallEnd → Bool
times_out None = false
times_out (Some TimedOut) = true
times_out (Some Rejected) = false
times_out (Some (Reply payload)) = false

-- what comes of a step: the talk after it, the datagrams to be sent, and the ends of calls
pub record Outcome : Type 0 where
  pub next : Talk
  pub sends : List Datagram
  pub ends : List CallEnd

abbrev pub listed : Option CallEnd → List CallEnd
listed None = []
listed (Some end) = end ∷ []

-- what comes of a session's step
abbrev pub outcome_of : Ticker → Bool → Stepped → Outcome
outcome_of ticker heard r =
    record {
      next = record { session = r.session; ticker = ticker; heard = heard; over = times_out r.step.end };
      sends = r.step.sends;
      ends = listed r.step.end;
    }

-- a session at the tick that is due, if one is
abbrev pub stepped_by : SessionState → List Event → Stepped
stepped_by s [] = unchanged s
stepped_by s (event ∷ more) = stepped s event

-- what comes of one step
abbrev pub taken : Talk → Step → Outcome
taken t (Asks policy body) = record {
  next = talk (began t.session policy body) t.ticker false;
  sends = sending t.session.me t.session.targets (new_call t.session policy body);
  ends = [];
}
taken t (Hears item) = outcome_of t.ticker true (stepped t.session (event_of item))
taken t (Tells moment) = outcome_of (ticked t.ticker moment) false (stepped_by t.session (due_at t.ticker moment))

-- what comes of several steps, one after another
unfoldable pub course : Talk → List Step → Outcome
course t [] = record { next = t; sends = []; ends = [] }
course t (step ∷ more) =
    let first = taken t step in
    let rest = course first.next more in
    record { next = rest.next; sends = first.sends ++ rest.sends; ends = first.ends ++ rest.ends }

-- a call waits for its end
abbrev pub IsOpen : Option OpenCall → Type 0
IsOpen None = ⊥
IsOpen (Some call) = Unit {0}

-- which step may come next, as long as no call timed out: a call where none is open, an item where one is, and after each
-- item's turn a moment
abbrev pub MayTake : Talk → Step → Type 0
MayTake t (Asks policy body) = (t.over ≡ false) × (t.heard ≡ false) × (refusal t.session body ≡ None)
MayTake t (Hears item) = (t.over ≡ false) × (t.heard ≡ false) × IsOpen t.session.open_call
MayTake t (Tells moment) = (t.over ≡ false) × (t.heard ≡ true)

-- each step may come where it does
abbrev pub AreInTurn : Talk → List Step → Type 0
AreInTurn t [] = Unit {0}
AreInTurn t (step ∷ more) = MayTake t step × AreInTurn (taken t step).next more

-- the lines of the ends of calls
abbrev pub ends_text : List CallEnd → List ℕ
ends_text ends = flat_map end_text ends

-- the items and the moments among some steps, and the calls
unfoldable pub items_of : List Step → List Item
items_of [] = []
items_of (Asks policy body ∷ more) = items_of more
items_of (Hears item ∷ more) = item ∷ items_of more
items_of (Tells moment ∷ more) = items_of more

unfoldable pub moments_of : List Step → List ℕ
moments_of [] = []
moments_of (Asks policy body ∷ more) = moments_of more
moments_of (Hears item ∷ more) = moments_of more
moments_of (Tells moment ∷ more) = moment ∷ moments_of more

-- a call as it is asked: its policy, and its body
pub record Asked : Type 0 where
  pub policy : ℕ
  pub body : List ℕ

unfoldable pub asked_in : List Step → List Asked
asked_in [] = []
asked_in (Asks policy body ∷ more) = record { policy = policy; body = body } ∷ asked_in more
asked_in (Hears item ∷ more) = asked_in more
asked_in (Tells moment ∷ more) = asked_in more

-- One turn of a party of the protocol: it finishes what is pending, and then reacts to an event.
use Rattle.std.specs.Prelude.{◌≡◌, ⊤, ℕ, ◌*◌, List, [], ◌∷◌, ◌++◌, Option, Some, None}
use Rattle.r2_base.specs.declared.datagram.Datagram.{Datagram}
use Rattle.r2_base.specs.declared.event.Event.{Event}
use Rattle.r2_base.specs.Limits.{most_turns}
use Rattle.r2_link.specs.Told.{Gains}
use Rattle.hc_log.specs.declared.record.Record.{Record}
use Rattle.hc_log.specs.Ranges.{IsInRange}
use Rattle.hc_journal.specs.Journal.{FitsTold}
use Rattle.cmd_loop.specs.Happenings.{Happening, Came}

-- the most events of a loop: what was received in each of its turns, and a tick
abbrev pub most_events : ℕ
most_events = 2 * most_turns

-- the record of a turn as a list
abbrev pub records_of : Option Record → List Record
records_of (Some r) = r ∷ []
records_of None = []

-- turns at what happens more: where a party came to be what it was over what happened before, it is now what it is over that and
-- the rest, and stored these records and gave these datagrams besides
abbrev pub Turns : {P : Type 0} → (P → List Happening → List Record → List Datagram → P → Type 0) → P → P → List Happening → List Record → List Datagram → Type 0
Turns {P} T old new more stored sends = (first : P) (before : List Happening) (records : List Record) (sent : List Datagram)
    → T first before records sent old → T first (before ++ more) (records ++ stored) (sent ++ sends) new

-- the first half of a turn, whatever happened before: what was pending is finished, which gives these replies
abbrev pub Finishes : {P : Type 0} → (P → List Happening → List Record → List Datagram → P → Type 0)
    → (P → List Happening → List Record → List Datagram → List Datagram → P → Type 0) → P → P → List Datagram → Type 0
Finishes {P} T F old new replies = (first : P) (before : List Happening) (records : List Record) (sent : List Datagram)
    → T first before records sent old → F first before records sent replies new

-- the second half, after a first half that gave these replies: all that the turn at this event stores and gives
abbrev pub ReactsTo : {P : Type 0} → (P → List Happening → List Record → List Datagram → P → Type 0)
    → (P → List Happening → List Record → List Datagram → List Datagram → P → Type 0) → P → P → Event → List Datagram → List Record → List Datagram → Type 0
ReactsTo {P} T F old new event replies stored sends = (first : P) (before : List Happening) (records : List Record) (sent : List Datagram)
    → F first before records sent replies old → T first (before ++ Came event ∷ []) (records ++ stored) (sent ++ sends) new

-- and whatever the replies were, they go before what the event gives
abbrev pub Reacts : {P : Type 0} → (P → List Happening → List Record → List Datagram → P → Type 0)
    → (P → List Happening → List Record → List Datagram → List Datagram → P → Type 0) → P → P → Event → Option Record → List Datagram → Type 0
Reacts T F old new event stored sends = (replies : List Datagram) → ReactsTo T F old new event replies (records_of stored) (replies ++ sends)

-- a journal that tells this may store that, where there is something to store
abbrev pub MayStore : Option (List Record) → Option Record → Type 0
MayStore told None = ⊤
MayStore told (Some r) = IsInRange r × FitsTold told r

-- what a turn stores may be stored after whatever led to the party
abbrev pub Fits : {P : Type 0} → (P → Option (List Record) → Type 0) → P → Option Record → Type 0
Fits B old stored = (told : Option (List Record)) → B old told → MayStore told stored

-- a journal that told what led to the party tells that too once it stored these records
abbrev pub Follows : {P : Type 0} → (P → Option (List Record) → Type 0) → P → P → List Record → Type 0
Follows B old new stored = (told told' : Option (List Record)) → B old told → Gains told told' stored → (told ≡ None → told' ≡ None) → B new told'

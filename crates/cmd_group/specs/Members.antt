-- What the loop of one member may do, and what it leaves, stores and sends.
use Rattle.std.specs.Prelude.{◌≡◌, ℕ, ◌≤◌, zero, suc, List, [], ◌∷◌, ◌++◌, fold, Option, Some, None}
use Rattle.r2_base.specs.declared.datagram.Datagram.{Datagram}
use Rattle.r2_base.specs.declared.event.Event.{Event}
use Rattle.hc_log.specs.declared.record.Record.{Record}
use Rattle.hc_member.specs.declared.setup.Setup.{Setup}
use Rattle.hc_member.specs.Finish.{finished}
use Rattle.hc_member.specs.Member.{Member}
use Rattle.hc_member.specs.Sending.{datagrams_of_all}
use Rattle.hc_member.specs.Turn.{turned}
use Rattle.hc_run.specs.State.{Replica, started, stopped}
use Rattle.hc_run.specs.Steps.{with_stored}
use Rattle.cmd_group.specs.Steps.{Act, Turns, Breaks, Stops, Closes, Begins}

-- datagrams are the first of those that were to be sent: a failed send leaves a prefix
pub record AreFirst (sent all : List Datagram) : Type 0 where
  pub unsent : List Datagram
  pub split : all ≡ sent ++ unsent

-- the datagrams of a turn of a member
abbrev pub turn_sends : Setup → Member → Event → List Datagram
turn_sends s m e = datagrams_of_all s (turned s m e).sends

-- the datagrams of so many turns after the end of a link, at each of which a member finishes what is pending
unfoldable pub closing_sends : Setup → Member → ℕ → List Datagram
closing_sends s m zero = []
closing_sends s m (suc times) =
    let f = finished s m in datagrams_of_all s f.sends ++ closing_sends s f.member times

-- the journal of a member and what its loop runs, after that did something
abbrev pub place_by : Setup → List Record → Option Member → Act → Replica
place_by s journal (Some m) (Turns e) =
    let r = turned s m e in record { journal = with_stored journal r.stored; member = Some r.member }
place_by s journal (Some m) (Breaks e sent) = stopped (with_stored journal (turned s m e).stored)
place_by s journal (Some m) Stops = stopped journal
place_by s journal (Some m) (Closes times sent) = stopped journal
place_by s journal (Some m) Begins = record { journal = journal; member = Some m }
place_by s journal None Begins = started journal
place_by s journal None _ = stopped journal

abbrev pub place_after : Setup → Replica → Act → Replica
place_after s place act = place_by s place.journal place.member act

-- what the loop sends
abbrev pub sends_by : Setup → Option Member → Act → List Datagram
sends_by s (Some m) (Turns e) = turn_sends s m e
sends_by s (Some m) (Breaks e sent) = sent
sends_by s (Some m) (Closes times sent) = sent
sends_by s _ _ = []

-- a loop that runs a member may do something; where none runs, one may begin
abbrev pub MayBy : Setup → Option Member → Act → Type 0
MayBy s (Some m) (Turns e) = Unit {0}
MayBy s (Some m) (Breaks e sent) = AreFirst sent (turn_sends s m e)
MayBy s (Some m) Stops = Unit {0}
MayBy s (Some m) (Closes times sent) = (1 ≤ times) × AreFirst sent (closing_sends s m times)
MayBy s (Some m) Begins = ⊥
MayBy s None Begins = Unit {0}
MayBy s None _ = ⊥

-- the event that it takes in
abbrev pub event_of : Act → Option Event
event_of (Turns e) = Some e
event_of (Breaks e sent) = Some e
event_of _ = None

-- One thing after another --

-- what is left
abbrev pub places_after : Setup → Replica → List Act → Replica
places_after s place acts = fold (place_after s) place acts

-- all that is sent
abbrev pub sends_of_all : Setup → Replica → List Act → List Datagram
sends_of_all s place [] = []
sends_of_all s place (act ∷ more) = sends_by s place.member act ++ sends_of_all s (place_after s place act) more

-- each may be done
abbrev pub MayAll : Setup → Replica → List Act → Type 0
MayAll s place [] = Unit {0}
MayAll s place (act ∷ more) = MayBy s place.member act × MayAll s (place_after s place act) more

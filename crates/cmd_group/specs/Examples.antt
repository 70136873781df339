-- Loops that are: the only member of a group is asked, stops in the turn in which it orders the request, begins again, and answers; then
-- it is asked again.
use Rattle.std.specs.Prelude.{◌≡◌, ℕ, List, [], ◌∷◌, ◌++◌}
use Rattle.r2_base.specs.declared.datagram.Datagram.{Datagram}
use Rattle.r2_base.specs.declared.entry.Kind.TheVariants.{Read}
use Rattle.r2_base.specs.declared.event.Event.TheVariants as event
use Rattle.hc_log.specs.declared.record.Record.{Record}
use Rattle.hc_log.specs.declared.stored.Stored.{Stored}
use Rattle.hc_log.specs.Log.{blank_of}
use Rattle.hc_member.specs.Worked.{get_a, rid}
use Rattle.hc_rules.specs.Message.{Request}
use Rattle.hc_run.specs.Examples.{absent_payload, alone, answered_packet, asked_entry, asked_packet, asks, kept}
use Rattle.hc_run.specs.Group.{setup_of}
use Rattle.hc_run.specs.ReplyParts.{ReadsAsReply}
use Rattle.hc_run.specs.State.{stopped}
use Rattle.cmd_group.specs.Steps.{Step, Asks, Acts, Begins, Breaks, Closes, Turns, asked_in}
use Rattle.cmd_group.specs.Merge.{loops_after}
use Rattle.cmd_group.specs.Lives.{Broken, Closed, Life, place_of_lives}
use Rattle.cmd_group.specs.Loops.{AreLoops}

-- the member leads at its first tick; when the request comes, the turn's record stays, and nothing is sent
abbrev pub first_life : Life
first_life = record { records = []; events = event.Tick ∷ []; ending = Broken (event.Datagram asked_packet) [] }

-- its journal then
abbrev pub first_journal : List Record
first_journal = kept 1 0 (blank_of 1 ∷ []) ∷ kept 1 1 (asked_entry 1 ∷ []) ∷ []

-- the client asks again, and gets the same answer by another entry
abbrev pub asks_again : Request
asks_again = record asks { rid = rid 8 }

abbrev pub again_packet : Datagram
again_packet = record asked_packet { bytes = 0x52 ∷ 0x08 ∷ 0x03 ∷ 0xC0 ∷ 0x00 ∷ 0x08 ∷ 0x00 ∷ 0x01 ∷ get_a }

abbrev pub again_entry : Stored
again_entry = record { entry = record { term = 2; kind = Read; rid = rid 8; replier = 0 }; body = get_a }

abbrev pub again_answered : Datagram
again_answered = record (answered_packet 4) { bytes = 0x52 ∷ 0x08 ∷ 0x13 ∷ 0xC0 ∷ 0x00 ∷ 0x08 ∷ 0x00 ∷ 0x01 ∷ absent_payload 4 }

-- the member begins with that, leads the next term, and answers in the next turn; then the second request comes, which it answers after
-- the end of its link
abbrev pub second_life : Life
second_life =
    record {
      records = first_journal;
      events = event.Tick ∷ event.Quiet ∷ event.Datagram again_packet ∷ [];
      ending = Closed 1 (again_answered ∷ []);
    }

abbrev pub worked_lives : ℕ → List Life
worked_lives v = first_life ∷ second_life ∷ []

-- the steps until the first reply is sent
abbrev pub earlier_steps : List Step
earlier_steps =
    Acts 0 Begins
    ∷ Acts 0 (Turns event.Tick)
    ∷ Asks asks
    ∷ Acts 0 (Breaks (event.Datagram asked_packet) [])
    ∷ Acts 0 Begins
    ∷ Acts 0 (Turns event.Tick)
    ∷ Acts 0 (Turns event.Quiet)
    ∷ []

-- and those from the second request on
abbrev pub later_steps : List Step
later_steps = Asks asks_again ∷ Acts 0 (Turns (event.Datagram again_packet)) ∷ Acts 0 (Closes 1 (again_answered ∷ [])) ∷ []

-- these are loops, which leave the journal of both lives; and the first reply is sent before the second request
pub record IsWorked : Type 0 where
  pub loops : AreLoops alone worked_lives [] (earlier_steps ++ later_steps)
  pub place : place_of_lives (setup_of alone 0) (stopped []) (worked_lives 0)
      ≡ stopped (first_journal ++ kept 2 2 (blank_of 2 ∷ []) ∷ kept 2 3 (again_entry ∷ []) ∷ [])
  pub asked_earlier : asked_in earlier_steps ≡ asks ∷ []
  pub asked_later : asked_in later_steps ≡ asks_again ∷ []
  pub sent_earlier : (loops_after alone earlier_steps).sent ≡ asked_packet ∷ answered_packet 2 ∷ []
  pub sent : (loops_after alone (earlier_steps ++ later_steps)).sent ≡ asked_packet ∷ answered_packet 2 ∷ again_packet ∷ again_answered ∷ []
  pub reads : ReadsAsReply (answered_packet 2)

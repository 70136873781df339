-- The lives of a member, one loop after another: each begins with the records that the ones before it left.
use Rattle.std.specs.Prelude.{◌≡◌, ℕ, ◌≤◌, List, [], ◌∷◌, ◌++◌, map, Option, Some, None}
use Rattle.r2_base.specs.declared.datagram.Datagram.{Datagram}
use Rattle.r2_base.specs.declared.event.Event.{Event}
use Rattle.hc_log.specs.declared.record.Record.{Record}
use Rattle.hc_log.specs.Durable.{replay}
use Rattle.hc_member.specs.declared.setup.Setup.{Setup}
use Rattle.hc_member.specs.Member.{Member, anew}
use Rattle.hc_member.specs.Turn.{turned}
use Rattle.hc_run.specs.State.{Replica}
use Rattle.cmd_loop.specs.Happenings.{came}
use Rattle.cmd_loop.specs.Party.{records_of}
use Rattle.cmd_replica.specs.Replica.{Served, served}
use Rattle.cmd_group.specs.Steps.{Act, Turns, Breaks, Stops, Closes, Begins}
use Rattle.cmd_group.specs.Members.{AreFirst, closing_sends, turn_sends}

-- how a life ends, after the turns that it made whole
pub data Ending : Type 0 where
  -- it goes on
  Open : Ending
  -- between two turns, or within one of which nothing stays
  Stopped : Ending
  -- in the turn at this event, whose record stays, and of which these datagrams were sent
  Broken : Event → (sent : List Datagram) → Ending
  -- after so many turns after the end of its link, of which these datagrams were sent
  Closed : (times : ℕ) → (sent : List Datagram) → Ending

-- a life: the records that its journal told when it began, the events at which it made whole turns, and how it ended
pub record Life : Type 0 where
  pub records : List Record
  pub events : List Event
  pub ending : Ending

-- what its loop does
abbrev pub acts_of_ending : Ending → List Act
acts_of_ending Open = []
acts_of_ending Stopped = Stops ∷ []
acts_of_ending (Broken e sent) = Breaks e sent ∷ []
acts_of_ending (Closed times sent) = Closes times sent ∷ []

abbrev pub acts_of : Life → List Act
acts_of life = Begins ∷ (map Turns life.events ++ acts_of_ending life.ending)

-- what its whole turns came to, as the loop of a replica says it
abbrev pub served_in : Setup → Life → Served
served_in s life = served s (anew (replay life.records)) (came life.events)

-- after turns that came to this a life may end so
abbrev pub MayEnd : Setup → Member → Ending → Type 0
MayEnd s m Open = Unit {0}
MayEnd s m Stopped = Unit {0}
MayEnd s m (Broken e sent) = AreFirst sent (turn_sends s m e)
MayEnd s m (Closed times sent) = (1 ≤ times) × AreFirst sent (closing_sends s m times)

-- what is stored and sent at the end
abbrev pub ending_stores : Setup → Member → Ending → List Record
ending_stores s m (Broken e sent) = records_of (turned s m e).stored
ending_stores s m _ = []

abbrev pub ending_sends : Ending → List Datagram
ending_sends (Broken e sent) = sent
ending_sends (Closed times sent) = sent
ending_sends _ = []

-- what the loop runs where it goes on
abbrev pub still_runs : Member → Ending → Option Member
still_runs m Open = Some m
still_runs m _ = None

-- a life may end as it does
abbrev pub IsLife : Setup → Life → Type 0
IsLife s life = MayEnd s (served_in s life).member life.ending

-- what it stored and sent, and its journal and what runs after it
abbrev pub stored_in : Setup → Life → List Record
stored_in s life = (served_in s life).stored ++ ending_stores s (served_in s life).member life.ending

abbrev pub sent_in : Setup → Life → List Datagram
sent_in s life = (served_in s life).sent ++ ending_sends life.ending

abbrev pub place_of : Setup → Life → Replica
place_of s life = record { journal = life.records ++ stored_in s life; member = still_runs (served_in s life).member life.ending }

-- One life after another --

-- an ending other than going on
abbrev pub IsEnd : Ending → Type 0
IsEnd Open = ⊥
IsEnd _ = Unit {0}

-- a life is over where another one follows
abbrev pub IsOver : Ending → List Life → Type 0
IsOver Open (life ∷ more) = ⊥
IsOver _ _ = Unit {0}

-- lives that follow a journal, each of which begins with the records that the one before left, and is over before the next begins
abbrev pub AreLives : Setup → List Record → List Life → Type 0
AreLives s journal [] = Unit {0}
AreLives s journal (life ∷ more) =
    (life.records ≡ journal) × IsLife s life × IsOver life.ending more × AreLives s (place_of s life).journal more

-- what they do, leave and send
abbrev pub acts_of_lives : List Life → List Act
acts_of_lives [] = []
acts_of_lives (life ∷ more) = acts_of life ++ acts_of_lives more

abbrev pub place_of_lives : Setup → Replica → List Life → Replica
place_of_lives s place [] = place
place_of_lives s place (life ∷ more) = place_of_lives s (place_of s life) more

abbrev pub sent_in_lives : Setup → List Life → List Datagram
sent_in_lives s [] = []
sent_in_lives s (life ∷ more) = sent_in s life ++ sent_in_lives s more

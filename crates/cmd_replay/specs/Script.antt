-- What the lines of a script make of a member, and what their replay prints.
use Rattle.std.specs.Prelude.{ℕ, ◌-◌, ◌==◌, if◌then◌else◌, suc, zero, List, [], ◌∷◌, ◌++◌, Option, Some, None}
use Rattle.r2_base.specs.declared.event.Event.{Event}
use Rattle.r2_base.specs.declared.event.Event.TheVariants.{Datagram as DatagramEvent, Tick as TickEvent, Quiet as QuietEvent}
use Rattle.cmd_script.specs.declared.line.Line.{Line}
use Rattle.cmd_script.specs.declared.line.Line.TheVariants.{Tick, Quiet, In, Restart}
use Rattle.hc_log.specs.declared.record.Record.{Record}
use Rattle.hc_member.specs.declared.setup.Setup.{Setup}
use Rattle.hc_member.specs.Finish.{finished}
use Rattle.hc_member.specs.Member.{Member, beginning, restarted}
use Rattle.hc_member.specs.Sending.{datagrams_of_all}
use Rattle.hc_member.specs.Setup.{own_address}
use Rattle.hc_member.specs.Turn.{Reacted, turned}
use Rattle.cmd_replay.specs.Printed.{turn_text}
use Rattle.cmd_replay.specs.Replica.{stored_list}

-- the event of a line; a restart has none; a datagram comes to the replica's own address
abbrev pub event_of : Setup → Line → Option Event
event_of s Tick = Some TickEvent
event_of s Quiet = Some QuietEvent
event_of s (In from bytes) = Some (DatagramEvent (record { from = from; to = own_address s; bytes = bytes }))
event_of s Restart = None

-- what an event makes of a member is a turn; a restart makes it anew, and stores and sends nothing
abbrev pub turn_at : Setup → Member → Option Event → Reacted
turn_at s m (Some event) = turned s m event
turn_at s m None = record { member = restarted m; stored = None; sends = [] }

-- what a line makes of a member
unfoldable pub line_turn : Setup → Member → Line → Reacted
line_turn s m line = turn_at s m (event_of s line)

-- the member after some lines
unfoldable pub after : Setup → Member → List Line → Member
after s m [] = m
after s m (line ∷ lines) = after s (line_turn s m line).member lines

-- the records of the turns that some lines make
unfoldable pub records_of : Setup → Member → List Line → List Record
records_of s m [] = []
records_of s m (line ∷ lines) = stored_list (line_turn s m line).stored ++ records_of s (line_turn s m line).member lines

-- what a turn prints: its record, then the datagrams of what it sends
abbrev pub reacted_text : Setup → Reacted → List ℕ
reacted_text s t = turn_text t.stored (datagrams_of_all s t.sends)

-- what a line prints
unfoldable pub line_text : Setup → Member → Line → List ℕ
line_text s m line = reacted_text s (line_turn s m line)

-- what some lines print
unfoldable pub turns_text : Setup → Member → List Line → List ℕ
turns_text s m [] = []
turns_text s m (line ∷ lines) = line_text s m line ++ turns_text s (line_turn s m line).member lines

-- what one batch prints: the replies to those of its requests that the member answers
unfoldable pub batch_text : Setup → Member → List ℕ
batch_text s m = turn_text None (datagrams_of_all s (finished s m).sends)

-- what is printed until all that is committed is applied, in so many batches at most
unfoldable pub closing_text : Setup → ℕ → Member → List ℕ
closing_text s zero m = []
closing_text s (suc more) m =
    if m.applied == m.commit then [] else batch_text s m ++ closing_text s more (finished s m).member

-- what a member prints after the last line
abbrev pub last_text : Setup → Member → List ℕ
last_text s m = closing_text s (m.commit - m.applied) m

-- what a whole script prints
unfoldable pub script_text : Setup → List Line → List ℕ
script_text s lines = turns_text s beginning lines ++ last_text s (after s beginning lines)

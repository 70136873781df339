-- What a replica does in a loop: over what happens to it, turn after turn, what it becomes, stores and sends.
use Rattle.std.specs.Prelude.{◌≡◌, List, [], ◌++◌, fold, Option, Some, None}
use Rattle.r2_base.specs.declared.datagram.Datagram.{Datagram}
use Rattle.hc_log.specs.declared.record.Record.{Record}
use Rattle.hc_log.specs.Durable.{State, replay}
use Rattle.hc_member.specs.declared.setup.Setup.{Setup}
use Rattle.hc_member.specs.Finish.{finished}
use Rattle.hc_member.specs.Member.{Member, anew}
use Rattle.hc_member.specs.Sending.{datagrams_of_all}
use Rattle.hc_member.specs.Turn.{Reacted, turned}
use Rattle.cmd_loop.specs.Happenings.{Happening, Came, Closing}
use Rattle.cmd_loop.specs.Party.{records_of}

-- what is pending is finished, and nothing else is done
abbrev pub only_finished : Setup → Member → Reacted
only_finished s m = record { member = (finished s m).member; stored = None; sends = (finished s m).sends }

-- one turn. Where an event comes, it is a whole turn of the member: what is pending is finished, and then the event is reacted to.
-- After the end of the link nothing comes any more, and what is pending is finished
abbrev pub turn_at : Setup → Member → Happening → Reacted
turn_at s m (Came event) = turned s m event
turn_at s m Closing = only_finished s m

-- what turns came to: the member after them, the records that they stored, and the datagrams that they sent
pub record Served : Type 0 where
  pub member : Member
  pub stored : List Record
  pub sent : List Datagram

-- before any turn
abbrev pub unserved : Member → Served
unserved m = record { member = m; stored = []; sent = [] }

-- one turn more: its record and its datagrams come after the earlier ones
abbrev pub serve_one : Setup → Served → Happening → Served
serve_one s so_far happening =
    let turn = turn_at s so_far.member happening in
    record {
      member = turn.member;
      stored = so_far.stored ++ records_of turn.stored;
      sent = so_far.sent ++ datagrams_of_all s turn.sends;
    }

-- a member over all that happens
unfoldable pub served : Setup → Member → List Happening → Served
served s m happened = fold (serve_one s) (unserved m) happened

-- a replica of this group that begins with this durable state stores these records and sends these datagrams over what happens
abbrev pub ReplicaServes : Setup → State → List Happening → List Record → List Datagram → Type 0
ReplicaServes s d happened stored sent =
    (stored ≡ (served s (anew d) happened).stored) × (sent ≡ (served s (anew d) happened).sent)

-- all that a member knows to be committed is applied
abbrev pub HasAppliedAll : Member → Type 0
HasAppliedAll m = m.applied ≡ m.commit

-- and it leaves nothing unapplied that it knows to be committed
abbrev pub ReplicaServesAll : Setup → State → List Happening → List Record → List Datagram → Type 0
ReplicaServesAll s d happened stored sent =
    ReplicaServes s d happened stored sent × HasAppliedAll (served s (anew d) happened).member

-- where a journal tells its records, they lead to this durable state
abbrev pub LeadTo : Option (List Record) → State → Type 0
LeadTo (Some records) d = replay records ≡ d
LeadTo None d = Unit {0}

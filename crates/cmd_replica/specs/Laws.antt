-- What holds of every member that a loop leads to.
use Rattle.std.specs.Prelude.{◌≡◌, List, All, fold}
use Rattle.hc_log.specs.Durable.{IsValid, State, after}
use Rattle.hc_member.specs.declared.setup.Setup.{Setup}
use Rattle.hc_member.specs.Laws.{HasBytes}
use Rattle.hc_member.specs.Member.{anew, durable_of}
use Rattle.hc_member.specs.Setup.{IsSetup}
use Rattle.hc_member.specs.Sound.{IsSound}
use Rattle.cmd_loop.specs.Happenings.{Happening, Came, Closing}
use Rattle.cmd_replica.specs.Replica.{Served, served}

-- the bytes of an event that comes are bytes
abbrev pub HasHeardBytes : Happening → Type 0
HasHeardBytes (Came event) = HasBytes event
HasHeardBytes Closing = Unit {0}

-- the member after these turns is sound, and the records that they stored lead from this durable state to what it keeps over a crash
pub record AreRecorded (s : Setup) (d : State) (turns : Served) : Type 0 where
  pub sound : IsSound s turns.member
  pub leads : fold after d turns.stored ≡ durable_of turns.member

-- so it is over all that happens to a replica that begins with a valid durable state
abbrev pub RecordsLeadToTheMember : Type 0
RecordsLeadToTheMember =
    (s : Setup) (d : State) (happened : List Happening) → IsSetup s → IsValid d → All HasHeardBytes happened
    → AreRecorded s d (served s (anew d) happened)

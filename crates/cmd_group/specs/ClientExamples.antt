-- Clients at work: two of them ask a group, one after the other; and one is answered.
use Rattle.std.specs.Prelude.{ℕ, if◌then◌else◌, List, [], ◌∷◌, Some, None, codes}
use Rattle.r2_base.specs.Names.{same_addr}
use Rattle.r2_base.specs.declared.addr.Addr.{Addr}
use Rattle.r2_base.specs.declared.datagram.Datagram.{Datagram}
use Rattle.r2_base.specs.declared.event.Event.TheVariants as event
use Rattle.r2_client.specs.declared.call_end.CallEnd.TheVariants.{Reply as ByReply}
use Rattle.r2_header.specs.Policy.{replicated, replicated_read}
use Rattle.r2_link.specs.declared.lane.Item.TheVariants.{Datagram as ADatagram}
use Rattle.hc_member.specs.Worked.{client, get_a, put_a}
use Rattle.hc_rules.specs.Message.{Request}
use Rattle.hc_run.specs.Examples.{absent_payload, alone, answered_packet, asked_packet}
use Rattle.hc_run.specs.Group.{IsGroup}
use Rattle.hc_text.specs.End.{end_text}
use Rattle.hc_text.specs.declared.policy.Policy.TheVariants.{Replicated}
use Rattle.cmd_status.specs.declared.status.Status.TheVariants.{Done}
use Rattle.cmd_loop.specs.Ends.{Ends}
use Rattle.cmd_loop.specs.declared.pace.Pace.{Pace}
use Rattle.cmd_client.specs.Calls.{Calls}
use Rattle.cmd_client.specs.Talk.{Asked}
use Rattle.cmd_client.specs.declared.calling.Calling.{Calling}
use Rattle.cmd_group.specs.Answers.{BringSent}
use Rattle.cmd_group.specs.Asked.{AreInTheirOrder, AreItsOwn, AreNew, request_of_call, requests_of}
use Rattle.cmd_group.specs.Lives.{Life, Open}
use Rattle.cmd_group.specs.Loops.{AreLoops}
use Rattle.cmd_group.specs.Merge.{loops_after}
use Rattle.cmd_group.specs.Steps.{Step, Acts, Asks, Begins, Turns}

-- a second client
abbrev pub other : Addr
other = record { ip = 0x0A000008; port = 7001 }

abbrev pub get_call : Asked
get_call = record { policy = replicated_read; body = get_a }

abbrev pub put_call : Asked
put_call = record { policy = replicated; body = put_a }

-- the first client gets and then puts, the second gets
abbrev pub worked_calls : Addr → List Asked
worked_calls me = if same_addr client me then get_call ∷ put_call ∷ [] else (if same_addr other me then get_call ∷ [] else [])

-- the first's second request isn't sent yet
abbrev pub worked_requests : List Request
worked_requests = request_of_call client 0 get_call ∷ request_of_call other 0 get_call ∷ []

-- they keep their addresses apart, so that their requests are new, though both have the id 0
pub record IsWorkedAsking : Type 0 where
  pub order : AreInTheirOrder worked_calls worked_requests
  pub new : AreNew [] worked_requests

-- A client that is answered --

-- the only member of a group leads, is asked what a is, and answers that it isn't there
abbrev pub get_packet : Datagram
get_packet = record asked_packet { bytes = 0x52 ∷ 0x08 ∷ 0x03 ∷ 0xC0 ∷ 0x00 ∷ 0x00 ∷ 0x00 ∷ 0x01 ∷ get_a }

abbrev pub absent_packet : Datagram
absent_packet = record (answered_packet 2) { bytes = 0x52 ∷ 0x08 ∷ 0x13 ∷ 0xC0 ∷ 0x00 ∷ 0x00 ∷ 0x00 ∷ 0x01 ∷ absent_payload 2 }

abbrev pub answering_lives : ℕ → List Life
answering_lives v = record { records = []; events = event.Tick ∷ event.Datagram get_packet ∷ event.Quiet ∷ []; ending = Open } ∷ []

abbrev pub answering_steps : List Step
answering_steps =
    Acts 0 Begins
    ∷ Acts 0 (Turns event.Tick)
    ∷ Asks (request_of_call client 0 get_call)
    ∷ Acts 0 (Turns (event.Datagram get_packet))
    ∷ Acts 0 (Turns event.Quiet)
    ∷ []

-- the client's script is a line without an end, its link brings the answer, and it prints the answer's line
abbrev pub answered_calling : Calling
answered_calling = record { listen = client; to = alone.members; policy = Replicated; wait = 1; tries = 1 }

abbrev pub answered_pace : Pace
answered_pace = record { tick_ms = 10; turns = 9 }

abbrev pub before_call : Ends
before_call =
    record {
      source = Some (codes "get a");
      written = Some [];
      link = record { left = Some (ADatagram absent_packet ∷ []); sent = Some []; lanes = None; me = Some client };
      clock = Some (0 ∷ []);
      records = None;
    }

abbrev pub after_call : Ends
after_call =
    record {
      source = Some [];
      written = Some (end_text (ByReply (absent_payload 2)));
      link = record { left = Some []; sent = Some (get_packet ∷ []); lanes = None; me = Some client };
      clock = Some (0 ∷ []);
      records = None;
    }

-- the loops and the client are such as the law on answered calls speaks of
pub record IsWorkedCall : Type 0 where
  pub group : IsGroup alone
  pub loops : AreLoops alone answering_lives [] answering_steps
  pub calls : Calls answered_calling answered_pace before_call after_call Done
  pub brings : BringSent (loops_after alone answering_steps).sent client (ADatagram absent_packet ∷ [])
  pub own : AreItsOwn client (requests_of client 0 (get_call ∷ [])) answering_steps

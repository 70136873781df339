-- The answers that a client prints: of which replies they are, and what one thread replies that serves the list of the group.
use Rattle.std.specs.Prelude.{◌≡◌, ℕ, suc, ◌≤◌, List, [], ◌∷◌, ◌++◌, length, Some}
use Rattle.std.specs.Io.KnownBytes.{Appends}
use Rattle.r2_base.specs.Limits.{most_reply}
use Rattle.r2_base.specs.Names.{FitsRid}
use Rattle.r2_base.specs.declared.addr.Addr.{Addr}
use Rattle.r2_base.specs.declared.datagram.Datagram.{Datagram}
use Rattle.r2_base.specs.declared.event.Event.TheVariants as event
use Rattle.r2_base.specs.declared.rid.Rid.{Rid}
use Rattle.r2_client.specs.declared.call_end.CallEnd.{CallEnd}
use Rattle.r2_client.specs.declared.call_end.CallEnd.TheVariants.{Rejected, Reply as ByReply, TimedOut}
use Rattle.r2_link.specs.declared.lane.Item.{Item}
use Rattle.r2_link.specs.declared.lane.Item.TheVariants.{Datagram as ADatagram}
use Rattle.r2_link.specs.Links.{LinkPasses}
use Rattle.hc_log.specs.declared.stored.Stored.{Stored}
use Rattle.hc_rules.specs.Log.{In}
use Rattle.hc_rules.specs.Message.{Reply}
use Rattle.hc_run.specs.AsOne.{IsReplyOf}
use Rattle.hc_run.specs.Group.{Group, IsGroup}
use Rattle.hc_run.specs.OneList.{applied_list}
use Rattle.hc_run.specs.ReplyParts.{IsReplyPart, ReadsAsReply}
use Rattle.hc_run.specs.Runs.{run}
use Rattle.cmd_status.specs.declared.status.Status.{Status}
use Rattle.cmd_loop.specs.Ends.{Ends}
use Rattle.cmd_loop.specs.declared.pace.Pace.{Pace}
use Rattle.cmd_client.specs.Calls.{Calls}
use Rattle.cmd_client.specs.Talk.{ends_text}
use Rattle.cmd_client.specs.declared.calling.Calling.{Calling}
use Rattle.cmd_group.specs.AggregatorLoops.{AggregatorLife}
use Rattle.cmd_group.specs.Lives.{Life}
use Rattle.cmd_group.specs.Loops.{AreLoops, ServeAsOne}
use Rattle.cmd_group.specs.Merge.{IsTakenIn, loops_after}
use Rattle.cmd_group.specs.Steps.{Step}

-- What is printed --

-- between these moments of what is around a client these items came, and a prefix of the lines of these ends of calls was printed: all
-- of them, unless the run broke off
pub record Prints (old new : Ends) (came : List Item) (ends : List CallEnd) : Type 0 where
  pub sends : List Datagram
  pub passed : LinkPasses old.link new.link came sends
  pub text : List ℕ
  pub unprinted : List ℕ
  pub lines : ends_text ends ≡ text ++ unprinted
  pub printed : Appends old.written new.written text

-- a call ended, and where that was by a reply, its payload is as P has it of the call's request
abbrev pub EndsBy : (Rid → List ℕ → Type 0) → Rid → CallEnd → Type 0
EndsBy P rid (ByReply payload) = P rid payload
EndsBy P rid Rejected = Unit {0}
EndsBy P rid TimedOut = Unit {0}

-- so did a client's calls, one after another; their requests have this id and those after it
abbrev pub AllEndBy : (Rid → List ℕ → Type 0) → Addr → ℕ → List CallEnd → Type 0
AllEndBy P me id [] = Unit {0}
AllEndBy P me id (end ∷ more) = EndsBy P (record { id = id; client = me }) end × AllEndBy P me (suc id) more

-- Replies whose parts came --

-- a reply fits the packets that bring it
pub record FitsPackets (r : Reply) : Type 0 where
  pub request : FitsRid r.request
  pub payload : length r.payload ≤ most_reply

-- each of these replies does, and those to one request have one payload, whichever members made them
pub record SayOne (replied : List Reply) : Type 0 where
  pub fit : (r : Reply) → In r replied → FitsPackets r
  pub same : (r s : Reply) → In r replied → In s replied → r.request ≡ s.request → r.payload ≡ s.payload

-- each datagram that came to an address and reads as a part of a reply is a part of one of these
abbrev pub BringParts : Group → List Reply → Addr → List Item → Type 0
BringParts g replied me came = (d : Datagram) → In (ADatagram d) came → ReadsAsReply d → (d.to ≡ me) × IsReplyPart g replied d

-- the payload is that of one of these replies to the request
pub record IsPayloadOf (replied : List Reply) (rid : Rid) (payload : List ℕ) : Type 0 where
  pub reply : Reply
  pub there : In reply replied
  pub to : reply.request ≡ rid
  pub says : reply.payload ≡ payload

-- each line that a client prints for a reply shows the payload of one of the replies to the call's request, where only parts of such
-- replies came, though perhaps of several members' and in any order
pub record PrintsReplies (me : Addr) (old new : Ends) : Type 0 where
  pub came : List Item
  pub ends : List CallEnd
  pub prints : Prints old new came ends
  pub replies : (g : Group) (replied : List Reply) → SayOne replied → BringParts g replied me came → AllEndBy (IsPayloadOf replied) me 0 ends

-- so it is with each run of the client's command
abbrev pub ClientsPrintReplies : Type 0
ClientsPrintReplies =
    (calling : Calling) (pace : Pace) (old new : Ends) (status : Status) → Calls calling pace old new status → PrintsReplies calling.listen old new

-- One thread --

-- this is what one thread replies to a request, at the request's index of a list that it serves from its beginning
pub record IsOneThreads (list : List Stored) (rid : Rid) (payload : List ℕ) : Type 0 where
  pub reply : Reply
  pub to : reply.request ≡ rid
  pub says : reply.payload ≡ payload
  pub is : IsReplyOf list reply

-- each datagram that came to an address and reads as a part of a reply stands among those that were sent to it
abbrev pub BringSent : List Datagram → Addr → List Item → Type 0
BringSent sent me came = (d : Datagram) → In (ADatagram d) came → ReadsAsReply d → IsTakenIn sent (Some me) (event.Datagram d)

-- the loops of a group serve by one list, and each line that a client prints for a reply shows what one thread replies which serves that
-- list, where the replies that came to the client are such as the loops sent to it
pub record AnswersClient (g : Group) (lives : ℕ → List Life) (counting : List AggregatorLife) (steps : List Step) (me : Addr) (old new : Ends) : Type 0 where
  pub serve : ServeAsOne g lives counting steps
  pub came : List Item
  pub ends : List CallEnd
  pub prints : Prints old new came ends
  pub answers : BringSent (loops_after g steps).sent me came → AllEndBy (IsOneThreads (applied_list (run g serve.has.events))) me 0 ends

-- so it is with the loops of each group and each run of the client's command
abbrev pub LoopsAnswerClients : Type 0
LoopsAnswerClients =
    (g : Group) (lives : ℕ → List Life) (counting : List AggregatorLife) (steps : List Step) (calling : Calling) (pace : Pace) (old new : Ends) (status : Status)
    → IsGroup g → AreLoops g lives counting steps → Calls calling pace old new status
    → AnswersClient g lives counting steps calling.listen old new

-- The requests that a client's command sends to a group, when they are new to it, and their answers.
use Rattle.std.specs.Prelude.{◌≡◌, ℕ, suc, ◌==◌, ◌≤◌, if◌then◌else◌, List, [], ◌∷◌, ◌++◌, length, Some}
use Rattle.r2_base.specs.Limits.{id_limit, most_body}
use Rattle.r2_base.specs.Names.{FitsAddr, same_addr}
use Rattle.r2_base.specs.Numbers.{AreBytes}
use Rattle.r2_base.specs.declared.addr.Addr.{Addr}
use Rattle.r2_base.specs.declared.datagram.Datagram.{Datagram}
use Rattle.r2_base.specs.declared.entry.Kind.{Kind}
use Rattle.r2_base.specs.declared.entry.Kind.TheVariants.{Read, Write}
use Rattle.r2_base.specs.declared.rid.Rid.{Rid}
use Rattle.r2_client.specs.declared.call_end.CallEnd.{CallEnd}
use Rattle.r2_header.specs.Policy.{replicated_read}
use Rattle.r2_link.specs.declared.lane.Item.{Item}
use Rattle.hc_log.specs.declared.stored.Stored.{Stored}
use Rattle.hc_log.specs.Log.{stored_at}
use Rattle.hc_service.specs.Entries.{operations}
use Rattle.hc_store.specs.Replies.{reply_at}
use Rattle.hc_text.specs.declared.policy.Policy.{Policy}
use Rattle.hc_text.specs.declared.policy.Policy.TheVariants.{Replicated}
use Rattle.hc_rules.specs.Log.{In}
use Rattle.hc_rules.specs.Message.{Request}
use Rattle.hc_run.specs.Events.{IsNew}
use Rattle.hc_run.specs.Group.{Group, IsGroup}
use Rattle.hc_run.specs.OneList.{applied_list}
use Rattle.hc_run.specs.Runs.{run}
use Rattle.hc_run.specs.Steps.{request_parts}
use Rattle.cmd_status.specs.declared.status.Status.{Status}
use Rattle.cmd_loop.specs.Ends.{Ends}
use Rattle.cmd_loop.specs.declared.pace.Pace.{Pace}
use Rattle.cmd_client.specs.Calls.{Calls}
use Rattle.cmd_client.specs.Script.{AsksFor}
use Rattle.cmd_client.specs.Talk.{Asked}
use Rattle.cmd_client.specs.declared.calling.Calling.{Calling}
use Rattle.cmd_group.specs.AggregatorLoops.{AggregatorLife}
use Rattle.cmd_group.specs.Answers.{AllEndBy, BringSent, Prints}
use Rattle.cmd_group.specs.Lives.{Life}
use Rattle.cmd_group.specs.Loops.{AreLoops, ServeAsOne}
use Rattle.cmd_group.specs.Merge.{loops_after}
use Rattle.cmd_group.specs.Steps.{Step, asked_in}

-- Requests of calls --

-- under REPLICATED_READ a call only reads, else it writes
abbrev pub kind_of : ℕ → Kind
kind_of policy = if policy == replicated_read then Read else Write

-- the request of a client's call, with this id
abbrev pub request_of_call : Addr → ℕ → Asked → Request
request_of_call me id call = record { rid = record { id = id; client = me }; kind = kind_of call.policy; body = call.body }

-- and those of calls one after another, with this id and those after it
abbrev pub requests_of : Addr → ℕ → List Asked → List Request
requests_of me id [] = []
requests_of me id (call ∷ more) = request_of_call me id call ∷ requests_of me (suc id) more

-- What is sent --

-- a call is asked for by a line
pub record IsAsked (policy : Policy) (call : Asked) : Type 0 where
  pub line : List ℕ
  pub asks : AsksFor policy line call

-- a datagram is a part of one of these requests, as that goes to each member of the group
pub record IsPartOfOne (g : Group) (requests : List Request) (d : Datagram) : Type 0 where
  pub request : Request
  pub there : In request requests
  pub part : In d (request_parts g request)

-- a client's run asked these calls of its script, over which these items came and the lines of these ends were printed, and sent only
-- parts of their requests
pub record AsksItsGroup (g : Group) (policy : Policy) (me : Addr) (old new : Ends) : Type 0 where
  pub calls : List Asked
  pub asked : (call : Asked) → In call calls → IsAsked policy call
  pub came : List Item
  pub ends : List CallEnd
  pub prints : Prints old new came ends
  pub each : (d : Datagram) → In d prints.sends → IsPartOfOne g (requests_of me 0 calls) d

-- so it is with each run of the client's command whose words name the members of a group
abbrev pub ClientsAskTheirGroup : Type 0
ClientsAskTheirGroup =
    (g : Group) (calling : Calling) (pace : Pace) (old new : Ends) (status : Status) → calling.policy ≡ Replicated → calling.to ≡ g.members
    → Calls calling pace old new status → AsksItsGroup g calling.policy calling.listen old new

-- Answers to calls --

-- this is what one thread replies to the request with this id, which is one of these, where it serves the list from its beginning: the
-- entry at some index is the request, with its kind and its body
pub record AnswersOne (list : List Stored) (requests : List Request) (rid : Rid) (payload : List ℕ) : Type 0 where
  pub request : Request
  pub there : In request requests
  pub named : request.rid ≡ rid
  pub index : ℕ
  pub first : 1 ≤ index
  pub within : index ≤ length list
  pub kind : (stored_at list index).entry.kind ≡ request.kind
  pub body : (stored_at list index).body ≡ request.body
  pub right : reply_at (operations list) index ≡ Some payload

-- a client's address is its own: the requests of the steps that have it are among these
abbrev pub AreItsOwn : Addr → List Request → List Step → Type 0
AreItsOwn me requests steps = (q : Request) → In q (asked_in steps) → q.rid.client ≡ me → In q requests

-- the loops of a group serve by one list, and each line that a client prints for a reply shows what one thread replies which serves that
-- list to the request of that very call, where the replies that came to the client are such as the loops sent to it, and no other asks
-- under its address
pub record AnswersCalls (g : Group) (lives : ℕ → List Life) (counting : List AggregatorLife) (steps : List Step) (policy : Policy) (me : Addr) (old new : Ends) : Type 0 where
  pub serve : ServeAsOne g lives counting steps
  pub asks : AsksItsGroup g policy me old new
  pub answers : BringSent (loops_after g steps).sent me asks.came → AreItsOwn me (requests_of me 0 asks.calls) steps
      → AllEndBy (AnswersOne (applied_list (run g serve.has.events)) (requests_of me 0 asks.calls)) me 0 asks.ends

-- so it is with the loops of each group and each run of the client's command whose words name the group's members
abbrev pub LoopsAnswerCalls : Type 0
LoopsAnswerCalls =
    (g : Group) (lives : ℕ → List Life) (counting : List AggregatorLife) (steps : List Step) (calling : Calling) (pace : Pace) (old new : Ends) (status : Status)
    → IsGroup g → AreLoops g lives counting steps → calling.policy ≡ Replicated → calling.to ≡ g.members → Calls calling pace old new status
    → AnswersCalls g lives counting steps calling.policy calling.listen old new

-- New requests --

-- a call may be made from an address: that fits the headers, and the body is short enough
pub record IsCallFrom (me : Addr) (call : Asked) : Type 0 where
  pub fits : FitsAddr me
  pub short : length call.body ≤ most_body
  pub bytes : AreBytes call.body

-- and so may each of these, of which there are no more than ids
pub record MayBeMade (me : Addr) (calls : List Asked) : Type 0 where
  pub few : length calls ≤ id_limit
  pub each : (call : Asked) → In call calls → IsCallFrom me call

-- those of the requests that a client asks
abbrev pub of_client : Addr → List Request → List Request
of_client me [] = []
of_client me (q ∷ more) = if same_addr q.rid.client me then q ∷ of_client me more else of_client me more

-- the clients of these requests have addresses of their own, and each asks the first of its calls' requests, in their order
pub record AreInTheirOrder (calls : Addr → List Asked) (requests : List Request) : Type 0 where
  pub may : (me : Addr) → MayBeMade me (calls me)
  pub unasked : Addr → List Request
  pub order : (me : Addr) → requests_of me 0 (calls me) ≡ of_client me requests ++ unasked me

-- each request is new after those before it
abbrev pub AreNew : List Request → List Request → Type 0
AreNew table [] = Unit {0}
AreNew table (q ∷ more) = IsNew table q × AreNew (table ++ q ∷ []) more

-- so clients that keep their addresses apart may ask, whatever else happens between
abbrev pub ClientsMayAsk : Type 0
ClientsMayAsk = (calls : Addr → List Asked) (requests : List Request) → AreInTheirOrder calls requests → AreNew [] requests

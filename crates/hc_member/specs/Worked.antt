-- The words of the worked conversations: a group of three, requests of one client, and what a member does in a turn.
use Rattle.std.specs.Prelude.{◌≡◌, ◌+◌, ℕ, true, false, List, [], ◌∷◌, Option, Some, None}
use Rattle.r2_base.specs.declared.addr.Addr.{Addr}
use Rattle.r2_base.specs.declared.rid.Rid.{Rid}
use Rattle.r2_base.specs.declared.entry.Kind.{Kind}
use Rattle.r2_base.specs.declared.entry.Kind.TheVariants.{Write, Read}
use Rattle.r2_base.specs.declared.entry.Entry.{Entry}
use Rattle.r2_base.specs.Entry.{blank_entry}
use Rattle.hc_log.specs.declared.stored.Stored.{Stored}
use Rattle.hc_log.specs.declared.record.Record.{Record}
use Rattle.hc_pool.specs.declared.request.Request.{Request}
use Rattle.hc_message.specs.declared.msg.Msg.{Msg}
use Rattle.hc_message.specs.declared.msg.Msg.TheVariants.{Vote, Order}
use Rattle.hc_member.specs.declared.setup.Setup.{Setup}
use Rattle.hc_member.specs.declared.heard.Heard.{Heard}
use Rattle.hc_member.specs.declared.heard.Heard.TheVariants.{Told, Time}
use Rattle.hc_member.specs.Finish.{finished}
use Rattle.hc_member.specs.Member.{Member, beginning}
use Rattle.hc_member.specs.Sending.{Sending, Tell}
use Rattle.hc_member.specs.Turn.{Reacted, reacted_to}

abbrev pub address : ℕ → Addr
address number = record { ip = 0x0A000000 + number; port = 9000 }

-- a group of three, by the member itself, the bounds and the election
abbrev pub group : ℕ → List ℕ → ℕ → Setup
group me bounds election =
    record {
      members = address 1 ∷ address 2 ∷ address 3 ∷ [];
      me = me;
      aggregator = None;
      bounds = bounds;
      election = election;
    }

abbrev pub client : Addr
client = record { ip = 0x0A000009; port = 7001 }

abbrev pub rid : ℕ → Rid
rid id = record { id = id; client = client }

-- a request to read the key a, and one to give it an empty value
abbrev pub get_a : List ℕ
get_a = 0x47 ∷ 0 ∷ 1 ∷ 0x61 ∷ []

abbrev pub put_a : List ℕ
put_a = 0x50 ∷ 0 ∷ 1 ∷ 0x61 ∷ []

abbrev pub reads : ℕ → Request
reads id = record { rid = rid id; kind = Read; body = get_a }

abbrev pub writes : ℕ → Request
writes id = record { rid = rid id; kind = Write; body = put_a }

-- an entry of the first term
abbrev pub entry : Kind → ℕ → ℕ → Entry
entry kind id replier = record { term = 1; kind = kind; rid = rid id; replier = replier }

abbrev pub stored : Kind → ℕ → ℕ → List ℕ → Stored
stored kind id replier body = record { entry = entry kind id replier; body = body }

-- the reaction of a member after it finished what was pending
abbrev pub reacts : Setup → Member → Heard → Reacted
reacts s m said = reacted_to s (finished s m).member said

-- and the member after it
abbrev pub next : Setup → Member → Heard → Member
next s m said = (reacts s m said).member

-- what a reaction stores and sends
pub record Does (r : Reacted) (stores : Option Record) (sends : List Sending) : Type 0 where
  pub stored : r.stored ≡ stores
  pub sent : r.sends ≡ sends

-- a record of the first term
abbrev pub record_of : Option ℕ → ℕ → List Stored → Option Record
record_of vote keep entries = Some (record { term = 1; vote = vote; keep = keep; entries = entries })

-- a follower of the first term
abbrev pub second : Setup
second = group 1 (64 ∷ 64 ∷ 64 ∷ []) 10

-- each member may have one request to answer
abbrev pub ones : List ℕ
ones = 1 ∷ 1 ∷ 1 ∷ []

-- the first member, which stands for election at its first tick
abbrev pub first : List ℕ → Setup
first bounds = group 0 bounds 1

abbrev pub candidate : List ℕ → Member
candidate bounds = next (first bounds) beginning Time

abbrev pub leader : List ℕ → Member
leader bounds = next (first bounds) (candidate bounds) (Told (address 2) (Vote 1 1 true))

-- what the first member, as the leader of the first term, tells each other one
abbrev pub to_both : Msg → List Sending
to_both message = Tell (address 2) message ∷ Tell (address 3) message ∷ []

-- an Order of that leader, with nothing committed
abbrev pub ordered : ℕ → ℕ → List Entry → Msg
ordered index term entries = Order 1 0 index term 1 0 false entries

-- a leader of the second term whose log is another one
abbrev pub other_ordered : Heard
other_ordered = Told (address 3) (Order 2 2 0 0 1 0 false (blank_entry 2 ∷ []))

abbrev pub follower : Member
follower = next second beginning (Told (address 1) (Order 1 0 0 0 1 0 false (blank_entry 1 ∷ [])))

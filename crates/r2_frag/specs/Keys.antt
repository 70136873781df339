-- Keys: when two are the same, and which one a datagram's header gives.
use Rattle.std.specs.Prelude.{◌==◌, ◌&&◌, Bool, true, false, Option, Some, None, option_map}
use Rattle.r2_base.specs.declared.addr.Addr.{Addr}
use Rattle.r2_base.specs.Names.{same_addr, same_rid}
use Rattle.r2_header.specs.declared.header.Header.{Header}
use Rattle.r2_header.specs.declared.packet.Packet.{Packet}
use Rattle.r2_header.specs.declared.packet.Packet.TheVariants as packet
use Rattle.r2_frag.specs.declared.class.Class.{Class}
use Rattle.r2_frag.specs.declared.class.Class.TheVariants.{Request, Reply, Recover}
use Rattle.r2_frag.specs.declared.key.Key.{Key}

-- whether two classes are the same
abbrev pub same_class : Class → Class → Bool
same_class Request Request = true
same_class Reply Reply = true
same_class Recover Recover = true
same_class _ _ = false

-- whether two keys are the same
unfoldable pub same_key : Key → Key → Bool
same_key a b = same_class a.class b.class && (a.policy == b.policy) && same_addr a.from b.from && same_rid a.rid b.rid

-- the class of a packet that may be a part of several
abbrev pub class_of : Packet → Option Class
class_of packet.Req0 = Some Request
class_of packet.ReqN = Some Request
class_of packet.Reply = Some Reply
class_of packet.Recover = Some Recover
class_of packet.ReqRdy = None
class_of packet.Feedback = None
class_of packet.Reject = None
class_of packet.Ordering = None

-- the client of a packet: the address that it carries, else the receiver of a reply, else the sender
abbrev pub client_of : Option Addr → Class → Addr → Addr → Addr
client_of (Some a) class from to = a
client_of None Reply from to = to
client_of None Request from to = from
client_of None Recover from to = from

-- whom a key names: the client of a request, else the sender
abbrev pub sender_of : Class → Addr → Addr → Addr
sender_of Request client from = client
sender_of Reply client from = from
sender_of Recover client from = from

-- the key of a message of this class between two addresses
abbrev pub key_between : Header → Addr → Addr → Class → Key
key_between h from to class =
    let client = client_of h.client class from to in
    record {
      class = class;
      policy = h.policy;
      from = sender_of class client from;
      rid = record { id = h.id; client = client };
    }

-- the key of a datagram with this header, where its packet may be a part of several
unfoldable pub key_at : Addr → Addr → Header → Option Key
key_at from to h = option_map (key_between h from to) (class_of h.packet)

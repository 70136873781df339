-- What a server sends besides replies: the call for the rest of a request, and the word to the router.
use Rattle.std.specs.Prelude.{◌==◌, if◌then◌else◌, List, [], ◌∷◌, Option, Some, None}
use Rattle.r2_base.specs.declared.addr.Addr.{Addr}
use Rattle.r2_base.specs.declared.datagram.Datagram.{Datagram}
use Rattle.r2_base.specs.declared.rid.Rid.{Rid}
use Rattle.r2_header.specs.declared.packet.Packet.TheVariants as packet
use Rattle.r2_header.specs.Header.{one_part_header}
use Rattle.r2_header.specs.Notices.{notice}
use Rattle.r2_header.specs.Policy.{jbsq}
use Rattle.r2_frag.specs.declared.key.Key.{Key}

-- the client is called on to send the other parts of its request
unfoldable pub ready : Addr → Key → Datagram
ready me key = notice me key.rid.client (one_part_header packet.ReqRdy key.policy key.rid.id None)

-- the router, where there is one, is told that the server is done with a request
unfoldable pub feedback : Addr → Option Addr → Rid → List Datagram
feedback me (Some router) rid = notice me router (one_part_header packet.Feedback jbsq rid.id (Some rid.client)) ∷ []
feedback me None rid = []

-- only requests under the router's policy come by the router
abbrev pub feedback_for : Addr → Option Addr → Key → List Datagram
feedback_for me router key = if key.policy == jbsq then feedback me router key.rid else []

-- Replies in parts.
use Rattle.std.specs.Prelude.{ℕ, ◌≤◌, false, List, length}
use Rattle.r2_base.specs.Limits.{most_reply}
use Rattle.r2_base.specs.declared.addr.Addr.{Addr}
use Rattle.r2_base.specs.declared.datagram.Datagram.{Datagram}
use Rattle.r2_base.specs.declared.rid.Rid.{Rid}
use Rattle.r2_header.specs.Policy.{replicated_read}
use Rattle.r2_frag.specs.declared.class.Class.TheVariants.{Reply}
use Rattle.r2_frag.specs.declared.kept.KeptReply.{KeptReply}
use Rattle.r2_frag.specs.declared.part_spec.PartSpec.{PartSpec}
use Rattle.r2_frag.specs.Parts.{parts_of}

-- what the datagrams of a reply to a request have in common: they go to the client
abbrev pub reply_spec : Addr → Rid → ℕ → PartSpec
reply_spec from rid policy =
    record {
      key = record { class = Reply; policy = policy; from = from; rid = rid };
      from = from;
      to = rid.client;
      extended = false;
    }

-- the datagrams of a reply
unfoldable pub reply_parts : Addr → Rid → ℕ → List ℕ → List Datagram
reply_parts from rid policy payload = parts_of (reply_spec from rid policy) payload

-- a reply that is kept may be sent again: its policy is one that there is, and its payload is within its limit
pub record IsReply (reply : KeptReply) : Type 0 where
  pub policy : reply.policy ≤ replicated_read
  pub payload : length reply.payload ≤ most_reply

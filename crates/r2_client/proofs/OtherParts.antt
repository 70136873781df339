-- When a request has other parts, and when they can be called for.
use Rattle.std.proofs.Common.{◌≡◌, ◌≤◌, ℕ, Bool, true, false, refl, arith}
use Rattle.std.specs.Prelude.{is_some}
use Rattle.r2_header.specs.declared.packet.Packet.{Packet}
use Rattle.r2_header.specs.declared.packet.Packet.TheVariants as packet
use Rattle.r2_header.specs.Span.{IsWithin}
use Rattle.r2_header.specs.Table.{policies}
use Rattle.r2_frag.proofs.PartLaws.{short_body_is_one_part}
use Rattle.r2_client.specs.Laws.{OnePartHasNoOthers, OnlyPlainPoliciesCall}
use Rattle.r2_client.specs.Sendings.{later_parts_to, request_spec, request_to}

pub no_others : OnePartHasNoOthers
unfolding later_parts_to request_to
no_others me call to few = rw (short_body_is_one_part (request_spec me call to) call.body few) refl

plain : (p : Packet) (carried : Bool) (policy : ℕ) → p ≡ packet.ReqRdy → IsWithin (policies p carried) policy → policy ≤ 1
plain packet.ReqRdy true policy e is = omega (arith, is.low, is.high)
plain packet.ReqRdy false policy e is = is.high
plain packet.Req0 carried policy e is = cc
plain packet.ReqN carried policy e is = cc
plain packet.Reply carried policy e is = cc
plain packet.Feedback carried policy e is = cc
plain packet.Reject carried policy e is = cc
plain packet.Ordering carried policy e is = cc
plain packet.Recover carried policy e is = cc

pub only_plain : OnlyPlainPoliciesCall
only_plain h valid e = plain h.packet (is_some h.client) h.policy e valid.policy

-- What a client sends for a call.
use Rattle.std.specs.Prelude.{false, nat_le, if◌then◌else◌, List, take, drop}
use Rattle.std.specs.List.{flat_map}
use Rattle.r2_base.specs.declared.addr.Addr.{Addr}
use Rattle.r2_base.specs.declared.datagram.Datagram.{Datagram}
use Rattle.r2_header.specs.Policy.{jbsq}
use Rattle.r2_frag.specs.declared.class.Class.TheVariants.{Request}
use Rattle.r2_frag.specs.declared.part_spec.PartSpec.{PartSpec}
use Rattle.r2_frag.specs.Parts.{parts_of}
use Rattle.r2_client.specs.declared.open_call.OpenCall.{OpenCall}

-- what the datagrams of a call's request to one address have in common
abbrev pub request_spec : Addr → OpenCall → Addr → PartSpec
request_spec me call to =
    record {
      key = record { class = Request; policy = call.policy; from = me; rid = record { id = call.id; client = me } };
      from = me;
      to = to;
      extended = false;
    }

-- the parts of a call's request, in datagrams to one address
unfoldable pub request_to : Addr → OpenCall → Addr → List Datagram
request_to me call to = parts_of (request_spec me call to) call.body

-- the first part of a request
unfoldable pub first_part_to : Addr → OpenCall → Addr → List Datagram
first_part_to me call to = take 1 (request_to me call to)

-- the parts of a request from the second on
unfoldable pub later_parts_to : Addr → OpenCall → Addr → List Datagram
later_parts_to me call to = drop 1 (request_to me call to)

-- a request is sent: under FIXED or JBSQ the first part to the first target, else all parts to each target in turn
unfoldable pub sending : Addr → List Addr → OpenCall → List Datagram
sending me targets call =
    if nat_le call.policy jbsq then flat_map (first_part_to me call) (take 1 targets) else flat_map (request_to me call) targets

-- The types of packets: the number of each, its policies, and its flags and numbers.
use Rattle.std.specs.Prelude.{ℕ, Bool, true, false}
use Rattle.r2_header.specs.declared.packet.Packet.{Packet}
use Rattle.r2_header.specs.declared.packet.Packet.TheVariants.{Req0, Reply, ReqRdy, ReqN, Feedback, Reject, Ordering, Recover}
use Rattle.r2_header.specs.declared.span.Span.{Span}
use Rattle.r2_header.specs.Policy.{fixed, jbsq, replicated, replicated_read}
use Rattle.r2_header.specs.Span.{from_to, no_number}

-- the number of a type
abbrev pub type_number : Packet → ℕ
type_number Req0 = 0
type_number Reply = 1
type_number ReqRdy = 2
type_number ReqN = 3
type_number Feedback = 4
type_number Reject = 5
type_number Ordering = 6
type_number Recover = 7

-- the policies that a type has without the client's address
abbrev pub policies_without_client : Packet → Span
policies_without_client Req0 = from_to fixed replicated_read
policies_without_client Reply = from_to fixed replicated_read
policies_without_client ReqRdy = from_to fixed jbsq
policies_without_client ReqN = from_to fixed replicated_read
policies_without_client Feedback = no_number
policies_without_client Reject = from_to jbsq replicated_read
policies_without_client Ordering = from_to replicated replicated
policies_without_client Recover = no_number

-- the policies that a type has with the client's address
abbrev pub policies_with_client : Packet → Span
policies_with_client Req0 = from_to jbsq replicated_read
policies_with_client Reply = no_number
policies_with_client ReqRdy = no_number
policies_with_client ReqN = from_to replicated replicated_read
policies_with_client Feedback = from_to jbsq replicated_read
policies_with_client Reject = no_number
policies_with_client Ordering = no_number
policies_with_client Recover = from_to replicated replicated

-- the counts of parts that a type has in a first part
abbrev pub first_counts : Packet → Span
first_counts Req0 = from_to 1 60
first_counts Reply = from_to 1 64
first_counts ReqRdy = from_to 1 1
first_counts ReqN = no_number
first_counts Feedback = from_to 1 1
first_counts Reject = from_to 1 1
first_counts Ordering = from_to 1 1
first_counts Recover = from_to 1 64

-- the numbers of parts that a type has in a part after the first
abbrev pub later_numbers : Packet → Span
later_numbers Req0 = no_number
later_numbers Reply = from_to 1 63
later_numbers ReqRdy = no_number
later_numbers ReqN = from_to 1 59
later_numbers Feedback = no_number
later_numbers Reject = no_number
later_numbers Ordering = no_number
later_numbers Recover = from_to 1 63

-- the policies of a type, with the client's address or without
abbrev pub policies : Packet → Bool → Span
policies packet true = policies_with_client packet
policies packet false = policies_without_client packet

-- the counts or numbers of a type, in a first part or after it
abbrev pub numbers : Packet → Bool → Span
numbers packet true = first_counts packet
numbers packet false = later_numbers packet

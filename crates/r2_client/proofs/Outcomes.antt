-- What a datagram or a tick may come to.
use Rattle.std.proofs.Common.{◌≡◌, ℕ, Bool, true, false, if◌then◌else◌, List, [], drop, Option, Some, None, Result, Ok, Err, refl}
use Rattle.r2_base.specs.declared.datagram.Datagram.{Datagram}
use Rattle.r2_header.specs.declared.header.Header.{Header}
use Rattle.r2_header.specs.declared.header_fault.HeaderFault.{HeaderFault}
use Rattle.r2_header.specs.declared.packet.Packet.{Packet}
use Rattle.r2_header.specs.declared.packet.Packet.TheVariants as packet
use Rattle.r2_header.specs.Reading.{header_at}
use Rattle.r2_frag.specs.declared.added.Added.{Added}
use Rattle.r2_frag.specs.declared.added.Added.TheVariants.{Bad, Dropped, More, Repeat, Whole}
use Rattle.r2_frag.specs.declared.key.Key.{Key}
use Rattle.r2_frag.specs.declared.unfinished.Unfinished.{Unfinished}
use Rattle.r2_frag.specs.Assembly.{added}
use Rattle.r2_frag.specs.Keys.{key_at}
use Rattle.r2_client.specs.declared.call_end.CallEnd.TheVariants.{Rejected, Reply}
use Rattle.r2_client.specs.declared.open_call.OpenCall.{OpenCall}
use Rattle.r2_client.specs.Sendings.{later_parts_to}
use Rattle.r2_client.specs.Session.{Stepped, by_answer, by_packet, ended, is_for, part_added, received, received_as, received_by, reply_part, sent, unchanged}
use Rattle.r2_client.specs.State.{SessionState}

-- what holds of each branch holds of the choice
pub branch : {X : Type 0} (P : X → Type 0) (b : Bool) (x y : X) → (b ≡ true → P x) → (b ≡ false → P y) → P (if b then x else y)
branch P true x y left right = left refl
branch P false x y left right = right refl

-- something is sent or nothing, or a reply or a rejection ends the call; only messages that aren't whole change besides
pub record Outcomes (P : Stepped → Type 0) (s : SessionState) : Type 0 where
  pub sent : (unfinished : List Unfinished) (sends : List Datagram) → P (sent (record s { unfinished = unfinished }) sends)
  pub replied : (unfinished : List Unfinished) (body : List ℕ) → P (ended (record s { unfinished = unfinished }) (Reply body))
  pub rejected : P (ended s Rejected)

answered : (P : Stepped → Type 0) (s : SessionState) (unfinished : List Unfinished) (answer : Added) → Outcomes P s → P (by_answer (record s { unfinished = unfinished }) answer)
answered P s unfinished (Whole body) o = o.replied unfinished body
answered P s unfinished More o = o.sent unfinished []
answered P s unfinished Repeat o = o.sent unfinished []
answered P s unfinished (Bad why) o = o.sent unfinished []
answered P s unfinished (Dropped key) o = o.sent unfinished []

part : (P : Stepped → Type 0) (s : SessionState) (h : Header) (payload : List ℕ) (key : Option Key) → Outcomes P s → P (reply_part s h payload key)
unfolding part_added
part P s h payload (Some key) o = answered P s (added s.unfinished key h payload).1 (added s.unfinished key h payload).0 o
part P s h payload None o = o.sent s.unfinished []

taken : (P : Stepped → Type 0) (s : SessionState) (call : OpenCall) (d : Datagram) (h : Header) (payload : List ℕ) (p : Packet) → Outcomes P s → P (by_packet s call d h payload p)
taken P s call d h payload packet.ReqRdy o = o.sent s.unfinished (later_parts_to s.me call d.from)
taken P s call d h payload packet.Reply o = part P s h payload (key_at d.from d.to h) o
taken P s call d h payload packet.Reject o = o.rejected
taken P s call d h payload packet.Req0 o = o.sent s.unfinished []
taken P s call d h payload packet.ReqN o = o.sent s.unfinished []
taken P s call d h payload packet.Feedback o = o.sent s.unfinished []
taken P s call d h payload packet.Ordering o = o.sent s.unfinished []
taken P s call d h payload packet.Recover o = o.sent s.unfinished []

read : (P : Stepped → Type 0) (s : SessionState) (d : Datagram) (call : OpenCall) (r : Result (Header × ℕ) HeaderFault) → Outcomes P s → P (received_as s d call r)
read P s d call (Ok (h, size)) o =
    branch P (is_for call h) (by_packet s call d h (drop size d.bytes) h.packet) (unchanged s)
    (λ e. taken P s call d h (drop size d.bytes) h.packet o) (λ e. o.sent s.unfinished [])
read P s d call (Err fault) o = o.sent s.unfinished []

by_call : (P : Stepped → Type 0) (s : SessionState) (d : Datagram) (call : Option OpenCall) → Outcomes P s → P (received_by s d call)
by_call P s d (Some call) o = read P s d call (header_at d.bytes) o
by_call P s d None o = o.sent s.unfinished []

-- what holds of each outcome holds of a datagram
pub outcome : (P : Stepped → Type 0) (s : SessionState) (d : Datagram) → Outcomes P s → P (received s d)
unfolding received
outcome P s d o = by_call P s d s.open_call o

-- The events of which a server takes nothing up.
use Rattle.std.specs.Prelude.{◌≡◌, ◌⊎◌, ℕ, false, List, drop, Option, Some, None, Result, Ok, Err}
use Rattle.r2_base.specs.declared.addr.Addr.{Addr}
use Rattle.r2_base.specs.declared.datagram.Datagram.{Datagram}
use Rattle.r2_base.specs.declared.event.Event.{Event}
use Rattle.r2_base.specs.declared.event.Event.TheVariants.{Datagram as DatagramEvent, Tick, Quiet}
use Rattle.r2_header.specs.declared.header.Header.{Header}
use Rattle.r2_header.specs.declared.header_fault.HeaderFault.{HeaderFault}
use Rattle.r2_header.specs.Reading.{header_at}
use Rattle.r2_frag.specs.declared.added.Added.TheVariants.{Bad}
use Rattle.r2_frag.specs.declared.added.Why.{Why}
use Rattle.r2_frag.specs.declared.key.Key.{Key}
use Rattle.r2_frag.specs.Assembly.{refused as refused_by}
use Rattle.r2_frag.specs.Kept.{newest}
use Rattle.r2_frag.specs.Keys.{key_at}
use Rattle.r2_server.specs.State.{ServerState}
use Rattle.r2_server.specs.Turn.{is_taken}

-- a part of a request to which no reply is kept, that is too long or too short, or contradicts the parts that came
pub record IsBadPart (s : ServerState) (h : Header) (payload : List ℕ) (key : Key) : Type 0 where
  pub new : newest key.rid s.kept ≡ None
  pub why : Why
  pub refused : refused_by s.unfinished key h payload ≡ Some (Bad why)

-- a packet that is no part of a message, or that the server doesn't take from this address, or such a part
abbrev pub IsIgnoredPart : ServerState → Addr → Header → List ℕ → Option Key → Type 0
IsIgnoredPart s from h payload None = Unit {0}
IsIgnoredPart s from h payload (Some key) = (is_taken s.router from h h.packet ≡ false) ⊎ IsBadPart s h payload key

-- bytes that read so: no header, or that of such a packet
abbrev pub IsIgnoredAs : ServerState → Datagram → Result (Header × ℕ) HeaderFault → Type 0
IsIgnoredAs s d (Err fault) = Unit {0}
IsIgnoredAs s d (Ok (h, size)) = IsIgnoredPart s d.from h (drop size d.bytes) (key_at d.from d.to h)

-- nothing came, or such a datagram
abbrev pub IsIgnored : ServerState → Event → Type 0
IsIgnored s (DatagramEvent d) = IsIgnoredAs s d (header_at d.bytes)
IsIgnored s Tick = ⊥
IsIgnored s Quiet = Unit {0}

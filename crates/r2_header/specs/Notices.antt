-- Packets without a payload.
use Rattle.r2_base.specs.declared.addr.Addr.{Addr}
use Rattle.r2_base.specs.declared.datagram.Datagram.{Datagram}
use Rattle.r2_header.specs.declared.header.Header.{Header}
use Rattle.r2_header.specs.Header.{spelling}

-- the datagram of a packet without a payload: the bytes of its header
abbrev pub notice : Addr → Addr → Header → Datagram
notice from to h = record { from = from; to = to; bytes = spelling h }

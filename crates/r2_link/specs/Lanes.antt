-- What a link hands over, and why it doesn't.
use Rattle.std.specs.Prelude.{Bool, true, false, ℕ, ◌≤◌, length, ⊤}
use Rattle.r2_link.specs.declared.link.Got.{Got}
use Rattle.r2_link.specs.declared.link.Got.TheVariants.{Datagram as GotDatagram, Quiet as GotQuiet, End}
use Rattle.r2_link.specs.declared.link.LinkFault.{LinkFault}
use Rattle.r2_link.specs.declared.link.LinkFault.TheVariants.{Failed, Memory}

-- how many bytes of a datagram a socket hands over
abbrev pub most_datagram : ℕ
most_datagram = 2048

-- a datagram of at most n bytes came, or none, but not the end
abbrev pub BringsAtMost : ℕ → Got → Type 0
BringsAtMost n (GotDatagram d) = length d.bytes ≤ n
BringsAtMost n GotQuiet = ⊤
BringsAtMost n End = ⊥

-- the link failed, rather than that memory ran out
abbrev pub IsFault : LinkFault → Type 0
IsFault Failed = ⊤
IsFault Memory = ⊥

-- whether the link failed
abbrev pub is_fault : LinkFault → Bool
is_fault Failed = true
is_fault Memory = false

use Rattle.std.proofs.Common.{◌≡◌, ◌++◌, take}
use Rattle.hc_aggregate.specs.Turn.{datagrams_to}
use Rattle.hc_aggregate.proofs.sending.send_each.Given as goal

-- what was there, and a datagram to each of the first addresses
abbrev pub invariant-addresses : goal.invariant-addresses
invariant-addresses l = l.sends.items ≡ l.initial.sends.items ++ datagrams_to l.from (take l.address-index l.to) l.bytes

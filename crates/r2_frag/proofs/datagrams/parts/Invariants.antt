use Rattle.std.proofs.Common.{◌≡◌, map}
use Rattle.std.specs.List.{range_with_len}
use Rattle.r2_frag.specs.Parts.{part_datagram}
use Rattle.r2_frag.proofs.datagrams.parts.Given as goal

abbrev pub invariant-parts : goal.invariant-parts
invariant-parts l = l.datagrams.items ≡ map (part_datagram l.spec l.body) (range_with_len 0 l.n)

-- The addresses so far are those of the first parts.
use Rattle.std.proofs.Common.{◌≢◌, AllPairs, map, take}
use Rattle.r2_base.specs.Addr.{addr_text}
use Rattle.hc_text.proofs.Lists.{AreRead, IsNamed}
use Rattle.hc_text.proofs.texts.read_addr_list.Given as goal

abbrev pub invariant-parts : goal.invariant-parts
invariant-parts l = record {
  read : AreRead IsNamed addr_text (take l.part-index (map (λ x. x.now) l.parts)) l.addrs.items;
  distinct : AllPairs (λ a b. a ≢ b) l.addrs.items;
}

-- The datagrams before this one were sent, and nothing else passed.
use Rattle.std.proofs.Common.{◌≤◌, [], take}
use Rattle.r2_link.specs.Links.{LinkPasses}
use Rattle.cmd_loop.proofs.turning.send_all.Given as goal

abbrev pub invariant-sends : goal.invariant-sends
invariant-sends g l = record {
  passed : LinkPasses (g.L.Link.told l.initial.link) (g.L.Link.told l.link) [] (take l.datagram-index l.sends);
  steady : g.L.Link.faults l.initial.link ≤ g.L.Link.faults l.link;
}

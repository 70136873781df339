use Rattle.std.proofs.Common.{◌≡◌, take}
use Rattle.std.specs.List.{flat_map}
use Rattle.r2_client.specs.Sendings.{request_to}
use Rattle.r2_client.proofs.sendings.send_to_each.Given as goal

abbrev pub invariant-targets : goal.invariant-targets
invariant-targets l = l.sends.items ≡ flat_map (request_to l.fn.me l.call) (take l.to-index l.targets)

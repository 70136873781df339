use Rattle.std.proofs.Common.{◌≡◌, ℕ, ◌++◌}
use Rattle.hc_member.specs.Setup.{address_of}
use Rattle.hc_member.specs.Sending.{Tell}
use Rattle.hc_node.proofs.Others.{sent_below}
use Rattle.hc_node.proofs.sending.tell_others.Given as goal

abbrev pub invariant-members : goal.invariant-members
invariant-members l = l.sends.items ≡ l.initial.sends.items ++ sent_below l.setup (λ (member : ℕ). Tell (address_of l.setup member) l.message) l.member

-- What a node that isn't spent says of its member.
use Rattle.std.proofs.Common.{ℕ, sym, ap, ◌∙◌}
use Rattle.std.specs.Prelude.{◌==◌}
use Rattle.hc_member.specs.Member.{Member}
use Rattle.hc_node.specs.Node.{NodeState}
use Rattle.cmd_replay.specs.Replica.{member_of}
use Rattle.cmd_replay.proofs.Replicas.{number-at, sound-at}
use Rattle.cmd_replay.proofs.replica.Replica.is_settled.Goals as goal

pub returns-clause-told : goal.returns-clause-told
returns-clause-told c =
    let n : NodeState = record { setup = c.args.self.now.setup; member = member_of c.args.self.now } in
    let applied = c.applied.ensures ∙ number-at (λ (m : Member). m.applied) n c.args.self.now.node c.requires.node in
    let commit = c.commit.ensures ∙ number-at (λ (m : Member). m.commit) n c.args.self.now.node c.requires.node in
    ap (λ (x : ℕ). x == c.commit.result) applied ∙ ap (λ (x : ℕ). (member_of c.args.self.now).applied == x) commit

pub returns-clause-sound : goal.returns-clause-sound
returns-clause-sound c =
    sound-at (record { setup = c.args.self.now.setup; member = member_of c.args.self.now }) c.args.self.now.node c.requires.node c.spent-spent.ensures.holds

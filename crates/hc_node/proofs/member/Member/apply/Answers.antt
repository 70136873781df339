use Rattle.std.proofs.Common.{◌^◌, sym, ap, subst, arith}
use Rattle.hc_store.specs.State.{IsCountedBelow}
use Rattle.hc_member.specs.Member.{Member}
use Rattle.hc_node.proofs.Finishing.{batch-fits}
use Rattle.hc_node.proofs.member.Member.apply.Goals as goal

pub overflow_add-self-inside : goal.overflow_add-self-inside
overflow_add-self-inside g c =
    let facts = batch-fits c.args.setup.now c.args.self.now c.requires.setup c.requires.sound in
    let applied = ap (λ (x : Member). x.applied) c.self.view_is in
    omega (arith, facts.end, facts.fits, applied)

pub run_batch-requires-clause-counts : goal.run_batch-requires-clause-counts
run_batch-requires-clause-counts g c κs within =
    subst (λ (m : Member). IsCountedBelow (2 ^ 59) m.service) (sym c.self.view_is)
    (batch-fits c.args.setup.now c.args.self.now c.requires.setup c.requires.sound).few

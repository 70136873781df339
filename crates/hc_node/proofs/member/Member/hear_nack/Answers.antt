use Rattle.std.proofs.Common.{◌≡◌, ◌≤◌, length, sym, ap, subst, arith}
use Rattle.r2_base.specs.Limits.{greatest_number}
use Rattle.hc_member.specs.Member.{Lead, Member}
use Rattle.hc_member.specs.Reports.{reached_by}
use Rattle.hc_node.proofs.ReportRows.{last-fits, reached-fits}
use Rattle.hc_node.proofs.member.Member.hear_nack.Goals as goal

pub turn_back-requires-clause-below : goal.turn_back-requires-clause-below
turn_back-requires-clause-below g c =
    let same : c.self.inside.lead ≡ c.args.self.now.lead = ap (λ (x : Member). x.lead) c.self.view_is in
    subst (λ (lead : Lead). reached_by lead c.args.member ≤ greatest_number) (sym same)
    (reached-fits c.args.setup.now c.args.self.now c.args.term c.args.member c.requires.sound (sym c.if-not-leads.ensures) c.requires.member)

pub turn_back-requires-clause-fits : goal.turn_back-requires-clause-fits
turn_back-requires-clause-fits g c =
    let size = ap (λ (x : Member). length x.log) c.self.view_is in
    let fits = last-fits c.args.setup.now c.args.self.now c.requires.sound in
    omega (arith, size, fits)

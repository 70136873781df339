use Rattle.std.proofs.Common.{◌≡◌, ◌<◌, ◌≤◌, length, sym, ap, subst, arith}
use Rattle.r2_base.specs.Limits.{greatest_number}
use Rattle.hc_member.specs.Member.{Lead, Member}
use Rattle.hc_member.specs.Reports.{reached_by}
use Rattle.hc_node.proofs.ReportRows.{has-queue, last-fits, reached-fits}
use Rattle.hc_node.proofs.member.Member.hear_ack.Goals as goal

pub note_reached-requires-clause-below : goal.note_reached-requires-clause-below
note_reached-requires-clause-below g c =
    let same : c.self.inside.lead ≡ c.args.self.now.lead = ap (λ (x : Member). x.lead) c.self.view_is in
    subst (λ (lead : Lead). reached_by lead c.args.member ≤ greatest_number) (sym same)
    (reached-fits c.args.setup.now c.args.self.now c.args.term c.args.member c.requires.sound (sym c.if-not-leads.ensures) c.requires.member)

pub note_reached-requires-clause-fits : goal.note_reached-requires-clause-fits
note_reached-requires-clause-fits g c =
    let size = ap (λ (x : Member). length x.log) c.self.view_is in
    let fits = last-fits c.args.setup.now c.args.self.now c.requires.sound in
    omega (arith, size, fits)

pub report-requires : goal.report-requires
report-requires g c =
    let same : c.self.inside.lead ≡ c.args.self.now.lead = ap (λ (x : Member). x.lead) c.self.view_is in
    let queue = has-queue c.args.setup.now c.args.self.now c.args.term c.args.member c.requires.setup c.requires.sound (sym c.if-not-leads.ensures) c.requires.member in
    rw c.note_reached.ensures (subst (λ (lead : Lead). c.args.member < length lead.queues) (sym same) queue)

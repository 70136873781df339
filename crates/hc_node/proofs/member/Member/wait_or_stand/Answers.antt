use Rattle.std.proofs.Common.{◌≡◌, true, sym, ap, subst, ◌∙◌}
use Rattle.hc_member.specs.Member.{Member}
use Rattle.hc_member.specs.Ticks.{is_impatient, waited}
use Rattle.hc_member.specs.Votes.{stands}
use Rattle.hc_node.proofs.TickRows.{MayCampaign, may-campaign}
use Rattle.hc_node.proofs.member.Member.wait_or_stand.Goals as goal

pub campaign-requires-clause-room : goal.campaign-requires-clause-room
campaign-requires-clause-room g c κs within =
    let s = c.args.setup.now in
    let m : Member = c.args.self.now in
    let stood : c.stand.new.self ≡ stands s (waited m) = c.in_ok-stand.ensures ∙ ap (stands s) c.wait.ensures in
    let impatient : is_impatient s (waited m) ≡ true = sym (ap (is_impatient s) c.wait.ensures) ∙ sym c.if-not-is_impatient.ensures.exact in
    let may : MayCampaign s c.stand.new.self = subst (MayCampaign s) (sym stood) (may-campaign s m c.requires.setup c.requires.sound impatient) in
    may.room

pub campaign-requires-clause-follows : goal.campaign-requires-clause-follows
campaign-requires-clause-follows g c κs within =
    let s = c.args.setup.now in
    let m : Member = c.args.self.now in
    let stood : c.stand.new.self ≡ stands s (waited m) = c.in_ok-stand.ensures ∙ ap (stands s) c.wait.ensures in
    let impatient : is_impatient s (waited m) ≡ true = sym (ap (is_impatient s) c.wait.ensures) ∙ sym c.if-not-is_impatient.ensures.exact in
    let may : MayCampaign s c.stand.new.self = subst (MayCampaign s) (sym stood) (may-campaign s m c.requires.setup c.requires.sound impatient) in
    may.follows

pub campaign-requires-clause-message : goal.campaign-requires-clause-message
campaign-requires-clause-message g c κs within =
    let s = c.args.setup.now in
    let m : Member = c.args.self.now in
    let stood : c.stand.new.self ≡ stands s (waited m) = c.in_ok-stand.ensures ∙ ap (stands s) c.wait.ensures in
    let impatient : is_impatient s (waited m) ≡ true = sym (ap (is_impatient s) c.wait.ensures) ∙ sym c.if-not-is_impatient.ensures.exact in
    let may : MayCampaign s c.stand.new.self = subst (MayCampaign s) (sym stood) (may-campaign s m c.requires.setup c.requires.sound impatient) in
    may.message

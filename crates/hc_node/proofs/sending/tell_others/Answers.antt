-- Each turn of the loop goes to one member more.
use Rattle.std.proofs.Common.{◌≡◌, ℕ, ◌++◌, length, refl, sym, ap, ◌∙◌, arith}
use Rattle.r2_base.specs.declared.addr.Addr.{Addr}
use Rattle.hc_member.specs.Setup.{address_of}
use Rattle.hc_member.specs.Sending.{Sending, Tell, datagrams_of}
use Rattle.hc_node.proofs.Others.{sent_below, step-next, step-passed}
use Rattle.hc_node.proofs.sending.tell_others.Goals.{then-is_other+in_ok-tell, else-is_other}
use Rattle.hc_node.proofs.sending.tell_others.Goals as goal

pub members-preserved : goal.members-preserved
members-preserved c =
    let s = c.args.setup.now in
    let message = c.args.message.now in
    let f : ℕ → Sending = λ (member : ℕ). Tell (address_of s member) message in
    let so_far = c.members.invariant in
    elim c.if-is_other.branch [
      | then-is_other+in_ok-tell w ↦
          step-next s f c.members.member c.args.sends.now.items c.members.sends.items c.if-is_other.sends.items so_far
          (sym c.is_other.ensures.other ∙ w.if-is_other.true)
          (rw (w.sends-is, w.in_ok-tell.ensures) (ap (λ (to : Addr). c.members.sends.items ++ datagrams_of s (Tell to message)) w.address_of.ensures))
      | else-is_other w ↦
          step-passed s f c.members.member c.args.sends.now.items c.members.sends.items c.if-is_other.sends.items so_far
          (sym c.is_other.ensures.other ∙ w.if-is_other.false)
          (rw w.sends-is refl)
    ]

pub returns : goal.returns
returns c =
    let s = c.args.setup.now in
    let f : ℕ → Sending = λ (member : ℕ). Tell (address_of s member) c.args.message.now in
    let all : c.members.member ≡ c.members-member-end.result = omega arith in
    let end : c.members.member ≡ length s.members = all ∙ c.members-member-end.ensures in
    c.members.invariant ∙ ap (λ (n : ℕ). c.args.sends.now.items ++ sent_below s f n) end

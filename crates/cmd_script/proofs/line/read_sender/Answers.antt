use Rattle.std.proofs.Common.{subst, sym}
use Rattle.r2_base.specs.Addr.{IsAddrText}
use Rattle.cmd_script.proofs.Lines.{behind_in, address_is_split}
use Rattle.cmd_script.proofs.line.read_sender.Goals as goal

pub returns-in_err-address-clause-only : goal.returns-in_err-address-clause-only
returns-in_err-address-clause-only c = λ from digits sent. absurd (
    c.in_err-address.ensures.only sent.address digits (address_is_split from sent.address _ digits sent.named (c.in_ok-rest.ensures.only _ (behind_in _ _ _ sent)))
    )

pub returns-in_err-from-clause-only : goal.returns-in_err-from-clause-only
returns-in_err-from-clause-only c = λ from digits sent.
    let cut = c.in_ok-address.ensures.only sent.address digits (address_is_split from sent.address _ digits sent.named (c.in_ok-rest.ensures.only _ (behind_in _ _ _ sent))) in
    let read = c.in_err-from.ensures.only from (subst (IsAddrText from) (sym cut.0) sent.named) in
    cc

pub returns-clause-only : goal.returns-clause-only
returns-clause-only c = λ from digits sent.
    let cut = c.in_ok-address.ensures.only sent.address digits (address_is_split from sent.address _ digits sent.named (c.in_ok-rest.ensures.only _ (behind_in _ _ _ sent))) in
    let read = c.in_ok-from.ensures.only from (subst (IsAddrText from) (sym cut.0) sent.named) in
    (cc, cut.1)

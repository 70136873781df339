use Rattle.std.proofs.Common.{◌∙◌, ap, sym}
use Rattle.std.proofs.lemmas.Result.{IfOk-weaker}
use Rattle.hc_text.specs.End.{reply_text}
use Rattle.hc_text.proofs.Ends.{reply_text-whole}
use Rattle.hc_text.proofs.end.reply_text.Goals as goal

pub returns : goal.returns
returns c =
    let x = c.in-Some in
    let whole = c.in-Some.ensures.whole in
    IfOk-weaker c.served_text.result _ _ (λ text is. is ∙ sym (ap reply_text whole.1 ∙ reply_text-whole x.index x.status x.value.now whole.0)) c.served_text.ensures

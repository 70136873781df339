-- An octet's text is split at the byte that ends it, and the text before that byte is read whole.
use Rattle.std.proofs.Common.{arith}
use Rattle.r2_base.proofs.AddrTexts.{octet_split}
use Rattle.r2_base.proofs.addr.read_octet.Goals as goal

pub returns-in_err-front-clause-only : goal.returns-in_err-front-clause-only
returns-in_err-front-clause-only c n rest fits same =
    absurd (c.in_err-front.ensures.only _ rest (octet_split c.args.end n c.args.text.now rest c.requires fits same))

pub returns-in_err-octet-clause-only : goal.returns-in_err-octet-clause-only
returns-in_err-octet-clause-only c n rest fits same =
    let split = c.in_ok-front.ensures.only _ rest (octet_split c.args.end n c.args.text.now rest c.requires fits same) in
    cc (c.in_err-octet.ensures.only n (omega arith) split.0)

pub returns-clause-only : goal.returns-clause-only
returns-clause-only c n rest fits same =
    let split = c.in_ok-front.ensures.only _ rest (octet_split c.args.end n c.args.text.now rest c.requires fits same) in
    (cc (c.in_ok-octet.ensures.only n (omega arith) split.0), split.1)

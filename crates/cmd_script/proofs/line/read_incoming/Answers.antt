use Rattle.std.proofs.Common.{ap, ◌∙◌}
use Rattle.hex.specs.Hex.{decode_of}
use Rattle.cmd_script.proofs.Lines.{is_sent}
use Rattle.cmd_script.proofs.line.read_incoming.Goals as goal

pub returns-in_default-clause-only : goal.returns-in_default-clause-only
returns-in_default-clause-only c =
    λ from bytes said. absurd (c.in_default.ensures.only from said.digits (is_sent _ _ _ said))

pub returns-in-Err-clause-only : goal.returns-in-Err-clause-only
returns-in-Err-clause-only c = λ from bytes said.
    let cut = c.in-Some.ensures.only from said.digits (is_sent _ _ _ said) in
    c.in-Err.ensures.only bytes (ap decode_of cut.1 ∙ said.decoded)

pub returns-clause-only : goal.returns-clause-only
returns-clause-only c = λ from bytes said.
    let cut = c.in-Some.ensures.only from said.digits (is_sent _ _ _ said) in
    let same = c.in-Ok.ensures.only bytes (ap decode_of cut.1 ∙ said.decoded) in
    cc

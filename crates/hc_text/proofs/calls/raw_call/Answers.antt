use Rattle.hc_text.specs.Call.{IsValueText}
use Rattle.hc_text.proofs.CallLines.{mode_parts}
use Rattle.hc_text.proofs.calls.raw_call.Goals as goal

pub returns-in-Err-clause-only : goal.returns-in-Err-clause-only
returns-in-Err-clause-only c = λ call s.
    let parts = mode_parts call.read (IsValueText call.body) _ _ _ c.in-Some.ensures.only s in
    c.in-Err.ensures.only call.body parts.1

use Rattle.std.proofs.Common.{◌∙◌}
use Rattle.hc_text.specs.Call.{IsValueText}
use Rattle.hc_text.proofs.CallLines.{put_is, spaced_value, value_parts}
use Rattle.hc_text.proofs.calls.put_call.Goals as goal

pub returns-in_default-clause-only : goal.returns-in_default-clause-only
returns-in_default-clause-only c = λ key value s fits. absurd (c.in_default.ensures.only s.word s.rest (spaced_value key _ s))

pub returns-in-Err-clause-only : goal.returns-in-Err-clause-only
returns-in-Err-clause-only c = λ key value s fits.
    let parts = value_parts key (IsValueText value) _ _ _ c.in-Some.ensures.only s in
    c.in-Err.ensures.only key parts.0 fits

pub returns-in-Err-read_value-clause-only : goal.returns-in-Err-read_value-clause-only
returns-in-Err-read_value-clause-only c = λ key value s fits.
    let parts = value_parts key (IsValueText value) _ _ _ c.in-Some.ensures.only s in
    c.in-Err-read_value.ensures.only value parts.1

pub returns-clause-only : goal.returns-clause-only
returns-clause-only c = λ key value s fits.
    let parts = value_parts key (IsValueText value) _ _ _ c.in-Some.ensures.only s in
    put_is _ _ _ key value c.in_ok-body.ensures (c.as_slice.ensures ∙ c.in-Ok.ensures.only key parts.0 fits)
    (c.as_slice-2.ensures ∙ c.in-Ok-read_value.ensures.only value parts.1)

use Rattle.std.proofs.Common.{◌∙◌, arith}
use Rattle.hc_text.specs.Call.{IsLimitText}
use Rattle.hc_text.proofs.CallLines.{scan_is, some_same, spaced_value, value_parts}
use Rattle.hc_text.proofs.calls.scan_call.Goals as goal

pub returns-in_default-clause-only : goal.returns-in_default-clause-only
returns-in_default-clause-only c = λ key limit s fits. absurd (c.in_default.ensures.only s.word s.rest (spaced_value key _ s))

pub returns-in-Err-clause-only : goal.returns-in-Err-clause-only
returns-in-Err-clause-only c = λ key limit s fits.
    let parts = value_parts key (IsLimitText limit) _ _ _ c.in-Some.ensures.only s in
    c.in-Err.ensures.only key parts.0 fits

pub returns-in_default-read_decimal-clause-only : goal.returns-in_default-read_decimal-clause-only
returns-in_default-read_decimal-clause-only c = λ key limit s fits.
    let parts = value_parts key (IsLimitText limit) _ _ _ c.in-Some.ensures.only s in
    cc (c.in_default-read_decimal.ensures.only limit (omega (arith, parts.1.fits)) parts.1.spelled)

pub returns-clause-only : goal.returns-clause-only
returns-clause-only c = λ key limit s fits.
    let parts = value_parts key (IsLimitText limit) _ _ _ c.in-Some.ensures.only s in
    let same_limit = c.in-Some-read_decimal.ensures.only limit (omega (arith, parts.1.fits)) parts.1.spelled in
    scan_is _ _ key _ limit c.in_ok-body.ensures (c.as_slice.ensures ∙ c.in-Ok.ensures.only key parts.0 fits) (some_same _ limit same_limit)

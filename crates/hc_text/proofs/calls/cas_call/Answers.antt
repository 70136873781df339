use Rattle.std.proofs.Common.{◌∙◌}
use Rattle.hc_text.specs.Call.{IsValueText, Spaced}
use Rattle.hc_text.proofs.CallLines.{cas_is, spaced_value, split_spaced, value_parts}
use Rattle.hc_text.proofs.calls.cas_call.Goals as goal

pub returns-in_default-clause-only : goal.returns-in_default-clause-only
returns-in_default-clause-only c = λ key old new s fits_key fits_old. absurd (c.in_default.ensures.only s.word s.rest (spaced_value key _ s))

pub returns-in_default-split_once-clause-only : goal.returns-in_default-split_once-clause-only
returns-in_default-split_once-clause-only c = λ key old new s fits_key fits_old.
    let parts = value_parts key (Spaced (IsValueText old) (IsValueText new)) _ _ _ c.in-Some.ensures.only s in
    absurd (c.in_default-split_once.ensures.only parts.1.word parts.1.rest (spaced_value old _ parts.1))

pub returns-in-Err-clause-only : goal.returns-in-Err-clause-only
returns-in-Err-clause-only c = λ key old new s fits_key fits_old.
    let parts = value_parts key (Spaced (IsValueText old) (IsValueText new)) _ _ _ c.in-Some.ensures.only s in
    c.in-Err.ensures.only key parts.0 fits_key

pub returns-in-Err-read_sized-clause-only : goal.returns-in-Err-read_sized-clause-only
returns-in-Err-read_sized-clause-only c = λ key old new s fits_key fits_old.
    let parts = value_parts key (Spaced (IsValueText old) (IsValueText new)) _ _ _ c.in-Some.ensures.only s in
    let more = value_parts old (IsValueText new) _ _ _ c.in-Some-split_once.ensures.only parts.1 in
    c.in-Err-read_sized.ensures.only old more.0 fits_old

pub returns-in-Err-read_value-clause-only : goal.returns-in-Err-read_value-clause-only
returns-in-Err-read_value-clause-only c = λ key old new s fits_key fits_old.
    let parts = value_parts key (Spaced (IsValueText old) (IsValueText new)) _ _ _ c.in-Some.ensures.only s in
    let more = value_parts old (IsValueText new) _ _ _ c.in-Some-split_once.ensures.only parts.1 in
    c.in-Err-read_value.ensures.only new more.1

pub returns-clause-found : goal.returns-clause-found
returns-clause-found c =
    let key = c.in-Ok.key in
    let old = c.in-Ok-read_sized.old in
    let new = c.in-Ok-read_value.new in
    let values = split_spaced (IsValueText old) (IsValueText new) _ _ _ c.in-Some-split_once.ensures.found c.in-Ok-read_sized.ensures.found.0 c.in-Ok-read_value.ensures.found in
    let whole = split_spaced (IsValueText key) (Spaced (IsValueText old) (IsValueText new)) _ _ _ c.in-Some.ensures.found c.in-Ok.ensures.found.0 values in (
      key,
      old,
      new,
      whole,
      c.in-Ok.ensures.found.1,
      c.in-Ok-read_sized.ensures.found.1,
      cas_is _ _ _ _ key old new c.in_ok-body.ensures c.as_slice.ensures c.as_slice-2.ensures c.as_slice-3.ensures,
    )

pub returns-clause-only : goal.returns-clause-only
returns-clause-only c = λ key old new s fits_key fits_old.
    let parts = value_parts key (Spaced (IsValueText old) (IsValueText new)) _ _ _ c.in-Some.ensures.only s in
    let more = value_parts old (IsValueText new) _ _ _ c.in-Some-split_once.ensures.only parts.1 in
    cas_is _ _ _ _ key old new c.in_ok-body.ensures (c.as_slice.ensures ∙ c.in-Ok.ensures.only key parts.0 fits_key)
    (c.as_slice-2.ensures ∙ c.in-Ok-read_sized.ensures.only old more.0 fits_old)
    (c.as_slice-3.ensures ∙ c.in-Ok-read_value.ensures.only new more.1)

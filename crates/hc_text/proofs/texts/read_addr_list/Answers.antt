-- The parts name the addresses of the list, one after another.
use Rattle.std.proofs.Common.{◌∙◌, ap, arith, rules}
use Rattle.r2_base.specs.Addr.{addr_text}
use Rattle.hc_text.proofs.Lists.{as_many, parts-addrs}
use Rattle.hc_text.proofs.Reading.{addrs_found, addrs_one, addrs_only, next_addr, texts}
use Rattle.hc_text.proofs.texts.read_addr_list.Goals as goal

pub returns-then-parts-most-clause-only : goal.returns-then-parts-most-clause-only
returns-then-parts-most-clause-only c = λ list is.
    absurd (omega (arith, is.few, c.if-parts-most.true, as_many addr_text _ _ list (ap texts c.as_slice-parts.ensures.value ∙ c.in-Ok.ensures) (parts-addrs list _ is)))

pub returns-in_err-push_addr-clause-only : goal.returns-in_err-push_addr-clause-only
returns-in_err-push_addr-clause-only c = λ list is.
    let next = next_addr _ _ _ _ list _ _ (ap texts c.as_slice-parts.ensures.value ∙ c.in-Ok.ensures) c.parts.invariant.read c.parts-test.true c.as_bytes.ensures.value is in
    search (rules, c.in_err-push_addr.ensures.only next.a next.named next.fresh)

pub parts-preserved : goal.parts-preserved
parts-preserved c =
    let found = c.in_ok-push_addr.ensures.found in
    let more = addrs_one _ _ _ _ found.0 _ _ c.parts.invariant.read c.parts.invariant.distinct c.parts-test.true c.as_bytes.ensures.value found.1 found.2 found.3 in
    record { read = more.read; distinct = more.distinct }

pub returns-clause-found : goal.returns-clause-found
returns-clause-found c =
    addrs_found _ _ _ _ _ _ (ap texts c.as_slice-parts.ensures.value ∙ c.in-Ok.ensures) c.parts.invariant.read c.parts.invariant.distinct c.parts-test.false c.if-parts-most.false c.from_vec.ensures

pub returns-clause-only : goal.returns-clause-only
returns-clause-only c = λ list is.
    addrs_only _ _ _ _ _ list (ap texts c.as_slice-parts.ensures.value ∙ c.in-Ok.ensures) c.parts.invariant.read c.parts-test.false c.from_vec.ensures is

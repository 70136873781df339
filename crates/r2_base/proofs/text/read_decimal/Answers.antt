-- Each `None` is at a text that no number within the bound has.
use Rattle.std.proofs.Common.{◌≢◌, ◌<◌, length, get_or, arith, take_all}
use Rattle.r2_base.proofs.Decimals.{IsRead, read_more, read_whole, decimal_value, decimal_is_some, decimal_leads, decimal_goes_on}
use Rattle.r2_base.proofs.text.read_decimal.Goals as goal

pub returns-then-is_empty-clause-only : goal.returns-then-is_empty-clause-only
returns-then-is_empty-clause-only c n within same =
    let some = decimal_is_some n c.args.text.now (omega arith) same in
    absurd (grind (arith, some))

pub returns-then-has_leading_zero-clause-only : goal.returns-then-has_leading_zero-clause-only
returns-then-has_leading_zero-clause-only c n within same =
    let leading = c.has_leading_zero.ensures.0 c.if-has_leading_zero.true in
    absurd (decimal_leads n c.args.text.now (omega arith) same leading.0 leading.1)

pub returns-in_err-value-clause-only : goal.returns-in_err-value-clause-only
returns-in_err-value-clause-only c n within same =
    let on = decimal_goes_on c.digits.value c.digits.digit-index n c.args.text.now c.digits.invariant.so_far c.digits-test.true (omega arith) same in
    absurd (c.in_err-value.ensures (on.0, on.1, omega arith))

pub digits-preserved : goal.digits-preserved
digits-preserved c =
    let read = c.in_ok-value.ensures in
    record {
      so_far = rw read.1 (read_more c.digits.value c.digits.digit-index c.args.text.now c.digits.invariant.so_far c.digits-test.true read.0.0 read.0.1);
      within = rw read.1 read.0.2;
    }

pub returns-clause-found : goal.returns-clause-found
returns-clause-found c =
    let some : 0 < length c.args.text.now = grind arith in
    let all : IsRead c.digits.value c.args.text.now = rw (take_all c.digits.digit-index c.args.text.now c.digits-test.false) at c.digits.invariant.so_far in
    let leads : 1 < length c.args.text.now → get_or c.args.text.now 0 0 ≢ 48 =
    λ more zero_first. cc (c.has_leading_zero.ensures.1 (more, zero_first)) in
    (c.digits.invariant.within, read_whole c.digits.value c.args.text.now all some leads (omega arith))

pub returns-clause-only : goal.returns-clause-only
returns-clause-only c n within same =
    let all : IsRead c.digits.value c.args.text.now = rw (take_all c.digits.digit-index c.args.text.now c.digits-test.false) at c.digits.invariant.so_far in
    cc (decimal_value c.digits.value n c.args.text.now all (omega arith) same)

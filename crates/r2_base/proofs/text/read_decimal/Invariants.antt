-- The bytes so far are digits, and they write the value.
use Rattle.std.proofs.Common.{◌≤◌, take}
use Rattle.r2_base.proofs.Decimals.{IsRead}
use Rattle.r2_base.proofs.text.read_decimal.Given as goal

abbrev pub invariant-digits : goal.invariant-digits
invariant-digits l = record {
  so_far : IsRead l.value (take l.digit-index l.text);
  within : l.value ≤ l.most;
}

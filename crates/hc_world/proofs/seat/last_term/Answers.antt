use Rattle.std.proofs.Common.{◌≡◌, ◌+◌, ◌-◌, ℕ, length, Bool, true, false, ap, sym, ◌∙◌, arith}
use Rattle.std.specs.Prelude.{◌==◌}
use Rattle.std.proofs.lemmas.Bool.Decides.{nat_tests}
use Rattle.std.proofs.lemmas.List.{nil_from_length}
use Rattle.hc_log.specs.declared.record.Record.{Record}
use Rattle.hc_world.proofs.Seats.{last-term, no-term}
use Rattle.hc_world.proofs.seat.last_term.Goals as goal

is-none : (n : ℕ) (b : Bool) → b ≡ (n == 0) → b ≡ true → n ≡ 0
is-none n b e t = grind (arith, nat_tests)

is-last : (n : ℕ) (b : Bool) → b ≡ (n == 0) → b ≡ false → n - 1 + 1 ≡ n
is-last n b e f = grind (arith, nat_tests)

pub returns-then-is_empty : goal.returns-then-is_empty
returns-then-is_empty c =
    no-term c.args.records.now (nil_from_length c.args.records.now (is-none (length c.args.records.now) c.is_empty.result c.is_empty.ensures c.if-is_empty.true))

pub returns : goal.returns
returns c =
    let records = c.args.records.now in
    let i = length records - 1 in
    let last = is-last (length records) c.is_empty.result c.is_empty.ensures c.if-is_empty.false in
    let is = c.index-records-records.is in
    ap (λ (r : Record). r.term) (sym is) ∙ last-term records i c.index-records-records.result last is

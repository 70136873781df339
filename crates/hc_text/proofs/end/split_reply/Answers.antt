use Rattle.std.proofs.Common.{◌≡◌, ◌++◌, length, arith, ap, length-append}
use Rattle.r2_base.specs.Numbers.{u64_bytes}
use Rattle.r2_base.proofs.NumberBytes.{length-u64_bytes}
use Rattle.hc_text.proofs.end.split_reply.Goals as goal

pub returns-in_err-status-clause-short : goal.returns-in_err-status-clause-short
returns-in_err-status-clause-short c =
    let index = c.in_ok-index.index in
    let behind = c.in_ok-index.behind.now in
    let none : length behind ≡ 0 = c.in_err-status.ensures.cases in
    let whole : length c.args.payload.now ≡ length (u64_bytes index ++ behind) = ap length c.in_ok-index.ensures.found in
    rw c.from_residual-in_err-status.ensures (omega (arith, whole, none, length-append (u64_bytes index) behind, length-u64_bytes index))

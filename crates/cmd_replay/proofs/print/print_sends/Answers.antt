use Rattle.std.proofs.Common.{arith}
use Rattle.cmd_status.proofs.Reports.{then_stops}
use Rattle.cmd_replay.proofs.Prints.{sent_one_more, sent_in_part}
use Rattle.cmd_replay.proofs.print.print_sends.Goals as goal

pub returns-in-Err-clause-prefix : goal.returns-in-Err-clause-prefix
returns-in-Err-clause-prefix g c =
    sent_in_part _ _ _ _ _ _ c.sends-test.true c.datagram-item.is c.sends.invariant.0 c.in-Err.ensures.prefix

pub returns-in-Err-clause-stops : goal.returns-in-Err-clause-stops
returns-in-Err-clause-stops g c = then_stops _ _ _ c.in-Err.status c.sends.invariant.1 c.in-Err.ensures.stops

pub returns-in-Err-clause-steady : goal.returns-in-Err-clause-steady
returns-in-Err-clause-steady g c = omega (arith, c.sends.invariant.1, c.in-Err.ensures.steady)

pub sends-preserved : goal.sends-preserved
sends-preserved g c = (
  sent_one_more _ _ _ _ _ _ c.sends-test.true c.datagram-item.is c.sends.invariant.0 c.in_default.ensures.whole,
  omega (arith, c.sends.invariant.1, c.in_default.ensures.steady),
)

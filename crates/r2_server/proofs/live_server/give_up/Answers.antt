use Rattle.std.proofs.Common.{refl}
use Rattle.r2_server.specs.Timers.{due, given_up}
use Rattle.r2_server.proofs.GivingUp.{given_up-more, sent-more}
use Rattle.r2_server.proofs.live_server.give_up.Goals as goal

pub timers-init : goal.timers-init
unfolding due given_up
timers-init c = record { messages = refl; sends = c.new-sends.ensures }

pub timers-preserved : goal.timers-preserved
timers-preserved c = record {
  messages = given_up-more _ _ _ _ _ _ _ c.timers-test.true c.timers.invariant.messages c.in_ok-give_up_if_due.ensures.messages;
  sends = sent-more _ _ _ _ _ _ _ c.timers-test.true c.timers.invariant.sends c.in_ok-give_up_if_due.ensures.sends;
}

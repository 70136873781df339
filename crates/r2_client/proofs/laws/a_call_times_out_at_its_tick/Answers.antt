use Rattle.r2_client.proofs.Timing.{times_out}
use Rattle.r2_client.proofs.laws.a_call_times_out_at_its_tick.Goals as goal

pub returns : goal.returns
returns c = times_out

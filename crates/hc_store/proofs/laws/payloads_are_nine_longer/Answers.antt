use Rattle.hc_store.proofs.Short.{length-payload_of}
use Rattle.hc_store.proofs.laws.payloads_are_nine_longer.Goals as goal

pub returns : goal.returns
returns c = length-payload_of

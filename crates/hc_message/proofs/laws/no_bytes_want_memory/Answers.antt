use Rattle.hc_message.proofs.Taken.{no_bytes_want_memory}
use Rattle.hc_message.proofs.laws.no_bytes_want_memory.Goals as goal

pub returns : goal.returns
returns c = no_bytes_want_memory

use Rattle.r2_header.proofs.Begun.{what_is_read_is_spelled}
use Rattle.r2_header.proofs.laws.what_is_read_is_spelled.Goals as goal

pub returns : goal.returns
returns c = what_is_read_is_spelled

use Rattle.r2_frag.proofs.PartLaws.{parts_have_the_key}
use Rattle.r2_frag.proofs.laws.datagrams_have_their_key.Goals as goal

pub returns : goal.returns
returns c = parts_have_the_key

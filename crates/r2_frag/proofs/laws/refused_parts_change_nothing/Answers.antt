use Rattle.r2_frag.proofs.OnePart.{refused_changes_nothing}
use Rattle.r2_frag.proofs.laws.refused_parts_change_nothing.Goals as goal

pub returns : goal.returns
returns c = refused_changes_nothing
